-- What a call changes in anything that is read of the slot of a place, as in the content that is held there.
use Rattle.std.proofs.Common.{◌≡◌, ℕ, ◌==◌, ◌&&◌, Bool, true, false, Option, Some, None, nat_lt, cond, ap}
use Rattle.std.specs.Prelude.{if◌then◌else◌}
use Rattle.rtpwire.specs.declared.content.Content.{Content}
use Rattle.stores.specs.declared.slot.Slot.{Slot}
use Rattle.stores.specs.declared.slot.Slot.TheVariants.{Held}
use Rattle.stores.specs.Span.{Span, highest_of}
use Rattle.stores.specs.Put.{noticed_at}
use Rattle.stores.specs.ByPlace.{slot_at, is_above, StartsWith, Gains, LosesFront}

of_choice : {A B : Type 0} (f : A → B) (b : Bool) (x y z : A) → z ≡ cond b x y → f z ≡ cond b (f x) (f y)
of_choice f true x y z e = ap f e
of_choice f false x y z e = ap f e

of_choices : {A B : Type 0} (f : A → B) (a b c : Bool) (w x y o z : A) → z ≡ cond a w (cond b x (cond c y o)) → f z ≡ cond a (f w) (cond b (f x) (cond c (f y) (f o)))
of_choices f true b c w x y o z e = ap f e
of_choices f false true c w x y o z e = ap f e
of_choices f false false true w x y o z e = ap f e
of_choices f false false false w x y o z e = ap f e

-- after the window started
pub read_started : {A : Type 0} (f : Option Slot → A) (old new : Span) (p : ℕ) (content : Content) → StartsWith old new p content → (q : ℕ) →
    f (slot_at new q) ≡ (if q == p then f (Some (Held content)) else f None)
read_started f old new p content starts q = of_choice f (q == p) _ _ _ (starts.slots q)

-- after a put
pub read_gained : {A : Type 0} (f : Option Slot → A) (old new : Span) (k p : ℕ) (content : Content) (now : ℕ) → Gains old new k p content now → (q : ℕ) →
    f (slot_at new q)
    ≡ (if q == p then f (Some (Held content)) else (if nat_lt q k then f None else (if is_above (highest_of old) q && nat_lt q p then f (Some (noticed_at now)) else f (slot_at old q))))
read_gained f old new k p content now gains q = of_choices f (q == p) (nat_lt q k) _ _ _ _ _ _ (gains.slots q)

-- after the front was taken out
pub read_without_front : {A : Type 0} (f : Option Slot → A) (old : Span) (slot : Slot) (new : Span) (k : ℕ) → LosesFront old slot new k → (q : ℕ) →
    f (slot_at new q) ≡ (if q == k then f None else f (slot_at old q))
read_without_front f old slot new k loses q = of_choice f (q == k) _ _ _ (loses.slots q)
