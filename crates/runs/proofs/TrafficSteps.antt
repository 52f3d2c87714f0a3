-- What a link tells, transfer by transfer, and what of a hand-over was done.
use Rattle.std.proofs.Common.{◌≡◌, ℕ, ◌<◌, ◌≤◌, Bool, Bor, List, [], ◌∷◌, ◌++◌, Option, Some, None, IsSome, MatchOption, Result, Ok, Err, OnOk, OnErr, ⊎_elim, slice_get, refl, sym, ap, subst, ◌∙◌, append-nil, append_assoc, arith, rules}
use Rattle.arrayvec.specs.ArrayVec.{ArrayVec}
use Rattle.world.specs.declared.event.End.{End}
use Rattle.world.specs.declared.event.Label.{Label}
use Rattle.world.specs.Answers.{Item}
use Rattle.runs.specs.declared.link.Transfer.{Transfer}
use Rattle.runs.specs.declared.link.Transfer.TheVariants.{Put}
use Rattle.runs.specs.Traffic.{Grows, MayGrow, receipt}
use Rattle.runs.specs.Exchange.{IsOnWire, IsHandOverBegun}

pub on_err : {T E : Type 0} (r : Result T E) (P : Type 0) → P → OnErr r P
on_err (Ok x) P p = tt
on_err (Err e) P p = p

pub if_ok : {T E : Type 0} (r : Result T E) (P Q : Type 0) → (P → Q) → OnOk r P → OnOk r Q
if_ok (Ok x) P Q f p = f p
if_ok (Err e) P Q f p = tt

pub if_err : {T E : Type 0} (r : Result T E) (P Q : Type 0) → (P → Q) → OnErr r P → OnErr r Q
if_err (Ok x) P Q f p = tt
if_err (Err e) P Q f p = f p

pub grows_nothing : (told : Option (List Transfer)) → Grows told [] told
grows_nothing None = tt
grows_nothing (Some told) = ap (λ (x : List Transfer). Some x) (sym (append-nil told))

pub grows_then : (a b c : Option (List Transfer)) (xs ys : List Transfer) → Grows a xs b → Grows b ys c → Grows a (xs ++ ys) c
grows_then None b c xs ys first more = tt
grows_then (Some told) b c xs ys first more =
    let after : Grows (Some (told ++ xs)) ys c = subst (λ (o : Option (List Transfer)). Grows o ys c) first more in
    after ∙ ap (λ (x : List Transfer). Some x) (append_assoc told xs ys)

-- ---- a hand-over

-- a datagram that is read lies on the wire
pub on_wire_at : (wire : List Item) (index : ℕ) (found : Label × Bor (List ℕ)) → slice_get wire index ≡ Some (found.0, record { items = found.1.now }) → IsOnWire wire index (record { items = found.1.now })
on_wire_at wire index found is = (found.0, is)

-- within the wire one is read
pub is_read : (count index : ℕ) (read : Option (Label × Bor (List ℕ))) (P : Label × Bor (List ℕ) → Type 0) → index < count → MatchOption read (count ≤ index) P → IsSome read
is_read count index None P within past = absurd (omega (arith, past))
is_read count index (Some found) P within is = search rules

abbrev pub put : End → List ℕ → Transfer
put to octets = Put to (record { items = octets })

-- a datagram that was put, by its octets
pub grows_put : (to : End) (octets : List ℕ) (datagram : ArrayVec ℕ) (a b : Option (List Transfer)) → octets ≡ datagram.items → Grows a (put to octets ∷ []) b → Grows a (Put to datagram ∷ []) b
grows_put to octets datagram a b is grows = subst (λ (xs : List ℕ). Grows a (put to xs ∷ []) b) is grows

-- the put may be missing
pub begun_put : (to : End) (index : ℕ) (wire : List Item) (datagram : ArrayVec ℕ) (octets : List ℕ) (a b : Option (List Transfer)) → octets ≡ datagram.items → IsOnWire wire index datagram → MayGrow a (put to octets) b
    → (begun : List Transfer) × IsHandOverBegun to index wire begun × Grows a begun b
begun_put to index wire datagram octets None b is on may = ([], tt, tt)
begun_put to index wire datagram octets (Some told) b is on may =
    ⊎_elim
    (λ (same : b ≡ Some told). let h : Grows (Some told) [] b = same ∙ ap (λ (x : List Transfer). Some x) (sym (append-nil told)) in ([], tt, h))
    (λ (more : b ≡ Some (told ++ put to octets ∷ [])). let h : Grows (Some told) (Put to datagram ∷ []) b = grows_put to octets datagram (Some told) b is more in (Put to datagram ∷ [], (refl, on), h))
    may

-- what came after the put
pub grows_receipt : (it b : Bool) (to : End) (datagram came : ArrayVec ℕ) (x y z : Option (List Transfer)) → it ≡ b → Grows x (Put to datagram ∷ []) y → Grows y (receipt it to came ∷ []) z
    → Grows x (Put to datagram ∷ receipt b to came ∷ []) z
grows_receipt it b to datagram came x y z is first more =
    grows_then x y z (Put to datagram ∷ []) (receipt b to came ∷ []) first (subst (λ (v : Bool). Grows y (receipt v to came ∷ []) z) is more)
