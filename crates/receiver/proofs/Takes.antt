-- A put of the window is a take of the receiver.
use Rattle.std.proofs.Common.{◌≡◌, ◌≢◌, ◌⊎◌, ℕ, ◌+◌, ◌-◌, ◌<◌, ◌≤◌, ◌==◌, ◌&&◌, Bool, true, false, cond, List, length, max, Option, Some, None, Result, Ok, nat_lt, arith, refl, ap, sym, subst, slice_get, ◌∙◌, inl, inr, eq-eqb}
use Rattle.std.specs.Prelude.{IsSomeAnd}
use Rattle.std.specs.Option.{option_map}
use Rattle.std.proofs.lemmas.Option.{slice_get_past, same_Some}
use Rattle.std.proofs.lemmas.Bool.{cases_Bool, cases_lt, eqb-true, lt-ltb, le-ltb}
use Rattle.rtpwire.specs.declared.content.Content.{Content}
use Rattle.stores.specs.declared.slot.Slot.{Slot}
use Rattle.stores.specs.declared.slot.Slot.TheVariants.{Held, Missing}
use Rattle.stores.specs.Span.{Span, IsSpan}
use Rattle.stores.specs.Put.{overrun_of}
use Rattle.stores.specs.ByPlace.{slot_at, PutStep, StartsWith, Gains, IsHeld}
use Rattle.receiver.specs.declared.answer.Taken.{Taken}
use Rattle.receiver.specs.declared.fault.ReceiveFault.{ReceiveFault}
use Rattle.receiver.specs.Receiver.{IsUnlearnt}
use Rattle.receiver.specs.Window.{ReceiverState, Starts, Takes, StartsAt, AnswersPlace, held_in, missed_in, window_at, window_of, cursor_after}

-- what is answered to a content at its place, by a receiver that took nothing or one that did
abbrev pub TakesPlace : (room : ℕ) → Option ReceiverState → (place : ℕ) → Content → (now : ℕ) → Result Taken ReceiveFault → Option ReceiverState → Type 0
TakesPlace room None place content now answer new = StartsAt place content answer new
TakesPlace room (Some old) place content now answer new = AnswersPlace room old place content now answer new

-- the tests in the words on slots, decided
at_place : (p : ℕ) (x y : Option Slot) → cond (p == p) x y ≡ x
at_place p x y = ap (λ b. cond b x y) (eq-eqb p p refl)

elsewhere : (q p : ℕ) (x y : Option Slot) → q ≢ p → cond (q == p) x y ≡ y
elsewhere q p x y other =
    elim (cases_Bool (q == p)) [ inl same ↦ absurd (other (eqb-true _ _ same)) | inr e ↦ ap (λ b. cond b x y) e ]

below : (q k : ℕ) (x y : Option Slot) → q < k → cond (nat_lt q k) x y ≡ x
below q k x y less = ap (λ b. cond b x y) (lt-ltb _ _ less)

not_below : (q k : ℕ) (x y : Option Slot) → k ≤ q → cond (nat_lt q k) x y ≡ y
not_below q k x y more = ap (λ b. cond b x y) (le-ltb _ _ more)

between : (a b : Bool) (x y : Option Slot) → a ≡ true → b ≡ true → cond (a && b) x y ≡ x
between a b x y first second = rw (first, second) refl

not_between_left : (a b : Bool) (x y : Option Slot) → a ≡ false → cond (a && b) x y ≡ y
not_between_left a b x y first = rw first refl

not_between_right : (a b : Bool) (x y : Option Slot) → b ≡ false → cond (a && b) x y ≡ y
not_between_right true b x y second = rw second refl
not_between_right false b x y second = refl

starts : (learnt : Option ℕ) (old new : Span) (p : ℕ) (content : Content) → learnt ≡ None → StartsWith old new p content → IsSomeAnd (window_of learnt new) (Starts p content)
starts learnt old new p content unlearnt s =
    let P : Option ℕ → Type 0 = λ c. IsSomeAnd (window_at learnt c new) (Starts p content) in
    let highest : option_map (λ k. k + length new.slots - 1) (Some p) ≡ Some p = ap (option_map (λ k. k + length new.slots - 1)) (sym s.cursor) ∙ s.highest in
    subst P (sym s.cursor) (record {
      cursor = refl;
      highest = same_Some _ _ highest;
      held = ap held_in (s.slots p ∙ at_place p _ _);
      held_else = λ k other. ap held_in (s.slots k ∙ elsewhere k p _ _ other);
      missing = λ k. ap missed_in (s.slots k)
          ∙ elim (cases_Bool (k == p)) [ inl e ↦ ap (λ b. missed_in (cond b (Some (Held content)) None)) e | inr e ↦ ap (λ b. missed_in (cond b (Some (Held content)) None)) e ];
      learnt = unlearnt;
    })

module _ (learnt : Option ℕ) (slots : List Slot) (room k : ℕ) (new : Span) (p overrun : ℕ) (content : Content) (now : ℕ) where
  abbrev old : Span
  old = record { cursor = Some k; slots = slots; capacity = room }

  takes : IsSpan old → Gains old new (k + overrun) p content now → k ≤ p → overrun ≡ overrun_of room k p →
      IsSomeAnd (window_of learnt new)
      (Takes room (record { cursor = k; highest = k + length slots - 1; held = λ q. held_in (slot_at old q); missing = λ q. missed_in (slot_at old q); learnt = learnt }) p content now)
  takes is g over count =
      let P : Option ℕ → Type 0 = λ c.
      IsSomeAnd (window_at learnt c new)
      (Takes room (record { cursor = k; highest = k + length slots - 1; held = λ q. held_in (slot_at old q); missing = λ q. missed_in (slot_at old q); learnt = learnt }) p content now) in
      let highest : option_map (λ c. c + length new.slots - 1) (Some (k + overrun)) ≡ Some (max (k + length slots - 1) p) =
      ap (option_map (λ c. c + length new.slots - 1)) (sym g.cursor) ∙ g.highest in
      let some : 0 < k + length slots = (is.started k refl).0 in
      -- a place above the highest had no slot
      let past : (q : ℕ) → k + length slots - 1 < q → slot_at old q ≡ None = λ q above.
      not_below q k None (slice_get slots (q - k)) (omega arith) ∙ slice_get_past slots (q - k) (omega arith) in
      let kept : (q : ℕ) → k + overrun ≤ q → q ≢ p → (q ≤ k + length slots - 1) ⊎ (p < q) → slot_at new q ≡ slot_at old q = λ q above other where_it_is.
      g.slots q ∙ elsewhere q p _ _ other ∙ not_below q (k + overrun) _ _ above
      ∙ elim where_it_is [
        | inl low ↦ not_between_left _ _ _ _ (le-ltb _ _ low)
        | inr high ↦ not_between_right _ _ _ _ (le-ltb q p (omega arith))
      ] in
      subst P (sym g.cursor) (record {
        cursor = omega arith;
        highest = same_Some _ _ highest;
        held = ap held_in (g.slots p ∙ at_place p _ _);
        held_else = λ q above other.
            elim (cases_lt (k + length slots - 1) q) [
              | inl high ↦ elim (cases_lt p q) [
                | inl far ↦ ap held_in (kept q above other (inr far))
                | inr near ↦
                    ap held_in (g.slots q ∙ elsewhere q p _ _ other ∙ not_below q (k + overrun) _ _ above ∙ between _ _ _ _ (lt-ltb _ _ high) (lt-ltb _ _ (less q p near other)))
                    ∙ sym (ap held_in (past q high))
              ]
              | inr low ↦ ap held_in (kept q above other (inl low))
            ];
        held_dropped = λ q under. ap held_in (g.slots q ∙ elsewhere q p _ _ (apart q under) ∙ below q (k + overrun) _ _ under);
        missing = ap missed_in (g.slots p ∙ at_place p _ _);
        missing_between = λ q above high near.
            ap missed_in (g.slots q ∙ elsewhere q p _ _ (λ same. absurd (omega arith)) ∙ not_below q (k + overrun) _ _ above ∙ between _ _ _ _ (lt-ltb _ _ high) (lt-ltb _ _ near));
        missing_below = λ q above other low. ap missed_in (kept q above other (inl low));
        missing_above = λ q above far. ap missed_in (kept q above (λ same. absurd (omega arith)) (inr far));
        missing_dropped = λ q under. ap missed_in (g.slots q ∙ elsewhere q p _ _ (apart q under) ∙ below q (k + overrun) _ _ under);
        learnt = refl;
      })
    where
      less : (q p : ℕ) → q ≤ p → q ≢ p → q < p
      less q p order other = elim (cases_lt q p) [ inl under ↦ under | inr over ↦ absurd (other (omega arith)) ]

      -- the new cursor is not above the place
      apart : (q : ℕ) → q < k + overrun → q ≢ p
      apart q under same = let nonzero = is.nonzero in omega arith

-- no slot of a held content, so nothing is held
not_held : (slot : Option Slot) → ¬ IsSomeAnd slot IsHeld → held_in slot ≡ None
not_held None free = refl
not_held (Some (Held content)) free = absurd (free tt)
not_held (Some (Missing noticed asks last)) free = refl

overrun_is : (room k p overrun : ℕ) → overrun ≡ overrun_of room k p → overrun ≡ cursor_after room k p - k
overrun_is room k p overrun count = omega arith

abbrev span : Option ℕ → List Slot → ℕ → Span
span cursor slots room = record { cursor = cursor; slots = slots; capacity = room }

pub put_takes : (learnt cursor : Option ℕ) (slots : List Slot) (room : ℕ) (new : Span) (p overrun : ℕ) (content : Content) (now : ℕ) →
    IsUnlearnt (span cursor slots room) learnt → IsSpan (span cursor slots room) → PutStep p content now (span cursor slots room) (Ok overrun) new →
    TakesPlace room (window_of learnt (span cursor slots room)) p content now (Ok (record { place = p; overrun = overrun })) (window_of learnt new)
put_takes learnt None slots room new p overrun content now unlearnt is step = (refl, step.0, starts learnt (span None slots room) new p content (unlearnt refl) step.1)
put_takes learnt (Some k) slots room new p overrun content now unlearnt is step =
    (refl, step.0, not_held _ step.1, overrun_is room k p overrun step.2, takes learnt slots room k new p overrun content now is step.3 step.0 step.2)
