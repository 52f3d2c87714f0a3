-- What a put means for the slot of each place.
use Rattle.std.proofs.Common.{◌≡◌, ℕ, ◌+◌, ◌-◌, ◌<◌, ◌≤◌, ◌==◌, ◌&&◌, List, [], ◌∷◌, ◌++◌, length, drop, replicate, slice_get, slice_set, Option, Some, None, Result, Ok, Err, Bool, true, false, nat_lt, cond, refl, ap, sym, subst, ◌∙◌, arith, ⊎_elim, ltb-true, ltb-false, length-append, length-drop, length-set}
use Rattle.std.specs.Prelude.{OnOk, OnErr, if◌then◌else◌}
use Rattle.std.proofs.lemmas.List.{length-replicate}
use Rattle.std.proofs.lemmas.Bool.{cond_both}
use Rattle.std.proofs.lemmas.Bool.Decides.{nat_tests}
use Rattle.std.proofs.lemmas.Option.{slice_get_past, slice_get_within, slice_get_cases}
use Rattle.rtpwire.specs.declared.content.Content.{Content}
use Rattle.stores.specs.declared.slot.Slot.{Slot}
use Rattle.stores.specs.declared.slot.Slot.TheVariants.{Held, Missing}
use Rattle.stores.specs.declared.slot.PutFault.{PutFault}
use Rattle.stores.specs.declared.slot.PutFault.TheVariants.{Late, Duplicate}
use Rattle.stores.specs.Span.{Span, IsSpan}
use Rattle.stores.specs.declared.spot.Spot.TheVariants.{Above}
use Rattle.stores.specs.Put.{IsSpot, noticed_at, overrun_of, answer_at, put_answer, extended, after_higher, left_from, after_put}
use Rattle.stores.specs.Asking.{is_missing}
use Rattle.stores.specs.ByPlace.{slot_from, StartsWith, Gains, PutStep}
use Rattle.stores.proofs.Lookup.{slice_get-append_left, slice_get-append_right, slice_get-drop, slice_get-replicate, slice_get-set_same, slice_get-set_other}

-- the three parts of an extended list
module _ (slots : List Slot) (n unseen : ℕ) (missing held : Slot) where
  front_kept : (i j : ℕ) → j ≡ n + i → j < length slots → slice_get (extended slots n unseen missing held) i ≡ slice_get slots j
  front_kept i j e l =
      let d = length-drop n slots in
      let a = length-append (drop n slots) (replicate unseen missing) in
      slice_get-append_left (drop n slots ++ replicate unseen missing) (held ∷ []) i (omega arith)
      ∙ slice_get-append_left (drop n slots) (replicate unseen missing) i (omega arith) ∙ slice_get-drop n slots i j e

  then_missing : (i : ℕ) → length slots - n ≤ i → i < length slots - n + unseen → slice_get (extended slots n unseen missing held) i ≡ Some missing
  then_missing i l u =
      let d = length-drop n slots in
      let r = length-replicate unseen missing in
      let a = length-append (drop n slots) (replicate unseen missing) in
      slice_get-append_left (drop n slots ++ replicate unseen missing) (held ∷ []) i (omega arith)
      ∙ slice_get-append_right (drop n slots) (replicate unseen missing) i (i - (length slots - n)) (omega arith)
      ∙ slice_get-replicate unseen missing (i - (length slots - n)) (omega arith)

  last_held : (i : ℕ) → i ≡ length slots - n + unseen → slice_get (extended slots n unseen missing held) i ≡ Some held
  last_held i e =
      let d = length-drop n slots in
      let r = length-replicate unseen missing in
      let a = length-append (drop n slots) (replicate unseen missing) in
      slice_get-append_right (drop n slots ++ replicate unseen missing) (held ∷ []) i 0 (omega arith)

  length_extended : length (extended slots n unseen missing held) ≡ length slots - n + unseen + 1
  length_extended =
      let d = length-drop n slots in
      let r = length-replicate unseen missing in
      let a = length-append (drop n slots) (replicate unseen missing) in
      let b = length-append (drop n slots ++ replicate unseen missing) (held ∷ []) in
      omega arith

  none_past : (i : ℕ) → length slots - n + unseen < i → slice_get (extended slots n unseen missing held) i ≡ None
  none_past i u =
      let l = length_extended in
      slice_get_past (extended slots n unseen missing held) i (omega arith)

-- what the place q has after a put of the place p, where k is the new cursor and the slots were those of
-- the places from `first` on
abbrev slot_after : (first k p : ℕ) (slots : List Slot) (content : Content) (now q : ℕ) → Option Slot
slot_after first k p slots content now q =
    if q == p then Some (Held content) else (if nat_lt q k then None else (if nat_lt (first + length slots - 1) q && nat_lt q p then Some (noticed_at now) else slot_from first slots q))

-- a put in the place of a missing slot
slots_set : (first p : ℕ) (slots : List Slot) (content : Content) (now q : ℕ) → first ≤ p → p < first + length slots →
    slot_from first (slice_set slots (p - first) (Held content)) q ≡ slot_after first first p slots content now q
slots_set first p slots content now q above below =
    let same = slice_get-set_same slots (p - first) (Held content) in
    let other = slice_get-set_other slots (p - first) (q - first) (Held content) in
    grind (arith, nat_tests, same, other)

-- a put above the slots
slots_extended : (first n p : ℕ) (slots : List Slot) (content : Content) (now q : ℕ) → first + n ≤ p → first + length slots ≤ p → 0 < first + length slots →
    slot_from (first + n) (extended slots n (p - (first + n + length (drop n slots))) (noticed_at now) (Held content)) q ≡ slot_after first (first + n) p slots content now q
slots_extended first n p slots content now q new old some =
    let unseen = p - (first + n + length (drop n slots)) in
    let d : length (drop n slots) ≡ length slots - n = length-drop n slots in
    let kept = front_kept slots n unseen (noticed_at now) (Held content) (q - (first + n)) (q - first) in
    let missing = then_missing slots n unseen (noticed_at now) (Held content) (q - (first + n)) in
    let last = last_held slots n unseen (noticed_at now) (Held content) (q - (first + n)) in
    let past = none_past slots n unseen (noticed_at now) (Held content) (q - (first + n)) in
    let none = slice_get_past slots (q - first) in
    grind (arith, nat_tests, kept, missing, last, past, none)

module _ (slots : List Slot) (capacity k p : ℕ) (content : Content) (now : ℕ) where
  abbrev at : Span
  at = record { cursor = Some k; slots = slots; capacity = capacity }

  -- a place that has a slot
  gains_inside : IsSpan at → k ≤ p → p < k + length slots →
      Gains at (record { cursor = Some k; slots = slice_set slots (p - k) (Held content); capacity = capacity }) (k + overrun_of capacity k p) p content now
  gains_inside is above below =
      let room : length slots ≤ capacity = is.room in
      let none : k ≡ k + overrun_of capacity k p = omega arith in
      let l = length-set slots (p - k) (Held content) in
      let G : ℕ → Type 0 = λ c. Gains at (record { cursor = Some k; slots = slice_set slots (p - k) (Held content); capacity = capacity }) c p content now in
      subst G none (record {
        cursor = refl;
        highest = ap Some (omega arith);
        slots = λ q. slots_set k p slots content now q above below;
        capacity = refl;
      })

  -- a place above the slots
  gains_above : IsSpan at → k ≤ p → k + length slots ≤ p → Gains at (after_higher at (overrun_of capacity k p) (k + overrun_of capacity k p) p content now) (k + overrun_of capacity k p) p content now
  gains_above is over above =
      let n = overrun_of capacity k p in
      let nonzero : 0 < capacity = is.nonzero in
      let room : length slots ≤ capacity = is.room in
      let some : 0 < k + length slots = (is.started k refl).0 in
      let fits : k + n ≤ p = omega arith in
      let d : length (drop n slots) ≡ length slots - n = length-drop n slots in
      let l = length_extended slots n (p - (k + n + length (drop n slots))) (noticed_at now) (Held content) in
      record {
        cursor = refl;
        highest = ap Some (omega arith);
        slots = λ q. slots_extended k n p slots content now q fits above some;
        capacity = refl;
      }

  gains : IsSpan at → k ≤ p → Gains at (after_put at p content now) (k + overrun_of capacity k p) p content now
  gains is over =
      cond_both (nat_lt p (k + length slots)) _ _ (λ s. Gains at s (k + overrun_of capacity k p) p content now)
      (λ e. gains_inside is over (ltb-true _ _ e))
      (λ e. gains_above is over (ltb-false _ _ e))

-- a put that was not refused, at a window that was not started
starts : (old : Span) (p : ℕ) (content : Content) (now : ℕ) → StartsWith old (left_from old p content now None) p content
starts old p content now =
    record {
      cursor = refl;
      highest = ap Some (omega arith);
      slots = λ q. let past = slice_get_past (Held content ∷ []) (q - p) in grind (arith, nat_tests, past);
      capacity = refl;
    }

module _ (slots : List Slot) (capacity k p : ℕ) (content : Content) (now : ℕ) (new : Span) where
  abbrev old : Span
  old = at slots capacity k p content now

  abbrev Leaves : Result ℕ PutFault → Type 0
  Leaves result = OnOk result (new ≡ after_put old p content now) → OnErr result (new ≡ old) → PutStep p content now old result new

  slot_at_or_above : k ≤ p → slot_from k slots p ≡ slice_get slots (p - k)
  slot_at_or_above over = grind (arith, nat_tests)

  -- a put at or above the cursor, by the slot that the place has
  by_slot : IsSpan old → k ≤ p → (o : Option Slot) → slot_from k slots p ≡ o → slice_get slots (p - k) ≡ o → Leaves (answer_at o (overrun_of capacity k p))
  by_slot is over (Some (Held c)) here e ok err = (rw here tt, err)
  by_slot is over (Some (Missing noticed asks last)) here e ok err =
      let below : p - k < length slots = slice_get_within slots (p - k) _ e in
      let room : length slots ≤ capacity = is.room in
      let none : overrun_of capacity k p ≡ 0 = omega arith in
      let G : ℕ → Type 0 = λ n. Gains old (after_put old p content now) (k + n) p content now in
      (over, rw here (λ held. held), sym none, rw ok (subst G none (gains slots capacity k p content now is over)))
  by_slot is over None here e ok err = (over, rw here (λ held. held), refl, rw ok (gains slots capacity k p content now is over))

  -- a put at a started window
  by_test : IsSpan old → (b : Bool) → nat_lt p k ≡ b → Leaves (cond b (Err Late) (answer_at (slice_get slots (p - k)) (overrun_of capacity k p)))
  by_test is true e ok err = (ltb-true _ _ e, err)
  by_test is false e ok err = let over : k ≤ p = ltb-false _ _ e in by_slot is over _ (slot_at_or_above over) refl ok err

by_cursor : (cursor : Option ℕ) (slots : List Slot) (capacity p : ℕ) (content : Content) (now : ℕ) (new : Span) → let s : Span = record { cursor = cursor; slots = slots; capacity = capacity } in
    IsSpan s → OnOk (put_answer s p) (new ≡ after_put s p content now) → OnErr (put_answer s p) (new ≡ s) → PutStep p content now s (put_answer s p) new
by_cursor None slots capacity p content now new is ok err = (refl, rw ok (starts _ p content now))
by_cursor (Some k) slots capacity p content now new is ok err = by_test slots capacity k p content now new is (nat_lt p k) refl ok err

-- what a put answers and leaves, place by place
pub put_by_place : (old new : Span) (p : ℕ) (content : Content) (now : ℕ) (result : Result ℕ PutFault) → IsSpan old →
    result ≡ put_answer old p → OnOk result (new ≡ after_put old p content now) → OnErr result (new ≡ old) →
    PutStep p content now old result new
put_by_place old new p content now result is answer ok err =
    let T : Result ℕ PutFault → Type 0 = λ r. OnOk r (new ≡ after_put old p content now) → OnErr r (new ≡ old) → PutStep p content now old r new in
    subst T (sym answer) (by_cursor old.cursor old.slots old.capacity p content now new is) ok err

-- the answer to a put of a held place
pub answer_held : (cursor : Option ℕ) (slots : List Slot) (capacity k p index : ℕ) → cursor ≡ Some k → p ≡ k + index → index < length slots → is_missing (slice_get slots index) ≡ false →
    Err Duplicate ≡ put_answer (record { cursor = cursor; slots = slots; capacity = capacity }) p
answer_held cursor slots capacity k p index started at within held =
    let least : nat_lt p k ≡ false = grind (arith, nat_tests, at) in
    let here : p - k ≡ index = omega arith in
    rw (started, least, here) (of_slot (slice_get slots index) refl held)
  where
    of_slot : (o : Option Slot) → slice_get slots index ≡ o → is_missing o ≡ false → Err Duplicate ≡ answer_at o (overrun_of capacity k p)
    of_slot None e held =
        ⊎_elim
        (λ some. let other : None ≡ Some some.0 = sym e ∙ some.2 in absurd cc)
        (λ past. let out = past.0 in absurd (omega arith))
        (slice_get_cases slots index).1
    of_slot (Some (Held content)) e held = refl
    of_slot (Some (Missing noticed asks last)) e held = absurd cc

-- the answer to a put above all slots
pub answer_above : (cursor : Option ℕ) (slots : List Slot) (capacity k p overrun unseen : ℕ) → cursor ≡ Some k → IsSpot k (length slots) capacity p (Above overrun unseen) →
    Ok overrun ≡ put_answer (record { cursor = cursor; slots = slots; capacity = capacity }) p
answer_above cursor slots capacity k p overrun unseen started spot =
    let above = spot.0 in
    let least : nat_lt p k ≡ false = grind (arith, nat_tests, above) in
    let none = slice_get_past slots (p - k) (omega arith) in
    rw (started, least, none, spot.1) refl
