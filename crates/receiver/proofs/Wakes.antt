-- When a receiver is quiet, by its window.
use Rattle.std.proofs.Common.{◌≡◌, ◌↔◌, ℕ, ◌-◌, ◌&&◌, ◌||◌, nat_le, Bool, false, List, [], ◌∷◌, length, slice_get, take, Option, Some, None, refl, sym, ap, subst, ◌∙◌, inl, inr, arith}
use Rattle.std.proofs.lemmas.Bool.{cases_Bool, or_parts, or_from}
use Rattle.std.proofs.lemmas.Bool.Decides.{nat_tests}
use Rattle.std.proofs.lemmas.Option.{same_Some}
use Rattle.stores.specs.declared.slot.Slot.{Slot}
use Rattle.stores.specs.declared.slot.Slot.TheVariants.{Held, Missing}
use Rattle.stores.specs.Span.{Span, IsSpan, front_of}
use Rattle.stores.specs.ByPlace.{slot_at}
use Rattle.stores.specs.PlaceLists.{Lists}
use Rattle.stores.specs.Asking.{due_places, longest_ask}
use Rattle.stores.specs.Asking.{is_due as is_due_slot}
use Rattle.receiver.specs.declared.answer.Played.TheVariants.{Wait}
use Rattle.receiver.specs.Config.{Config}
use Rattle.receiver.specs.Window.{Missed, HasPassed, window_of, held_in, missed_in, PlaysAny}
use Rattle.receiver.specs.Asks.{is_due, AsksAny}
use Rattle.receiver.specs.Peeking.{is_ready}
use Rattle.receiver.specs.Waking.{IsQuiet}
use Rattle.receiver.proofs.Asking.{lists_same, same_due}
use Rattle.receiver.proofs.Rising.{one_list}
use Rattle.receiver.proofs.FewAsks.{none_of_few}

module _ (patience now : ℕ) where
  -- a missing place's patience has not passed
  not_passed : (noticed : ℕ) → (HasPassed patience noticed now → ⊥) → (nat_le noticed now && nat_le patience (now - noticed)) ≡ false
  not_passed noticed waits =
      elim (cases_Bool (nat_le noticed now && nat_le patience (now - noticed))) [
        | inl is ↦ absurd (waits (record { later = grind (arith, nat_tests); long = grind (arith, nat_tests) }))
        | inr is ↦ is
      ]

  not_ready : (noticed : ℕ) → (nat_le noticed now && nat_le patience (now - noticed)) ≡ false → HasPassed patience noticed now → ⊥
  not_ready noticed is passed = let later = passed.later in let long = passed.long in grind (arith, nat_tests)

  -- a play waits at this slot exactly where it is not to be passed
  unready_at : (o : Option Slot) → held_in o ≡ None → ((m : Missed) → missed_in o ≡ Some m → HasPassed patience m.noticed now → ⊥) → is_ready patience now o ≡ false
  unready_at None free waits = refl
  unready_at (Some (Held content)) free waits = absurd cc
  unready_at (Some (Missing noticed asks last)) free waits = not_passed noticed (λ passed. waits (record { noticed = noticed; asks = asks; last = last }) refl passed)

  free_at : (o : Option Slot) → is_ready patience now o ≡ false → held_in o ≡ None
  free_at None is = refl
  free_at (Some (Held content)) is = absurd cc
  free_at (Some (Missing noticed asks last)) is = refl

  waits_at : (o : Option Slot) → is_ready patience now o ≡ false → (m : Missed) → missed_in o ≡ Some m → HasPassed patience m.noticed now → ⊥
  waits_at None is m e passed = absurd cc
  waits_at (Some (Held content)) is m e passed = absurd cc
  waits_at (Some (Missing noticed asks last)) is m e passed =
      let same : noticed ≡ m.noticed = ap (λ (x : Missed). x.noticed) (same_Some (record { noticed = noticed; asks = asks; last = last }) m e) in
      not_ready noticed is (subst (λ n. HasPassed patience n now) (sym same) passed)

  unready_empty : (slots : List Slot) → length slots ≡ 0 → is_ready patience now (slice_get slots 0) ≡ false
  unready_empty [] none = refl
  unready_empty (x ∷ xs) none = absurd (omega arith)

module _ (slots : List Slot) (room : ℕ) (c : Config) (now : ℕ) (learnt : Option ℕ) where
  abbrev span : Option ℕ → Span
  span cursor = record { cursor = cursor; slots = slots; capacity = room }

  abbrev due : Option ℕ → List ℕ
  due cursor = due_places (span cursor) now c.delay c.retry c.asks

  module _ (cursor : Option ℕ) (is : IsSpan (span cursor)) (front : (k : ℕ) → cursor ≡ Some k → front_of (span cursor) ≡ slot_at (span cursor) k)
      (lists : Lists (due cursor) (λ q. is_due_slot now c.delay c.retry c.asks (slot_at (span cursor) q))) where
    waits_unready : (at : Option ℕ) → at ≡ cursor → PlaysAny c.patience (window_of learnt (span at)) now Wait (window_of learnt (span at)) → is_ready c.patience now (front_of (span at)) ≡ false
    waits_unready None same waits = unready_empty c.patience now slots (is.unstarted (sym same))
    waits_unready (Some k) same waits =
        rw (front k (sym same)) (subst (λ (at : Option ℕ). is_ready c.patience now (slot_at (span at) k) ≡ false) same (unready_at c.patience now (slot_at (span (Some k)) k) waits.0 waits.1))

    unready_waits : (at : Option ℕ) → at ≡ cursor → is_ready c.patience now (front_of (span at)) ≡ false → PlaysAny c.patience (window_of learnt (span at)) now Wait (window_of learnt (span at))
    unready_waits None same unready = refl
    unready_waits (Some k) same unready =
        let at_front : is_ready c.patience now (slot_at (span (Some k)) k) ≡ false =
        subst (λ (at : Option ℕ). is_ready c.patience now (slot_at (span at) k) ≡ false) (sym same) (ap (is_ready c.patience now) (sym (front k (sym same))) ∙ unready) in
        (free_at c.patience now (slot_at (span (Some k)) k) at_front, waits_at c.patience now (slot_at (span (Some k)) k) at_front, refl)

    asks_nothing_due : (at : Option ℕ) → at ≡ cursor → AsksAny c (window_of learnt (span at)) now None (window_of learnt (span at)) → due at ≡ []
    asks_nothing_due None same asks = refl
    asks_nothing_due (Some k) same asks =
        one_list (due (Some k)) asks.due (λ q. is_due now c.delay c.retry c.asks (missed_in (slot_at (span (Some k)) q)))
        (subst (λ (at : Option ℕ). Lists (due at) (λ q. is_due now c.delay c.retry c.asks (missed_in (slot_at (span at) q)))) (sym same) (lists_same _ _ _ (λ q. same_due now c.delay c.retry c.asks (slot_at (span cursor) q)) lists))
        asks.each
        ∙ none_of_few longest_ask asks.due (omega arith) asks.answers.0

    nothing_due_asks : (at : Option ℕ) → at ≡ cursor → due at ≡ [] → AsksAny c (window_of learnt (span at)) now None (window_of learnt (span at))
    nothing_due_asks None same none = (refl, refl)
    nothing_due_asks (Some k) same none =
        record {
          due = due (Some k);
          each = subst (λ (at : Option ℕ). Lists (due at) (λ q. is_due now c.delay c.retry c.asks (missed_in (slot_at (span at) q)))) (sym same) (lists_same _ _ _ (λ q. same_due now c.delay c.retry c.asks (slot_at (span cursor) q)) lists);
          answers = (ap (take longest_ask) none, refl);
        }

    -- it is quiet exactly where the slot at the front is not to be passed, and no place is due
    pub quiet : (play ask both : Bool) → is_ready c.patience now (front_of (span cursor)) ≡ play → (due cursor ≡ []) ↔ (ask ≡ false) → both ≡ (play || ask) → IsQuiet c (window_of learnt (span cursor)) now ↔ (both ≡ false)
    quiet play ask both ready asked is_both = (
      λ it. is_both ∙ or_from play ask (sym ready ∙ waits_unready cursor refl it.waits) (asked.0 (asks_nothing_due cursor refl it.asks_nothing)),
      λ never.
          let parts = or_parts play ask (sym is_both ∙ never) in
          record { waits = unready_waits cursor refl (ready ∙ parts.0); asks_nothing = nothing_due_asks cursor refl (asked.1 parts.1) },
    )
