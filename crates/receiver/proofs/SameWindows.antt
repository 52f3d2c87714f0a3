-- The receiver over places is a function: what is taken, refused, played or given up, and the window after it.
use Rattle.std.proofs.Common.{◌≡◌, ◌≢◌, ℕ, ◌<◌, ◌≤◌, Option, Some, None, Result, Ok, Err, refl, sym, ap, subst, ◌∙◌, inl, inr, arith}
use Rattle.std.specs.Prelude.{IsSomeAnd, IsSome}
use Rattle.std.proofs.lemmas.Bool.{cases_eq, cases_lt}
use Rattle.std.proofs.lemmas.Option.{none-some, same_Some}
use Rattle.rtpwire.specs.declared.content.Content.{Content}
use Rattle.stores.specs.declared.slot.PutFault.TheVariants.{Late, Duplicate}
use Rattle.receiver.specs.declared.answer.Taken.{Taken}
use Rattle.receiver.specs.declared.answer.Played.{Played}
use Rattle.receiver.specs.declared.answer.Played.TheVariants.{Packet, Gap, Wait}
use Rattle.receiver.specs.declared.fault.ReceiveFault.{ReceiveFault}
use Rattle.receiver.specs.declared.fault.ReceiveFault.TheVariants as refused
use Rattle.receiver.specs.Window.{ReceiverState, Missed, Starts, Takes, Passes, HasPassed, AnswersPlace, StartsAt, Plays, PlaysAny}

-- windows that agree at every place are one
pub same_window : (v w : ReceiverState) → v.cursor ≡ w.cursor → v.highest ≡ w.highest → ((k : ℕ) → v.held k ≡ w.held k) → ((k : ℕ) → v.missing k ≡ w.missing k) → v.learnt ≡ w.learnt → v ≡ w
same_window v w cursor highest held missing learnt =
    λ i. record { cursor = cursor i; highest = highest i; held = λ k. held k i; missing = λ k. missing k i; learnt = learnt i }

-- two maps agree at a place and at every other
at_each : {A : Type 0} (f g : ℕ → A) (p : ℕ) → f p ≡ g p → ((k : ℕ) → k ≢ p → f k ≡ g k) → (k : ℕ) → f k ≡ g k
at_each f g p here elsewhere k =
    elim (cases_eq k p) [ inl same ↦ subst (λ n. f n ≡ g n) (sym same) here | inr other ↦ elsewhere k other ]

one_start : (place : ℕ) (content : Content) (v w : ReceiverState) → Starts place content v → Starts place content w → v ≡ w
one_start place content v w a b =
    same_window v w (a.cursor ∙ sym b.cursor) (a.highest ∙ sym b.highest)
    (at_each v.held w.held place (a.held ∙ sym b.held) (λ k other. a.held_else k other ∙ sym (b.held_else k other)))
    (λ k. a.missing k ∙ sym (b.missing k)) (a.learnt ∙ sym b.learnt)

module _ (room : ℕ) (old : ReceiverState) (place : ℕ) (content : Content) (now : ℕ) (v w : ReceiverState) (a : Takes room old place content now v) (b : Takes room old place content now w) where
  cursors : v.cursor ≡ w.cursor
  cursors = a.cursor ∙ sym b.cursor

  under_both : (k : ℕ) → k < v.cursor → k < w.cursor
  under_both k under = subst (λ c. k < c) cursors under

  over_both : (k : ℕ) → v.cursor ≤ k → w.cursor ≤ k
  over_both k over = subst (λ c. c ≤ k) cursors over

  same_held : (k : ℕ) → k ≢ place → v.held k ≡ w.held k
  same_held k other =
      elim (cases_lt k v.cursor) [
        | inl under ↦ a.held_dropped k under ∙ sym (b.held_dropped k (under_both k under))
        | inr over ↦ a.held_else k over other ∙ sym (b.held_else k (over_both k over) other)
      ]

  -- a place from the cursor on: above the one that is taken, below it, or between it and the highest so far
  missing_from : (k : ℕ) → v.cursor ≤ k → k ≢ place → v.missing k ≡ w.missing k
  missing_from k over other =
      elim (cases_lt old.highest k) [
        | inl high ↦ elim (cases_lt place k) [
          | inl far ↦ a.missing_above k over far ∙ sym (b.missing_above k (over_both k over) far)
          | inr near ↦ a.missing_between k over high (less near) ∙ sym (b.missing_between k (over_both k over) high (less near))
        ]
        | inr low ↦ a.missing_below k over other low ∙ sym (b.missing_below k (over_both k over) other low)
      ]
    where
      less : k ≤ place → k < place
      less near = elim (cases_lt k place) [ inl under ↦ under | inr above ↦ absurd (other (omega (arith, near, above))) ]

  same_missing : (k : ℕ) → k ≢ place → v.missing k ≡ w.missing k
  same_missing k other =
      elim (cases_lt k v.cursor) [
        | inl under ↦ a.missing_dropped k under ∙ sym (b.missing_dropped k (under_both k under))
        | inr over ↦ missing_from k over other
      ]

  one_take : v ≡ w
  one_take =
      same_window v w cursors (a.highest ∙ sym b.highest)
      (at_each v.held w.held place (a.held ∙ sym b.held) same_held)
      (at_each v.missing w.missing place (a.missing ∙ sym b.missing) same_missing)
      (a.learnt ∙ sym b.learnt)

one_pass : (old v w : ReceiverState) → Passes old v → Passes old w → v ≡ w
one_pass old v w a b =
    same_window v w (a.cursor ∙ sym b.cursor) (a.highest ∙ sym b.highest)
    (at_each v.held w.held old.cursor (a.held_dropped ∙ sym b.held_dropped) (λ k other. a.held k other ∙ sym (b.held k other)))
    (at_each v.missing w.missing old.cursor (a.missing_dropped ∙ sym b.missing_dropped) (λ k other. a.missing k other ∙ sym (b.missing k other)))
    (a.learnt ∙ sym b.learnt)

-- a window that is some one
pub one_such : (P : ReceiverState → Type 0) → ((v w : ReceiverState) → P v → P w → v ≡ w) → (v w : Option ReceiverState) → IsSomeAnd v P → IsSomeAnd w P → v ≡ w
one_such P one None w none b = absurd none
one_such P one (Some v) None a none = absurd none
one_such P one (Some v) (Some w) a b = ap (λ (x : ReceiverState). Some x) (one v w a b)

-- the same answer, and the same receiver after it
abbrev pub Same : {A B : Type 0} (a b : A) (x y : B) → Type 0
Same a b x y = (a ≡ b) × (x ≡ y)

same_taken : (s t : Taken) → s.place ≡ t.place → s.overrun ≡ t.overrun → s ≡ t
same_taken s t place overrun = λ i. record { place = place i; overrun = overrun i }

pub one_start_at : (place : ℕ) (content : Content) (r s : Result Taken ReceiveFault) (v w : Option ReceiverState) →
    StartsAt place content r v → StartsAt place content s w → Same r s v w
one_start_at place content (Err fault) s v w never b = absurd never
one_start_at place content (Ok t) (Err fault) v w a never = absurd never
one_start_at place content (Ok t) (Ok u) v w (at, over, start) (at', over', start') = (
  ap (λ (x : Taken). Ok x) (same_taken t u (at ∙ sym at') (over ∙ sym over')),
  one_such (Starts place content) (one_start place content) v w start start',
)

some_is : (o : Option Content) → IsSome o → o ≡ None → ⊥
some_is None some is = cc
some_is (Some x) some is = none-some x (sym is)

module _ (room : ℕ) (old : ReceiverState) (place : ℕ) (content : Content) (now : ℕ) (v w : Option ReceiverState) where
  pub one_answer : (r s : Result Taken ReceiveFault) → AnswersPlace room old place content now r v → AnswersPlace room old place content now s w → Same r s v w
  one_answer (Ok t) (Ok u) (at, above, free, over, takes) (at', above', free', over', takes') = (
    ap (λ (x : Taken). Ok x) (same_taken t u (at ∙ sym at') (over ∙ sym over')),
    one_such (Takes room old place content now) (λ x y. one_take room old place content now x y) v w takes takes',
  )
  one_answer (Ok t) (Err (refused.Put Late)) (at, above, free, over, takes) (under, is) = absurd (omega (arith, above, under))
  one_answer (Ok t) (Err (refused.Put Duplicate)) (at, above, free, over, takes) (above', held, is) = absurd (some_is (old.held place) held free)
  one_answer (Err (refused.Put Late)) (Ok u) (under, is) (at, above, free, over, takes) = absurd (omega (arith, above, under))
  one_answer (Err (refused.Put Late)) (Err (refused.Put Late)) (under, is) (under', is') = (refl, is ∙ sym is')
  one_answer (Err (refused.Put Late)) (Err (refused.Put Duplicate)) (under, is) (above, held, is') = absurd (omega (arith, above, under))
  one_answer (Err (refused.Put Duplicate)) (Ok u) (above, held, is) (at, above', free, over, takes) = absurd (some_is (old.held place) held free)
  one_answer (Err (refused.Put Duplicate)) (Err (refused.Put Late)) (above, held, is) (under, is') = absurd (omega (arith, above, under))
  one_answer (Err (refused.Put Duplicate)) (Err (refused.Put Duplicate)) (above, held, is) (above', held', is') = (refl, is ∙ sym is')
  one_answer (Ok t) (Err fault) a never = absurd never
  one_answer (Err (refused.Put fault)) (Err other) a never = absurd never
  one_answer (Err fault) s never b = absurd never

passed : (patience now : ℕ) (o : Option Missed) → IsSomeAnd o (λ m. HasPassed patience m.noticed now) → ((m : Missed) → o ≡ Some m → HasPassed patience m.noticed now → ⊥) → ⊥
passed patience now None none waits = none
passed patience now (Some m) long waits = waits m refl long

module _ (patience : ℕ) (now : ℕ) (v w : Option ReceiverState) where
  one_play_from : (old : ReceiverState) (r s : Played) → Plays patience old now r v → Plays patience old now s w → Same r s v w
  one_play_from old (Packet p x) (Packet q y) (at, held, passes) (at', held', passes') =
      let here : p ≡ q = at ∙ sym at' in
      let content : x ≡ y = same_Some x y (sym held ∙ ap old.held here ∙ held') in
      (λ i. Packet (here i) (content i), one_such (Passes old) (one_pass old) v w passes passes')
  one_play_from old (Packet p x) (Gap q) (at, held, passes) (at', free, cause, passes') =
      absurd (none-some x (sym free ∙ ap old.held (at' ∙ sym at) ∙ held))
  one_play_from old (Packet p x) Wait (at, held, passes) (free, waits, is) =
      absurd (none-some x (sym free ∙ ap old.held (sym at) ∙ held))
  one_play_from old (Gap p) (Packet q y) (at, free, cause, passes) (at', held, passes') =
      absurd (none-some y (sym free ∙ ap old.held (at ∙ sym at') ∙ held))
  one_play_from old (Gap p) (Gap q) (at, free, cause, passes) (at', free', cause', passes') =
      (ap (λ n. Gap n) (at ∙ sym at'), one_such (Passes old) (one_pass old) v w passes passes')
  one_play_from old (Gap p) Wait (at, free, cause, passes) (free', waits, is) =
      absurd (passed patience now (old.missing old.cursor) (subst (λ n. IsSomeAnd (old.missing n) (λ m. HasPassed patience m.noticed now)) at cause) waits)
  one_play_from old Wait (Packet q y) (free, waits, is) (at, held, passes) =
      absurd (none-some y (sym free ∙ ap old.held (sym at) ∙ held))
  one_play_from old Wait (Gap q) (free, waits, is) (at, free', cause, passes) =
      absurd (passed patience now (old.missing old.cursor) (subst (λ n. IsSomeAnd (old.missing n) (λ m. HasPassed patience m.noticed now)) at cause) waits)
  one_play_from old Wait Wait (free, waits, is) (free', waits', is') = (refl, is ∙ sym is')

  pub one_play : (old : Option ReceiverState) (r s : Played) → PlaysAny patience old now r v → PlaysAny patience old now s w → Same r s v w
  one_play None Wait Wait is is' = (refl, is ∙ sym is')
  one_play None (Packet p x) s never b = absurd never
  one_play None (Gap p) s never b = absurd never
  one_play None Wait (Packet q y) a never = absurd never
  one_play None Wait (Gap q) a never = absurd never
  one_play (Some old) r s a b = one_play_from old r s a b
