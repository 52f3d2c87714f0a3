-- What a receiver over places answered leaves one window.
use Rattle.std.proofs.Common.{◌≡◌, ◌≢◌, ℕ, ◌+◌, ◌<◌, ◌≤◌, List, take, Option, Some, None, Result, Ok, Err, sym, ap, subst, ◌∙◌, inl, inr, arith}
use Rattle.std.specs.Prelude.{IsSomeAnd}
use Rattle.std.specs.List.Sorted.{IsStrictlyIncreasing}
use Rattle.std.proofs.lemmas.Bool.{cases_eq, cases_lt}
use Rattle.rtpwire.specs.declared.content.Content.{Content}
use Rattle.fbwire.specs.declared.nack.Pair.{Pair}
use Rattle.fbwire.specs.Packing.{IsPacking, IsNarrow}
use Rattle.stores.specs.declared.slot.PutFault.TheVariants.{Late, Duplicate}
use Rattle.stores.specs.Asking.{longest_ask}
use Rattle.receiver.specs.declared.answer.Taken.{Taken}
use Rattle.receiver.specs.declared.fault.ReceiveFault.{ReceiveFault}
use Rattle.receiver.specs.declared.fault.ReceiveFault.TheVariants as refused
use Rattle.receiver.specs.declared.stream.Stream.{Stream}
use Rattle.receiver.specs.declared.stream.Stream.TheVariants.{Media, Repair, Candidate}
use Rattle.receiver.specs.Window.{ReceiverState, Starts, Takes, AnswersPlace, StartsAt}
use Rattle.receiver.specs.Heard.{AnswersCandidate, AnswersIn, StartsIn}
use Rattle.receiver.specs.Asks.{is_due, Asks, AsksBy}
use Rattle.receiver.specs.Config.{Config}
use Rattle.world.specs.PlaceRun.{AsksAnyBy}
use Rattle.world.proofs.OneListing.{rising_take, one_list}

-- windows that agree at every place are one
same_window : (v w : ReceiverState) → v.cursor ≡ w.cursor → v.highest ≡ w.highest → ((k : ℕ) → v.held k ≡ w.held k) → ((k : ℕ) → v.missing k ≡ w.missing k) → v.learnt ≡ w.learnt → v ≡ w
same_window v w cursor highest held missing learnt =
    λ i. record { cursor = cursor i; highest = highest i; held = λ k. held k i; missing = λ k. missing k i; learnt = learnt i }

-- two maps agree at a place and at every other
at_each : {A : Type 0} (f g : ℕ → A) (p : ℕ) → f p ≡ g p → ((k : ℕ) → k ≢ p → f k ≡ g k) → (k : ℕ) → f k ≡ g k
at_each f g p here elsewhere k =
    elim (cases_eq k p) [ inl same ↦ subst (λ n. f n ≡ g n) (sym same) here | inr other ↦ elsewhere k other ]

one_start : (place : ℕ) (content : Content) (v w : ReceiverState) → Starts place content v → Starts place content w → v ≡ w
one_start place content v w a b =
    same_window v w (a.cursor ∙ sym b.cursor) (a.highest ∙ sym b.highest)
    (at_each v.held w.held place (a.held ∙ sym b.held) (λ k other. a.held_else k other ∙ sym (b.held_else k other)))
    (λ k. a.missing k ∙ sym (b.missing k)) (a.learnt ∙ sym b.learnt)

module _ (room : ℕ) (old : ReceiverState) (place : ℕ) (content : Content) (now : ℕ) (v w : ReceiverState) (a : Takes room old place content now v) (b : Takes room old place content now w) where
  cursors : v.cursor ≡ w.cursor
  cursors = a.cursor ∙ sym b.cursor

  under_both : (k : ℕ) → k < v.cursor → k < w.cursor
  under_both k under = subst (λ c. k < c) cursors under

  over_both : (k : ℕ) → v.cursor ≤ k → w.cursor ≤ k
  over_both k over = subst (λ c. c ≤ k) cursors over

  same_held : (k : ℕ) → k ≢ place → v.held k ≡ w.held k
  same_held k other =
      elim (cases_lt k v.cursor) [
        | inl under ↦ a.held_dropped k under ∙ sym (b.held_dropped k (under_both k under))
        | inr over ↦ a.held_else k over other ∙ sym (b.held_else k (over_both k over) other)
      ]

  -- a place from the cursor on: above the one that is taken, below it, or between it and the highest so far
  missing_from : (k : ℕ) → v.cursor ≤ k → k ≢ place → v.missing k ≡ w.missing k
  missing_from k over other =
      elim (cases_lt old.highest k) [
        | inl high ↦ elim (cases_lt place k) [
          | inl far ↦ a.missing_above k over far ∙ sym (b.missing_above k (over_both k over) far)
          | inr near ↦ a.missing_between k over high (less near) ∙ sym (b.missing_between k (over_both k over) high (less near))
        ]
        | inr low ↦ a.missing_below k over other low ∙ sym (b.missing_below k (over_both k over) other low)
      ]
    where
      less : k ≤ place → k < place
      less near = elim (cases_lt k place) [ inl under ↦ under | inr above ↦ absurd (other (omega (arith, near, above))) ]

  same_missing : (k : ℕ) → k ≢ place → v.missing k ≡ w.missing k
  same_missing k other =
      elim (cases_lt k v.cursor) [
        | inl under ↦ a.missing_dropped k under ∙ sym (b.missing_dropped k (under_both k under))
        | inr over ↦ missing_from k over other
      ]

  one_take : v ≡ w
  one_take =
      same_window v w cursors (a.highest ∙ sym b.highest)
      (at_each v.held w.held place (a.held ∙ sym b.held) same_held)
      (at_each v.missing w.missing place (a.missing ∙ sym b.missing) same_missing)
      (a.learnt ∙ sym b.learnt)

-- a window that is some one
one_such : (P : ReceiverState → Type 0) → ((v w : ReceiverState) → P v → P w → v ≡ w) → (v w : Option ReceiverState) → IsSomeAnd v P → IsSomeAnd w P → v ≡ w
one_such P one None w none b = absurd none
one_such P one (Some v) None a none = absurd none
one_such P one (Some v) (Some w) a b = ap (λ (x : ReceiverState). Some x) (one v w a b)

one_start_at : (place : ℕ) (content : Content) (r : Result Taken ReceiveFault) (v w : Option ReceiverState) → StartsAt place content r v → StartsAt place content r w → v ≡ w
one_start_at place content (Err fault) v w never b = absurd never
one_start_at place content (Ok t) v w (at, over, start) (at', over', start') = one_such (Starts place content) (one_start place content) v w start start'

pub one_start_in : (stream : Stream) (seq : ℕ) (content : Content) (r : Result Taken ReceiveFault) (v w : Option ReceiverState) → StartsIn stream seq content r v → StartsIn stream seq content r w → v ≡ w
one_start_in Media seq content r v w a b = one_start_at (65536 + seq) content r v w a b
one_start_in Repair seq content r v w (not, is) (not', is') = is ∙ sym is'
one_start_in (Candidate ssrc) seq content r v w (not, is) (not', is') = is ∙ sym is'

one_answer : (room : ℕ) (old : ReceiverState) (place : ℕ) (content : Content) (now : ℕ) (r : Result Taken ReceiveFault) (v w : Option ReceiverState) →
    AnswersPlace room old place content now r v → AnswersPlace room old place content now r w → v ≡ w
one_answer room old place content now (Ok t) v w (at, above, free, over, takes) (at', above', free', over', takes') =
    one_such (Takes room old place content now) (λ x y. one_take room old place content now x y) v w takes takes'
one_answer room old place content now (Err (refused.Put Late)) v w (under, is) (under', is') = is ∙ sym is'
one_answer room old place content now (Err (refused.Put Duplicate)) v w (above, held, is) (above', held', is') = is ∙ sym is'
one_answer room old place content now (Err fault) v w never b = absurd never

one_candidate : (ssrc room : ℕ) (old : ReceiverState) (place : ℕ) (content : Content) (now : ℕ) (r : Result Taken ReceiveFault) (v w : Option ReceiverState) →
    AnswersCandidate ssrc room old place content now r v → AnswersCandidate ssrc room old place content now r w → v ≡ w
one_candidate ssrc room old place content now (Ok t) v w (asked, a) (asked', b) = one_answer room (record old { learnt = Some ssrc }) place content now (Ok t) v w a b
one_candidate ssrc room old place content now (Err refused.Unasked) v w (unasked, is) (unasked', is') = is ∙ sym is'
one_candidate ssrc room old place content now (Err fault) v w never b = absurd never

pub one_in : (room : ℕ) (stream : Stream) (old : ReceiverState) (place : ℕ) (content : Content) (now : ℕ) (r : Result Taken ReceiveFault) (v w : Option ReceiverState) →
    AnswersIn room stream old place content now r v → AnswersIn room stream old place content now r w → v ≡ w
one_in room Media old place content now r v w a b = one_answer room old place content now r v w a b
one_in room Repair old place content now r v w a b = one_answer room old place content now r v w a b
one_in room (Candidate ssrc) old place content now r v w a b = one_candidate ssrc room old place content now r v w a b

-- asks

-- places have one packing
abbrev pub OnePacking : Type 0
OnePacking = (places : List ℕ) (a b : List Pair) (m n : ℕ) → IsStrictlyIncreasing places → IsNarrow places → IsPacking places a m → IsPacking places b n → (a ≡ b) × (m ≡ n)

one_asks : (old : ReceiverState) (covered : List ℕ) (now : ℕ) (v w : ReceiverState) → Asks old covered now v → Asks old covered now w → v ≡ w
one_asks old covered now v w a b =
    same_window v w (a.cursor ∙ sym b.cursor) (a.highest ∙ sym b.highest) (λ k. a.held k ∙ sym (b.held k)) (λ k. a.missing k ∙ sym (b.missing k)) (a.learnt ∙ sym b.learnt)

module _ (one_packing : OnePacking) (now : ℕ) (m n : List Pair) (v w : Option ReceiverState) where
  one_ask_by : (old : ReceiverState) (due : List ℕ) → IsStrictlyIncreasing due → AsksBy old (take longest_ask due) now m v → AsksBy old (take longest_ask due) now n w → (m ≡ n) × (v ≡ w)
  one_ask_by old due rising a b =
      let packing = one_packing (take longest_ask due) m n a.count b.count (rising_take longest_ask due rising) a.narrow a.packing b.packing in (
        packing.0,
        one_such (Asks old (take a.count (take longest_ask due)) now) (one_asks old (take a.count (take longest_ask due)) now) v w a.asks
            (subst (λ k. IsSomeAnd w (Asks old (take k (take longest_ask due)) now)) (sym packing.1) b.asks),
      )

  pub one_ask : (c : Config) (old : Option ReceiverState) → AsksAnyBy c old now m v → AsksAnyBy c old now n w → (m ≡ n) × (v ≡ w)
  one_ask c None never b = absurd never
  one_ask c (Some old) a b =
      one_ask_by old a.due a.each.rises a.asked
      (subst (λ (due : List ℕ). AsksBy old (take longest_ask due) now n w) (one_list b.due a.due (λ k. is_due now c.delay c.retry c.asks (old.missing k)) b.each a.each) b.asked)
