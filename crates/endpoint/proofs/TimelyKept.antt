-- The ring has the moments of every packet that the history has.
use Rattle.std.proofs.Common.{rules, ◌≡◌, ◌≢◌, ℕ, ◌+◌, ◌<◌, ◌≤◌, ◌==◌, cond, List, ◌∷◌, length, Option, Some, None, IsSome, Ok, refl, sym, ap, subst, ◌∙◌, arith, inl, inr, eq-eqb}
use Rattle.std.specs.Option.{option_map}
use Rattle.std.proofs.lemmas.Bool.{cases_eq, cases_lt, eqb-true, cases_Bool}
use Rattle.rtpwire.specs.declared.content.Content.{Content}
use Rattle.stores.specs.declared.entry.HistoryEntry.{HistoryEntry}
use Rattle.sender.specs.History.{SenderState, Sends, Marks, Repairs, CanBeMarked, not_to_repeat}
use Rattle.sender.specs.Passing.{PassesAny}
use Rattle.endpoint.specs.declared.resend_rule.ResendRule.{ResendRule}
use Rattle.endpoint.specs.declared.resend_rule.Times.{Times}
use Rattle.endpoint.specs.Moments.{just_sent, sent_again, times_at, told}
use Rattle.endpoint.specs.TimelyRuns.{Event, sent, resent, times_of}
use Rattle.endpoint.proofs.Cells.{told_length, told_here, told_elsewhere}

-- an entry there was there before, and the next place is the same
pub record Loses (old new : SenderState) : Type 0 where
  pub next : new.next ≡ old.next
  pub kept : (q : ℕ) → IsSome (new.entries q) → IsSome (old.entries q)

none_of : (o : Option HistoryEntry) → IsSome o → o ≡ None → ⊥
none_of o some is = let never = subst IsSome is some in absurd (cc)

loses_none : (o : Option HistoryEntry) → Option HistoryEntry → (o ≡ None → ⊥) → IsSome o
loses_none None other not = absurd (not refl)
loses_none (Some e) other not = search rules

mapped : (f : HistoryEntry → HistoryEntry) (o : Option HistoryEntry) → IsSome (option_map f o) → IsSome o
mapped f None some = absurd (cc)
mapped f (Some e) some = search rules

pub loses_nothing : (old new : SenderState) → new ≡ old → Loses old new
loses_nothing old new is = record { next = ap (λ (s : SenderState). s.next) is; kept = λ q some. subst (λ (s : SenderState). IsSome (s.entries q)) is some }

pub loses_by_marks : (repeats : ℕ) (named : ℕ → Type 0) (old new : SenderState) (count : ℕ) → Marks repeats named old count new → Loses old new
loses_by_marks repeats named old new count marks =
    record {
      next = marks.next;
      kept = λ q some. loses_none (old.entries q) (old.entries q)
          (λ none. none_of (new.entries q) some (marks.others q (λ _ can. let never = subst (CanBeMarked repeats) none can in absurd (never)) ∙ none));
    }

pub loses_by_passing : (rule : ResendRule) (cells : List Times) (now from : ℕ) (old new : SenderState) → ((q : ℕ) → q < from → new.entries q ≡ option_map not_to_repeat (old.entries q)) →
    ((q : ℕ) → from ≤ q → new.entries q ≡ old.entries q) → new.next ≡ old.next → Loses old new
loses_by_passing rule cells now from old new below others next =
    record {
      next = next;
      kept = λ q some. elim (cases_lt q from) [
        | inl less ↦ mapped not_to_repeat (old.entries q) (subst IsSome (below q less) some)
        | inr more ↦ subst IsSome (others q more) some
      ];
    }

pub loses_the_least : (answer : Option ℕ) (old new : SenderState) → PassesAny old answer new → Loses old new
loses_the_least None old new passes = loses_nothing old new passes.1
loses_the_least (Some place) old new at =
    record {
      next = at.passes.next;
      kept = λ q some. elim (cases_eq q place) [
        | inl here ↦ subst IsSome (sym (ap old.entries here ∙ at.passes.least.was)) (search rules)
        | inr other ↦ subst IsSome (at.passes.others q other) some
      ];
    }

pub loses_by_repairing : (old new : SenderState) (place : ℕ) (entry : HistoryEntry) → Repairs old place entry new → Loses old new
loses_by_repairing old new place entry repairs =
    record {
      next = repairs.next;
      kept = λ q some. elim (cases_eq q place) [
        | inl here ↦ subst IsSome (sym (ap old.entries here ∙ repairs.was)) (search rules)
        | inr other ↦ subst IsSome (repairs.others q other) some
      ];
    }

pub loses_both : (old mid new : SenderState) → Loses old mid → Loses mid new → Loses old new
loses_both old mid new a b = record { next = b.next ∙ a.next; kept = λ q some. a.kept q (b.kept q some) }

-- what is true of the ring and the history
pub record Kept (capacity : ℕ) (events : List Event) (core : SenderState) (cells : List Times) : Type 0 where
  pub long : length cells ≡ capacity
  pub within : (q : ℕ) → IsSome (core.entries q) → (q < core.next) × (core.next ≤ q + capacity)
  pub times : (q : ℕ) → IsSome (core.entries q) → times_of q events ≡ Some (times_at cells q)

module _ (capacity : ℕ) (before : List Event) (old new : SenderState) (cells : List Times) (so : Kept capacity before old cells) where
  -- nothing is sent
  pub keeps_same : (events : List Event) → ((q : ℕ) → times_of q events ≡ times_of q before) → Loses old new → Kept capacity events new cells
  keeps_same events times loses =
      record {
        long = so.long;
        within = λ q some. subst (λ n. (q < n) × (n ≤ q + capacity)) (sym loses.next) (so.within q (loses.kept q some));
        times = λ q some. times q ∙ so.times q (loses.kept q some);
      }

  module _ (some : 0 < capacity) (now early expired : ℕ) where
    full : 0 < length cells
    full = subst (λ n. 0 < n) (sym so.long) some

    module _ (packet : ℕ × ℕ) where
      -- a packet is sent at the next place
      pub keeps_sent : packet.0 ≡ old.next → (content : Content) → Sends capacity old content new → Kept capacity (sent now (Ok (Ok packet)) ∷ before) new (told cells packet.0 (just_sent now))
      keeps_sent here content sends =
          let inside : (q : ℕ) → q ≢ old.next → IsSome (new.entries q) → IsSome (old.entries q) × (new.next ≤ q + capacity) =
          λ q other is. elim (cases_lt (q + capacity) new.next) [
            | inl under ↦ absurd (none_of (new.entries q) is (sends.gone q under))
            | inr near ↦ (subst IsSome (sends.others q other near) is, near)
          ] in
          record {
            long = told_length cells packet.0 (just_sent now) ∙ so.long;
            within = λ q is. elim (cases_eq q old.next) [
              | inl same ↦ let next = sends.next in (omega (arith, same, next), omega (arith, same, next, some))
              | inr other ↦ let was = inside q other is in let at = so.within q was.0 in let next = sends.next in (omega (arith, next, at.0), was.1)
            ];
            times = λ q is. elim (cases_eq q old.next) [
              | inl same ↦
                  ap (λ b. cond b (Some (just_sent now)) (times_of q before)) (eq-eqb packet.0 q (here ∙ sym same))
                  ∙ ap Some (sym (told_here cells packet.0 (just_sent now) full) ∙ ap (times_at (told cells packet.0 (just_sent now))) (here ∙ sym same))
              | inr other ↦
                  let was = inside q other is in
                  let at = so.within q was.0 in
                  let next = sends.next in
                  let long = so.long in
                  let apart : packet.0 ≢ q = λ same. other (sym same ∙ here) in
                  elsewhere q apart (Some (just_sent now)) ∙ so.times q was.0
                  ∙ ap Some (sym (told_elsewhere cells packet.0 q (just_sent now) apart (omega (arith, here, next, long, was.1)) (omega (arith, here, long, at.0))))
            ];
          }
        where
          elsewhere : (q : ℕ) → packet.0 ≢ q → (o : Option Times) → cond (packet.0 == q) o (times_of q before) ≡ times_of q before
          elsewhere q apart o = elim (cases_Bool (packet.0 == q)) [ inl same ↦ absurd (apart (eqb-true _ _ same)) | inr e ↦ ap (λ b. cond b o (times_of q before)) e ]

      -- a packet that the history has is retransmitted
      pub keeps_resent : (rule : ResendRule) → IsSome (old.entries packet.0) → Loses old new → Kept capacity (resent rule now early expired (Ok (Some packet)) ∷ before) new (told cells packet.0 (sent_again now (times_at cells packet.0)))
      keeps_resent rule has loses =
          let times : Times = sent_again now (times_at cells packet.0) in
          record {
            long = told_length cells packet.0 times ∙ so.long;
            within = λ q is. subst (λ n. (q < n) × (n ≤ q + capacity)) (sym loses.next) (so.within q (loses.kept q is));
            times = λ q is. elim (cases_eq packet.0 q) [
              | inl same ↦
                  ap (λ b. cond b (option_map (sent_again now) (times_of q before)) (times_of q before)) (eq-eqb packet.0 q same)
                  ∙ ap (λ k. option_map (sent_again now) (times_of k before)) (sym same)
                  ∙ ap (option_map (sent_again now)) (so.times packet.0 has)
                  ∙ ap Some (sym (told_here cells packet.0 times full) ∙ ap (times_at (told cells packet.0 times)) same)
              | inr apart ↦
                  let was = loses.kept q is in
                  let at = so.within q was in
                  let there = so.within packet.0 has in
                  let long = so.long in
                  other q apart ∙ so.times q was
                  ∙ ap Some (sym (told_elsewhere cells packet.0 q times apart (omega (arith, long, at.1, there.0)) (omega (arith, long, at.0, there.1))))
            ];
          }
        where
          other : (q : ℕ) → packet.0 ≢ q → cond (packet.0 == q) (option_map (sent_again now) (times_of q before)) (times_of q before) ≡ times_of q before
          other q apart =
              elim (cases_Bool (packet.0 == q)) [ inl same ↦ absurd (apart (eqb-true _ _ same)) | inr e ↦ ap (λ b. cond b (option_map (sent_again now) (times_of q before)) (times_of q before)) e ]
