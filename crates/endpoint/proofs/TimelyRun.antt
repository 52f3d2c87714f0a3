-- Over all its calls an endpoint that knows the time retransmits what is in time, and passes over what is not.
use Rattle.std.proofs.Common.{rules, ◌≡◌, ◌≢◌, ℕ, ◌<◌, Bool, true, false, List, [], ◌∷◌, length, Option, Some, None, IsSome, Result, Ok, Err, refl, sym, ap, subst, ◌∙◌, arith, inl, inr}
use Rattle.std.specs.Prelude.{IsSomeAnd}
use Rattle.std.specs.List.{sum_by}
use Rattle.std.proofs.lemmas.Bool.{cases_lt}
use Rattle.fbwire.specs.declared.fault.FeedbackFault.{FeedbackFault}
use Rattle.rtpwire.specs.declared.fault.TooShort.{TooShort}
use Rattle.stores.specs.PastByPlace.{is_marked}
use Rattle.stores.specs.declared.entry.HistoryEntry.{HistoryEntry}
use Rattle.sender.specs.declared.answer.Shared.{Shared}
use Rattle.sender.specs.declared.fault.SendFault.{SendFault}
use Rattle.sender.specs.declared.fault.SendFault.TheVariants.{PaddedEmpty, Exhausted}
use Rattle.sender.specs.Config.{Config}
use Rattle.sender.specs.Feedback.{MarksOrRefuses}
use Rattle.sender.specs.History.{SenderState, Sends}
use Rattle.sender.specs.Passing.{IsNext}
use Rattle.sender.specs.Sender.{Sending, new_sending, state_of}
use Rattle.sender.specs.Shared.{HearsShared, marked_of}
use Rattle.stores.specs.Past.{empty_past}
use Rattle.endpoint.specs.declared.told.Told.{Told}
use Rattle.endpoint.specs.declared.resend_rule.ResendRule.{ResendRule}
use Rattle.endpoint.specs.declared.resend_rule.Verdict.TheVariants.{Go}
use Rattle.endpoint.specs.declared.resend_counts.ResendCounts.{ResendCounts}
use Rattle.endpoint.specs.Counts.{count_in_64, more}
use Rattle.endpoint.specs.Moments.{times_at}
use Rattle.endpoint.specs.Passing.{verdict_at}
use Rattle.endpoint.specs.Resending.{IsInTime}
use Rattle.endpoint.specs.Sending.{TellsKind}
use Rattle.endpoint.specs.TimelyRuns.{Event, sent, resent, heard, marked_last, passed_over, Timely, SendStep, ResendStep, Steps, RunsOver, times_of, early_in, expired_in, IsOutOfTime}
use Rattle.endpoint.proofs.Adding.{adds}
use Rattle.endpoint.proofs.InTime.{in_time, out_of_time}
use Rattle.endpoint.proofs.Passes.{from_below, never}
use Rattle.endpoint.proofs.TimelyKept.{Loses, loses_nothing, loses_by_marks, loses_by_passing, loses_by_repairing, loses_the_least, loses_both, Kept, keeps_same, keeps_sent, keeps_resent}

pub record KeptRun (capacity : ℕ) (events : List Event) (t : Timely) : Type 0 where
  pub room : t.core.past.capacity ≡ capacity
  pub kept : Kept capacity events (state_of t.core) t.cells

module _ (rule : ResendRule) (now early expired : ℕ) (answer : Result (Option (ℕ × ℕ)) TooShort) (old new : Timely) (steps : ResendStep rule now early expired answer old new) where
  passed_loses : Loses (state_of old.core) steps.retransmits.between
  passed_loses =
      let passes = steps.retransmits.passes in
      loses_by_passing rule old.cells now passes.from (state_of old.core) steps.retransmits.between passes.passes.below passes.passes.others passes.passes.next

-- what the answer of a retransmission says
module _ (rule : ResendRule) (now early expired : ℕ) (packet : ℕ × ℕ) (old new : Timely) (steps : ResendStep rule now early expired (Ok (Some packet)) old new) where
  resent_next : IsNext steps.retransmits.between packet.0
  resent_next =
      let at = steps.retransmits.repairs.0 in
      record { entry = at.entry; least = record { was = at.repairs.was; marked = at.repairs.marked; least = at.repairs.least } }

  resent_has : IsSome ((state_of old.core).entries packet.0)
  resent_has =
      let at = steps.retransmits.repairs.0 in
      (passed_loses rule now early expired (Ok (Some packet)) old new steps).kept packet.0 (subst IsSome (sym at.repairs.was) (search rules))

  resent_loses : Loses (state_of old.core) (state_of new.core)
  resent_loses =
      let at = steps.retransmits.repairs.0 in
      loses_both (state_of old.core) steps.retransmits.between (state_of new.core) (passed_loses rule now early expired (Ok (Some packet)) old new steps)
      (loses_by_repairing steps.retransmits.between (state_of new.core) packet.0 at.entry at.repairs)

abbrev pub Law : Type 0
Law = (c : Config) (old : SenderState) (octets : List ℕ) (answer : Result Shared FeedbackFault) (new : SenderState) → HearsShared c old octets answer new → MarksOrRefuses c old (marked_of answer) new

module _ (law : Law) where
  heard_loses : (control : Bool) (old new : Sending) (octets : List ℕ) (answer : Result Told FeedbackFault) → TellsKind control old octets answer new → Loses (state_of old) (state_of new)
  heard_loses false old new octets answer (is, same) = loses_nothing (state_of old) (state_of new) (ap state_of same)
  heard_loses true old new octets answer hears = by hears.shared (law old.config (state_of old) octets hears.shared (state_of new) hears.handed.hears)
    where
      by : (shared : Result Shared FeedbackFault) → MarksOrRefuses old.config (state_of old) (marked_of shared) (state_of new) → Loses (state_of old) (state_of new)
      by (Ok shared) (nacks, marks) = loses_by_marks old.config.repeats _ (state_of old) (state_of new) shared.places marks
      by (Err fault) same = loses_nothing (state_of old) (state_of new) same

  heard_room : (control : Bool) (old new : Sending) (octets : List ℕ) (answer : Result Told FeedbackFault) → TellsKind control old octets answer new → new.past.capacity ≡ old.past.capacity
  heard_room false old new octets answer (is, same) = ap (λ (s : Sending). s.past.capacity) same
  heard_room true old new octets answer hears = hears.handed.stays.capacity

  module _ (capacity : ℕ) (some : 0 < capacity) (before : List Event) (old new : Timely) (so : KeptRun capacity before old) where
    as_it_was : (event : Event) → ((q : ℕ) → times_of q (event ∷ before) ≡ times_of q before) → new.core.past.capacity ≡ old.core.past.capacity → new.cells ≡ old.cells →
        Loses (state_of old.core) (state_of new.core) → KeptRun capacity (event ∷ before) new
    as_it_was event times room cells loses =
        record {
          room = room ∙ so.room;
          kept = subst (Kept capacity (event ∷ before) (state_of new.core)) (sym cells)
              (keeps_same capacity before (state_of old.core) (state_of new.core) old.cells so.kept (event ∷ before) times loses);
        }

    refused_send : (fault : SendFault) (now : ℕ) → SendStep now (Ok (Err fault)) old new → state_of new.core ≡ state_of old.core
    refused_send PaddedEmpty now steps = steps.sends.1.1
    refused_send Exhausted now steps = steps.sends.1.2

    sent_so : (now : ℕ) (answer : Result (Result (ℕ × ℕ) SendFault) TooShort) → SendStep now answer old new → KeptRun capacity (sent now answer ∷ before) new
    sent_so now (Ok (Ok packet)) steps =
        let at = steps.sends.1 in
        let room : old.core.past.capacity ≡ capacity = so.room in
        record {
          room = steps.stays.capacity ∙ room;
          kept = subst (Kept capacity (sent now (Ok (Ok packet)) ∷ before) (state_of new.core)) (sym steps.cells)
              (keeps_sent capacity before (state_of old.core) (state_of new.core) old.cells so.kept some now 0 0 packet at.place_is steps.content
              (subst (λ n. Sends n (state_of old.core) steps.content (state_of new.core)) room at.sends));
        }
    sent_so now (Ok (Err fault)) steps =
        as_it_was (sent now (Ok (Err fault))) (λ q. refl) steps.stays.capacity steps.cells (loses_nothing _ _ (refused_send fault now steps))
    sent_so now (Err short) steps =
        as_it_was (sent now (Err short)) (λ q. refl) steps.stays.capacity steps.cells (loses_nothing _ _ steps.sends.3)

    resent_so : (rule : ResendRule) (now early expired : ℕ) (answer : Result (Option (ℕ × ℕ)) TooShort) → ResendStep rule now early expired answer old new → KeptRun capacity (resent rule now early expired answer ∷ before) new
    resent_so rule now early expired (Ok (Some packet)) steps =
        record {
          room = steps.stays.capacity ∙ so.room;
          kept = subst (Kept capacity (resent rule now early expired (Ok (Some packet)) ∷ before) (state_of new.core)) (sym steps.cells)
              (keeps_resent capacity before (state_of old.core) (state_of new.core) old.cells so.kept some now early expired packet rule
              (resent_has rule now early expired packet old new steps) (resent_loses rule now early expired packet old new steps));
        }
    resent_so rule now early expired (Ok None) steps =
        as_it_was (resent rule now early expired (Ok None)) (λ q. refl) steps.stays.capacity steps.cells
        (loses_both _ steps.retransmits.between _ (passed_loses rule now early expired (Ok None) old new steps) (loses_nothing _ _ steps.retransmits.repairs.0.1))
    resent_so rule now early expired (Err short) steps =
        as_it_was (resent rule now early expired (Err short)) (λ q. refl) steps.stays.capacity steps.cells
        (loses_both _ steps.retransmits.between _ (passed_loses rule now early expired (Err short) old new steps) (loses_nothing _ _ steps.retransmits.repairs.3))

    stepped : (event : Event) → Steps event old new → KeptRun capacity (event ∷ before) new
    stepped (sent now answer) steps = sent_so now answer steps
    stepped (resent rule now early expired answer) steps = resent_so rule now early expired answer steps
    stepped (heard answer) steps =
        as_it_was (heard answer) (λ q. refl) (heard_room steps.control old.core new.core steps.octets answer steps.tells) steps.same.cells
        (heard_loses steps.control old.core new.core steps.octets answer steps.tells)
    stepped marked_last steps =
        as_it_was marked_last (λ q. refl) steps.stays.capacity steps.same.cells
        (loses_by_marks old.core.config.repeats _ (state_of old.core) (state_of new.core) steps.marked.places steps.marks)
    stepped passed_over steps =
        as_it_was passed_over (λ q. refl) steps.stays.capacity steps.same.cells (loses_the_least steps.answer (state_of old.core) (state_of new.core) steps.passes)

  begun : (c : Config) (capacity : ℕ) (t : Timely) → t.core ≡ new_sending c (empty_past capacity) → length t.cells ≡ capacity → KeptRun capacity [] t
  begun c capacity t is long =
      record {
        room = ap (λ (s : Sending). s.past.capacity) is;
        kept = record {
          long = long;
          within = λ q has. let never = subst (λ (s : Sending). IsSome ((state_of s).entries q)) is has in absurd (cc);
          times = λ q has. let never = subst (λ (s : Sending). IsSome ((state_of s).entries q)) is has in absurd (cc);
        };
      }

  pub run_kept : (c : Config) (capacity : ℕ) → 0 < capacity → (events : List Event) (t : Timely) → RunsOver c capacity events t → KeptRun capacity events t
  run_kept c capacity some [] t begins = begun c capacity t begins.core begins.cells
  run_kept c capacity some (event ∷ before) t runs =
      stepped capacity some before runs.old t (run_kept c capacity some before runs.old runs.before) event runs.steps

  module _ (c : Config) (capacity : ℕ) (some : 0 < capacity) (before : List Event) (old : Timely) (runs : RunsOver c capacity before old) where
    pub kept_times : (q : ℕ) → IsSome ((state_of old.core).entries q) → times_of q before ≡ Some (times_at old.cells q)
    kept_times = (run_kept c capacity some before old runs).kept.times

    pub goes_in_time : (rule : ResendRule) (now early expired : ℕ) (packet : ℕ × ℕ) (new : Timely) → ResendStep rule now early expired (Ok (Some packet)) old new → IsSomeAnd (times_of packet.0 before) (λ times. IsInTime rule times now)
    goes_in_time rule now early expired packet new steps =
        let may = steps.retransmits.passes.may packet.0 (resent_next rule now early expired packet old new steps) in
        subst (λ o. IsSomeAnd o (λ times. IsInTime rule times now)) (sym (kept_times packet.0 (resent_has rule now early expired packet old new steps)))
        (in_time rule (times_at old.cells packet.0) now may)

    passed_late : (rule : ResendRule) (now q : ℕ) → is_marked ((state_of old.core).entries q) ≡ true → verdict_at rule old.cells now q ≢ Go → IsSomeAnd (times_of q before) (λ times. IsOutOfTime rule times now)
    passed_late rule now q marked not =
        subst (λ o. IsSomeAnd o (λ times. IsOutOfTime rule times now)) (sym (kept_times q (some_marked ((state_of old.core).entries q) marked)))
        (out_of_time rule (times_at old.cells q) now not)
      where
        some_marked : (o : Option HistoryEntry) → is_marked o ≡ true → IsSome o
        some_marked None is = absurd (cc)
        some_marked (Some e) is = search rules

    pub none_in_time : (rule : ResendRule) (now early expired : ℕ) (new : Timely) → ResendStep rule now early expired (Ok None) old new → (q : ℕ) → is_marked ((state_of old.core).entries q) ≡ true → IsSomeAnd (times_of q before) (λ times. IsOutOfTime rule times now)
    none_in_time rule now early expired new steps q marked =
        let passes = steps.retransmits.passes in
        elim (cases_lt q passes.from) [
          | inl less ↦ passed_late rule now q marked (passes.passes.none_may q less marked)
          | inr more ↦ never (is_marked ((state_of old.core).entries q)) marked (ap is_marked (sym (passes.passes.others q more)) ∙ steps.retransmits.repairs.0.0 q)
        ]

    pub below_late : (rule : ResendRule) (now early expired : ℕ) (packet : ℕ × ℕ) (new : Timely) → ResendStep rule now early expired (Ok (Some packet)) old new → (q : ℕ) → q < packet.0 → is_marked ((state_of old.core).entries q) ≡ true →
        IsSomeAnd (times_of q before) (λ times. IsOutOfTime rule times now)
    below_late rule now early expired packet new steps q under marked =
        let passes = steps.retransmits.passes in
        elim (cases_lt q passes.from) [
          | inl less ↦ passed_late rule now q marked (passes.passes.none_may q less marked)
          | inr more ↦
              never (is_marked ((state_of old.core).entries q)) marked
              (ap is_marked (sym (passes.passes.others q more)) ∙ (resent_next rule now early expired packet old new steps).least.least q under)
        ]

    pub above_stays : (rule : ResendRule) (now early expired : ℕ) (packet : ℕ × ℕ) (new : Timely) → ResendStep rule now early expired (Ok (Some packet)) old new → (q : ℕ) → packet.0 < q → (state_of new.core).entries q ≡ (state_of old.core).entries q
    above_stays rule now early expired packet new steps q above =
        let passes = steps.retransmits.passes in
        let next = resent_next rule now early expired packet old new steps in
        let below = from_below rule old.cells now passes.from (state_of old.core) old.passed steps.retransmits.between new.passed passes.passes packet.0 next in
        steps.retransmits.repairs.0.repairs.others q (λ same. absurd (omega (arith, same, above))) ∙ passes.passes.others q (omega (arith, below, above))

-- what was passed over is counted
module _ (c : Config) (capacity : ℕ) where
  pub early_counted : (events : List Event) (t : Timely) → RunsOver c capacity events t → t.passed.early ≡ count_in_64 (sum_by early_in events)
  early_counted [] t begins = ap (λ (n : ResendCounts). n.early) begins.passed
  early_counted (sent now answer ∷ before) t runs = ap (λ (n : ResendCounts). n.early) runs.steps.passed ∙ early_counted before runs.old runs.before
  early_counted (resent rule now early expired answer ∷ before) t runs =
      runs.steps.retransmits.passes.passes.early
      ∙ ap (more runs.old.passed.early) (sym runs.steps.early_is)
      ∙ ap (λ n. more n early) (early_counted before runs.old runs.before)
      ∙ adds early_in (resent rule now early expired answer) before
  early_counted (heard answer ∷ before) t runs = ap (λ (n : ResendCounts). n.early) runs.steps.same.passed ∙ early_counted before runs.old runs.before
  early_counted (marked_last ∷ before) t runs = ap (λ (n : ResendCounts). n.early) runs.steps.same.passed ∙ early_counted before runs.old runs.before
  early_counted (passed_over ∷ before) t runs = ap (λ (n : ResendCounts). n.early) runs.steps.same.passed ∙ early_counted before runs.old runs.before

  pub expired_counted : (events : List Event) (t : Timely) → RunsOver c capacity events t → t.passed.expired ≡ count_in_64 (sum_by expired_in events)
  expired_counted [] t begins = ap (λ (n : ResendCounts). n.expired) begins.passed
  expired_counted (sent now answer ∷ before) t runs = ap (λ (n : ResendCounts). n.expired) runs.steps.passed ∙ expired_counted before runs.old runs.before
  expired_counted (resent rule now early expired answer ∷ before) t runs =
      runs.steps.retransmits.passes.passes.expired
      ∙ ap (more runs.old.passed.expired) (sym runs.steps.expired_is)
      ∙ ap (λ n. more n expired) (expired_counted before runs.old runs.before)
      ∙ adds expired_in (resent rule now early expired answer) before
  expired_counted (heard answer ∷ before) t runs = ap (λ (n : ResendCounts). n.expired) runs.steps.same.passed ∙ expired_counted before runs.old runs.before
  expired_counted (marked_last ∷ before) t runs = ap (λ (n : ResendCounts). n.expired) runs.steps.same.passed ∙ expired_counted before runs.old runs.before
  expired_counted (passed_over ∷ before) t runs = ap (λ (n : ResendCounts). n.expired) runs.steps.same.passed ∙ expired_counted before runs.old runs.before
