use Rattle.std.proofs.Common.{◌<◌, List, length, Result, Ok, refl, sym, ap, subst, ◌∙◌}
use Rattle.fbwire.specs.declared.fault.FeedbackFault.{FeedbackFault}
use Rattle.fbwire.specs.Nack.{Nack}
use Rattle.fbwire.specs.Compound.{NacksName}
use Rattle.sender.specs.declared.answer.Shared.{Shared}
use Rattle.sender.specs.Counting.{CountsNacks}
use Rattle.sender.specs.Sender.{Sending, history_of, state_of}
use Rattle.sender.specs.Marking.{MarksNumbers, all_numbers}
use Rattle.sender.specs.Shared.{ours, our_numbers, MarksOurs, SharesNacks}
use Rattle.sender.proofs.Counted.{counts_shared}
use Rattle.sender.proofs.Counted as counting
use Rattle.sender.proofs.Keeping.{marks_keep, same_stays}
use Rattle.sender.proofs.MarkedNumbers.{Laws, marks_named}
use Rattle.sender.proofs.Named.{named_among}
use Rattle.sender.proofs.sender.Sender.on_shared_feedback.Goals as goal

pub invariant_of-self : goal.invariant_of-self
invariant_of-self g c =
    let old = g.H.History.meaning c.self.inside.history in
    let new = g.H.History.meaning c.mark_nacks-places.new.history in
    let marks = c.mark_nacks-places.ensures in
    let config = c.self.inside.config in
    record {
      ends = c.self.invariant.ends;
      follows = λ next is. c.self.invariant.follows next (sym marks.next ∙ is);
      counted = c.self.invariant.counted;
      limit = marks_keep config.repeats old new (our_numbers config c.nacks-3.result) c.mark_nacks-places.result marks c.self.invariant.limit;
    }

pub returns-clause-hears : goal.returns-clause-hears
returns-clause-hears g c =
    let past = g.H.History.meaning c.self.inside.history in
    let is = g.met.H.History.is_past c.self.inside.history in
    let after = g.H.History.meaning c.mark_nacks-places.new.history in
    let config = c.self.inside.config in
    let nacks = c.in_ok-compound.compound in
    let counted = c.count_nacks-counted.result in
    let count = c.mark_nacks-places.result in
    let law = c.history_by_place.ensures in
    let laws : Laws = record { inside = law.inside; ends = law.ends; one = law.one } in
    let finds : counting.Laws = record { find = law.find; one = law.one } in
    let old = history_of c.self.inside.next c.self.inside.repair past in
    let new = history_of c.self.inside.next c.self.inside.repair after in
    let shared : Shared = record { places = count; nacks = counted.nacks; others = counted.others; numbers = counted.numbers; unknown = counted.unknown; exhausted = counted.exhausted } in
    let answer : Result Shared FeedbackFault = Ok shared in
    let some : 0 < length (ours config nacks) =
    subst (λ (n : List Nack). 0 < length (ours config n)) c.nacks.ensures.value c.in_ok-one_is_of_session.ensures in
    let counts : CountsNacks config past nacks counted =
    subst (λ (n : List Nack). CountsNacks config past n counted) c.nacks-2.ensures.value c.count_nacks-counted.ensures in
    let marks : MarksNumbers config.repeats (all_numbers (ours config nacks)) past count after =
    subst (λ (n : List Nack). MarksNumbers config.repeats (our_numbers config n) past count after) c.nacks-3.ensures.value c.mark_nacks-places.ensures in
    let heard : MarksOurs config old nacks shared new =
    record {
      some = some;
      marks = marks_named config.repeats laws (all_numbers (ours config nacks)) (NacksName (ours config nacks)) (named_among c.nack_is_determined.ensures.names (ours config nacks)) past after count c.self.inside.next c.self.inside.repair is marks;
      counts = counts_shared finds config past is c.self.inside.next c.self.inside.repair nacks counted shared counts refl refl refl refl refl;
    } in
    record {
      said = Ok nacks;
      says = c.in_ok-compound.ensures.spelled;
      heard = subst (λ (s : Sending). SharesNacks s.config (state_of s) nacks answer new) c.self.view_is heard;
    }

pub returns-clause-stays : goal.returns-clause-stays
returns-clause-stays g c =
    record {
      config = ap (λ (s : Sending). s.config) c.self.view_is;
      capacity = c.mark_nacks-places.ensures.capacity ∙ ap (λ (s : Sending). s.past.capacity) c.self.view_is;
      is_past = g.met.H.History.is_past c.mark_nacks-places.new.history;
    }

pub returns-in_err-compound-clause-stays : goal.returns-in_err-compound-clause-stays
returns-in_err-compound-clause-stays g c = same_stays _ _ c.self.view_is (g.met.H.History.is_past c.self.inside.history)

pub returns-in_err-one_is_of_session-clause-stays : goal.returns-in_err-one_is_of_session-clause-stays
returns-in_err-one_is_of_session-clause-stays g c = same_stays _ _ c.self.view_is (g.met.H.History.is_past c.self.inside.history)
