use Rattle.std.proofs.Common.{◌≡◌, ℕ, List, Option, None, Result, Ok, sym, ap, subst, ◌∙◌}
use Rattle.fbwire.specs.declared.fault.FeedbackFault.{FeedbackFault}
use Rattle.fbwire.specs.Nack.{Nack}
use Rattle.fbwire.specs.Compound.{NacksName}
use Rattle.sender.specs.declared.answer.Marked.{Marked}
use Rattle.sender.specs.Feedback.{first_wrong, HearsNacks}
use Rattle.sender.specs.Sender.{Sending, history_of, state_of}
use Rattle.sender.specs.Marking.{MarksNumbers, all_numbers}
use Rattle.sender.specs.Shared.{our_numbers}
use Rattle.sender.proofs.Keeping.{marks_keep, same_stays}
use Rattle.sender.proofs.MarkedNumbers.{Laws, marks_named}
use Rattle.sender.proofs.Named.{named_among}
use Rattle.sender.proofs.Ours.{all_ours}
use Rattle.sender.proofs.sender.Sender.on_feedback.Goals as goal

pub invariant_of-self : goal.invariant_of-self
invariant_of-self g c =
    let old = g.H.History.meaning c.self.inside.history in
    let new = g.H.History.meaning c.mark_nacks-places.new.history in
    let marks = c.mark_nacks-places.ensures in
    let config = c.self.inside.config in
    record {
      ends = c.self.invariant.ends;
      follows = λ next is. c.self.invariant.follows next (sym marks.next ∙ is);
      counted = c.self.invariant.counted;
      limit = marks_keep config.repeats old new (our_numbers config c.nacks-2.result) c.mark_nacks-places.result marks c.self.invariant.limit;
    }

pub returns-clause-hears : goal.returns-clause-hears
returns-clause-hears g c =
    let past = g.H.History.meaning c.self.inside.history in
    let is = g.met.H.History.is_past c.self.inside.history in
    let after = g.H.History.meaning c.mark_nacks-places.new.history in
    let config = c.self.inside.config in
    let nacks = c.in_ok-compound.compound in
    let count = c.mark_nacks-places.result in
    let law = c.history_by_place.ensures in
    let laws : Laws = record { inside = law.inside; ends = law.ends; one = law.one } in
    let answer : Result Marked FeedbackFault = Ok (record { places = count }) in
    let new = history_of c.self.inside.next c.self.inside.repair after in
    let right : first_wrong config nacks ≡ None =
    ap (λ (n : List Nack). first_wrong config n) (sym c.nacks.ensures.value) ∙ c.in_ok-are_of_session.ensures in
    let same : our_numbers config c.nacks-2.result ≡ all_numbers nacks = ap (our_numbers config) c.nacks-2.ensures.value ∙ ap all_numbers (all_ours config nacks right) in
    let marks : MarksNumbers config.repeats (all_numbers nacks) past count after =
    subst (λ (numbers : List ℕ). MarksNumbers config.repeats numbers past count after) same c.mark_nacks-places.ensures in
    record {
      said = Ok nacks;
      says = c.in_ok-compound.ensures.spelled;
      heard =
          subst (λ (s : Sending). HearsNacks s.config (state_of s) nacks (first_wrong s.config nacks) answer new) c.self.view_is
          (subst (λ (wrong : Option FeedbackFault). HearsNacks config (history_of c.self.inside.next c.self.inside.repair past) nacks wrong answer new) (sym right)
          (marks_named config.repeats laws (all_numbers nacks) (NacksName nacks) (named_among c.nack_is_determined.ensures.names nacks) past after count c.self.inside.next c.self.inside.repair is marks));
    }

pub returns-clause-stays : goal.returns-clause-stays
returns-clause-stays g c =
    record {
      config = ap (λ (s : Sending). s.config) c.self.view_is;
      capacity = c.mark_nacks-places.ensures.capacity ∙ ap (λ (s : Sending). s.past.capacity) c.self.view_is;
      is_past = g.met.H.History.is_past c.mark_nacks-places.new.history;
    }

pub returns-in_err-compound-clause-stays : goal.returns-in_err-compound-clause-stays
returns-in_err-compound-clause-stays g c = same_stays _ _ c.self.view_is (g.met.H.History.is_past c.self.inside.history)

pub returns-in_err-are_of_session-clause-stays : goal.returns-in_err-are_of_session-clause-stays
returns-in_err-are_of_session-clause-stays g c = same_stays _ _ c.self.view_is (g.met.H.History.is_past c.self.inside.history)
