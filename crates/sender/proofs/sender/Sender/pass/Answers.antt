use Rattle.std.proofs.Common.{subst, sym, ◌∙◌}
use Rattle.sender.specs.History.{IsLeastMarked, PassesOver}
use Rattle.sender.specs.Sender.{Sending, history_of, state_of}
use Rattle.sender.proofs.Keeping.{unmark_keeps}
use Rattle.sender.proofs.Stepping.{passes}
use Rattle.sender.proofs.sender.Sender.pass.Goals as goal

pub invariant_of-self : goal.invariant_of-self
invariant_of-self g c =
    let old = g.H.History.meaning c.self.inside.history in
    let new = g.H.History.meaning c.unmark.new.self in
    let changes = c.history_by_place.ensures.unmark old new c.args.place c.unmark.ensures in
    record {
      ends = c.self.invariant.ends;
      follows = λ next is. c.self.invariant.follows next (sym changes.next ∙ is);
      counted = c.self.invariant.counted;
      limit = unmark_keeps c.self.inside.config.repeats old new c.args.place changes c.self.invariant.limit;
    }

pub returns-clause-passes : goal.returns-clause-passes
returns-clause-passes g c = λ entry is.
    let old = g.H.History.meaning c.self.inside.history in
    let new = g.H.History.meaning c.unmark.new.self in
    let place = c.args.place in
    let inside = c.self.inside in
    let here : IsLeastMarked (history_of inside.next inside.repair old) place entry =
    subst (λ (s : Sending). IsLeastMarked (state_of s) place entry) (sym c.self.view_is) is in
    let changes = c.history_by_place.ensures.unmark old new place c.unmark.ensures in
    let step : PassesOver (history_of inside.next inside.repair old) place entry (history_of inside.next inside.repair new) =
    passes old new inside.next inside.repair place entry here changes in
    subst (λ (s : Sending). PassesOver (state_of s) place entry (history_of inside.next inside.repair new)) c.self.view_is step
