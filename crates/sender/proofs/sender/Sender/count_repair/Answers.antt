use Rattle.std.proofs.Common.{◌≡◌, ◌+◌, ◌%◌, true, ap, ◌∙◌, subst, sym}
use Rattle.stores.specs.Past.{entry_at}
use Rattle.stores.specs.PastByPlace.{is_marked}
use Rattle.sender.specs.History.{IsLeastMarked, Repairs}
use Rattle.sender.specs.Sender.{Sending, history_of, state_of}
use Rattle.sender.proofs.Keeping.{repeat_keeps}
use Rattle.sender.proofs.Stepping.{repairs}
use Rattle.sender.proofs.sender.Sender.count_repair.Goals as goal

pub invariant_of-self : goal.invariant_of-self
invariant_of-self g c =
    let old = g.H.History.meaning c.self.inside.history in
    let new = g.H.History.meaning c.count_repeat.new.self in
    let entry = c.requires.0 in
    let is : IsLeastMarked (state_of c.args.self.now) c.args.place entry = c.requires.1 in
    let here : IsLeastMarked (history_of c.self.inside.next c.self.inside.repair old) c.args.place entry =
    subst (λ (s : Sending). IsLeastMarked (state_of s) c.args.place entry) (sym c.self.view_is) is in
    let marked : is_marked (entry_at old c.args.place) ≡ true = ap is_marked here.was ∙ here.marked in
    let changes = c.history_by_place.ensures.count_repeat old new c.args.place c.count_repeat.ensures in
    record {
      ends = c.self.invariant.ends;
      follows = λ next is. c.self.invariant.follows next (sym changes.next ∙ is);
      counted = c.self.invariant.counted;
      limit = repeat_keeps c.self.inside.config.repeats old new c.args.place changes marked c.self.invariant.limit;
    }

pub returns-clause-repairs : goal.returns-clause-repairs
returns-clause-repairs g c = λ entry is.
    let old = g.H.History.meaning c.self.inside.history in
    let new = g.H.History.meaning c.count_repeat.new.self in
    let place = c.args.place in
    let inside = c.self.inside in
    let here : IsLeastMarked (history_of inside.next inside.repair old) place entry =
    subst (λ (s : Sending). IsLeastMarked (state_of s) place entry) (sym c.self.view_is) is in
    let marked : is_marked (entry_at old place) ≡ true = ap is_marked here.was ∙ here.marked in
    let changes = c.history_by_place.ensures.count_repeat old new place c.count_repeat.ensures in
    let step : Repairs (history_of inside.next inside.repair old) place entry (history_of inside.next ((inside.repair + 1) % 65536) new) =
    repairs old new inside.next inside.repair place entry here.was marked here.least changes in
    subst (λ (s : Sending). Repairs (state_of s) place entry (history_of inside.next ((inside.repair + 1) % 65536) new)) c.self.view_is step
