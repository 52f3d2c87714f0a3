use Rattle.std.proofs.Common.{rules, ◌≡◌, ◌+◌, subst, sym, ◌∙◌, arith}
use Rattle.std.proofs.lemmas.Option.{same_Some}
use Rattle.stores.specs.PastByPlace.{Pushes}
use Rattle.sender.specs.History.{Sends}
use Rattle.sender.specs.Sender.{Sending, history_of, state_of}
use Rattle.sender.proofs.Keeping.{push_keeps}
use Rattle.sender.proofs.Stepping.{sends}
use Rattle.sender.proofs.sender.Sender.keep.Goals as goal

pub invariant_of-self : goal.invariant_of-self
invariant_of-self g c =
    let old = g.H.History.meaning c.self.inside.history in
    let new = g.H.History.meaning c.push_from.new.self in
    let at : c.args.place ≡ c.self.inside.next = search rules in
    let fits = c.requires.fits in
    let pushes : Pushes old new c.args.place c.args.carried.now =
    c.history_by_place.ensures.push old new c.args.place c.args.carried.now (g.met.H.History.is_past c.self.inside.history) (λ next is. at ∙ c.self.invariant.follows next is) c.push_from.ensures in
    record {
      ends = omega (arith, at, fits);
      follows = λ next is. let same = same_Some _ _ (sym pushes.next ∙ is) in omega (arith, at, same);
      counted = c.self.invariant.counted;
      limit = push_keeps c.self.inside.config.repeats old new c.args.place c.args.carried.now pushes c.self.invariant.limit;
    }

pub returns-clause-sends : goal.returns-clause-sends
returns-clause-sends g c =
    let old = g.H.History.meaning c.self.inside.history in
    let new = g.H.History.meaning c.push_from.new.self in
    let is = g.met.H.History.is_past c.self.inside.history in
    let at : c.args.place ≡ c.self.inside.next = search rules in
    let pushes : Pushes old new c.args.place c.args.carried.now =
    c.history_by_place.ensures.push old new c.args.place c.args.carried.now is (λ next follows. at ∙ c.self.invariant.follows next follows) c.push_from.ensures in
    subst (λ (s : Sending). Sends s.past.capacity (state_of s) c.args.carried.now (history_of (c.self.inside.next + 1) c.self.inside.repair new)) c.self.view_is
    (sends old new c.self.inside.next c.self.inside.repair c.args.carried.now is.nonzero (subst (λ p. Pushes old new p c.args.carried.now) at pushes))
