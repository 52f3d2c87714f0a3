use Rattle.std.proofs.Common.{ℕ, ◌+◌, ◌^◌, ◌<◌, ◌≤◌, sym, subst}
use Rattle.std.specs.Option.{ForSome}
use Rattle.stores.specs.Span.{span_of}
use Rattle.stores.proofs.AskPlaces.{none_to_ask}
use Rattle.stores.proofs.ring_window.RingWindowWindow.count_asks.Goals as goal

pub returns-in_default : goal.returns-in_default
returns-in_default c = none_to_ask (span_of c.args.self.now.cursor c.args.self.now.slots) c.args.places.now c.args.now c.in_default.is c.requires

pub invariant_of-self-clause-started : goal.invariant_of-self-clause-started
invariant_of-self-clause-started c =
    let before = c.args.self.now in
    subst (λ (n : ℕ). ForSome before.cursor (λ k. (0 < k + n) × (k + n ≤ 2 ^ 48))) (sym c.count_each.ensures.len) before.started

pub invariant_of-self-clause-told : goal.invariant_of-self-clause-told
invariant_of-self-clause-told c = λ answer kept. absurd cc
