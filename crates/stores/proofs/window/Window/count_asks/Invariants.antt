use Rattle.std.proofs.Common.{◌≡◌, drop}
use Rattle.stores.specs.Asking.{CanEachBeAsked, asked_each}
use Rattle.stores.proofs.window.Window.count_asks.Given as goal

abbrev pub invariant-loop-place : goal.invariant-loop-place
invariant-loop-place g l = record {
  left : asked_each (g.Self.Window.meaning l.fn.self) l.places l.now ≡ asked_each (g.Self.Window.meaning l.self) (drop l.place-index l.places) l.now;
  askable : CanEachBeAsked (g.Self.Window.meaning l.self) (drop l.place-index l.places) l.now;
}
