use Rattle.std.proofs.Common.{subst, sym}
use Rattle.stores.specs.Span.{Span}
use Rattle.receiver.specs.Counted.{CountsAsks}
use Rattle.receiver.proofs.Asking.{counts_each}
use Rattle.receiver.proofs.asks.count_asks.Goals as goal

pub count_asks-requires : goal.count_asks-requires
count_asks-requires g c = (counts_each c.window_by_place.ensures.count_ask (g.W.Window.meaning c.args.window.now) c.args.places.now c.args.now c.requires.rising c.requires.askable).0

pub returns : goal.returns
returns g c =
    let all = counts_each c.window_by_place.ensures.count_ask (g.W.Window.meaning c.args.window.now) c.args.places.now c.args.now c.requires.rising c.requires.askable in
    subst (λ (s : Span). CountsAsks (g.W.Window.meaning c.args.window.now) s c.args.places.now c.args.now) (sym c.count_asks.ensures) all.1
