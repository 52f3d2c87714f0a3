use Rattle.receiver.proofs.Asking.{counts_missed}
use Rattle.receiver.proofs.asks.missing_in.Goals as goal

pub returns : goal.returns
returns g c =
    let s = g.W.Window.meaning c.args.window.now in
    λ learnt. counts_missed s.slots s.capacity learnt s.cursor c.missing.result (c.window_by_place.ensures.missing s) c.missing.ensures
