use Rattle.receiver.specs.Window.{window_of}
use Rattle.receiver.proofs.Limits.{plays_keep}
use Rattle.receiver.proofs.receiver.Receiver.play.Goals as goal

pub invariant_of-self : goal.invariant_of-self
invariant_of-self g c =
    let r = c.self.inside in
    let old = g.W.Window.meaning r.window in
    let new = g.W.Window.meaning c.play_from.new.window in
    record {
      unlearnt = λ none. c.self.invariant.unlearnt (c.play_from.ensures.started none);
      limit = plays_keep r.config.asks c.patience-patience.result c.args.now (window_of r.learnt old) c.play_from.result (window_of r.learnt new) (c.play_from.ensures.plays r.learnt) c.self.invariant.limit;
    }
