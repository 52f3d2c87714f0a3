use Rattle.std.proofs.Common.{◌∙◌, sym}
use Rattle.receiver.specs.Window.{window_of}
use Rattle.receiver.proofs.Limits.{asks_keep}
use Rattle.receiver.proofs.receiver.Receiver.ask_most.Goals as goal

pub invariant_of-self : goal.invariant_of-self
invariant_of-self g c =
    let r = c.self.inside in
    let old = g.W.Window.meaning r.window in
    let new = g.W.Window.meaning c.ask_from.new.window in
    record {
      unlearnt = λ none. c.self.invariant.unlearnt (sym c.ask_from.ensures.started ∙ none);
      limit = asks_keep r.config c.args.now c.args.most (window_of r.learnt old) c.ask_from.result (window_of r.learnt new) (c.ask_from.ensures.asks r.learnt) c.self.invariant.limit;
    }
