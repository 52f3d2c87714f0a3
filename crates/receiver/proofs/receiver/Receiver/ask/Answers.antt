use Rattle.std.proofs.Common.{◌∙◌, sym}
use Rattle.stores.specs.Asking.{longest_ask}
use Rattle.receiver.specs.Window.{window_of}
use Rattle.receiver.proofs.Limits.{asks_keep}
use Rattle.receiver.proofs.receiver.Receiver.ask.Goals as goal

pub invariant_of-self : goal.invariant_of-self
invariant_of-self g c =
    let r = c.self.inside in
    let old = g.W.Window.meaning r.window in
    let new = g.W.Window.meaning c.ask_all.new.window in
    record {
      unlearnt = λ none. c.self.invariant.unlearnt (sym c.ask_all.ensures.started ∙ none);
      limit = asks_keep r.config c.args.now longest_ask (window_of r.learnt old) c.ask_all.result (window_of r.learnt new) (c.ask_all.ensures.asks r.learnt) c.self.invariant.limit;
    }
