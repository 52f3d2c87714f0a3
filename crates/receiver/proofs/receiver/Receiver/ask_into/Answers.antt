use Rattle.std.proofs.Common.{◌∙◌, sym}
use Rattle.stores.specs.Asking.{longest_ask}
use Rattle.receiver.specs.Window.{window_of}
use Rattle.receiver.proofs.Limits.{asks_into_keep}
use Rattle.receiver.proofs.receiver.Receiver.ask_into.Goals as goal

pub invariant_of-self : goal.invariant_of-self
invariant_of-self g c =
    let r = c.self.inside in
    let old = g.W.Window.meaning r.window in
    let new = g.W.Window.meaning c.ask_all_into.new.window in
    record {
      unlearnt = λ none. c.self.invariant.unlearnt (sym c.ask_all_into.ensures.started ∙ none);
      limit = asks_into_keep r.config c.args.now longest_ask (window_of r.learnt old) c.args.out.now c.ask_all_into.result c.ask_all_into.new.out (window_of r.learnt new) (c.ask_all_into.ensures.asks r.learnt) c.self.invariant.limit;
    }
