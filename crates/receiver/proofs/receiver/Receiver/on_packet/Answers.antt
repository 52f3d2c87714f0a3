use Rattle.receiver.specs.Window.{window_of}
use Rattle.receiver.proofs.Limits.{hears_keep}
use Rattle.receiver.proofs.receiver.Receiver.on_packet.Goals as goal

pub invariant_of-self : goal.invariant_of-self
invariant_of-self g c =
    let r = c.self.inside in
    let old = g.W.Window.meaning r.window in
    let new = g.W.Window.meaning c.hear_packet.new.window in
    record {
      unlearnt = c.hear_packet.ensures.unlearnt;
      limit =
          hears_keep r.config.asks old.capacity r.config c.octets.result.now c.args.now c.hear_packet.result (window_of r.learnt old) (window_of c.hear_packet.new.learnt new)
          (c.hear_packet.ensures.hears c.octets.result.now c.octets.ensures) c.self.invariant.limit;
    }
