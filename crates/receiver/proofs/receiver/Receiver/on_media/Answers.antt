use Rattle.std.proofs.Common.{subst, option_map}
use Rattle.std.specs.Result.{result_err}
use Rattle.rtpwire.specs.FirstOf.{FirstOf}
use Rattle.receiver.specs.Fault.{receive_number}
use Rattle.receiver.specs.Order.{hearing_order}
use Rattle.receiver.specs.Receiver.{Receiving, state_of}
use Rattle.receiver.specs.Window.{window_of}
use Rattle.receiver.proofs.Limits.{hears_keep}
use Rattle.receiver.proofs.receiver.Receiver.on_media.Goals as goal

pub invariant_of-self : goal.invariant_of-self
invariant_of-self g c =
    let r = c.self.inside in
    let old = g.W.Window.meaning r.window in
    let new = g.W.Window.meaning c.hear.new.window in
    record {
      unlearnt = c.hear.ensures.unlearnt;
      limit =
          hears_keep r.config.asks old.capacity r.config c.args.octets.now c.args.now c.hear.result (window_of r.learnt old) (window_of c.hear.new.learnt new)
          c.hear.ensures.hears c.self.invariant.limit;
    }

pub returns-clause-order : goal.returns-clause-order
returns-clause-order g c =
    let r = c.self.inside in
    let old = g.W.Window.meaning r.window in
    let new = g.W.Window.meaning c.hear.new.window in
    let answer = option_map receive_number (result_err c.hear.result) in
    subst (λ (v : Receiving). FirstOf (hearing_order v.config (state_of v) c.args.octets.now) answer) c.self.view_is
    (c.hearing_is_in_order.ensures old.capacity r.config (window_of r.learnt old) c.args.octets.now c.args.now c.hear.result (window_of c.hear.new.learnt new) c.hear.ensures.hears)
