use Rattle.std.proofs.Common.{Err, subst}
use Rattle.rtpwire.specs.declared.content.Content.{Content}
use Rattle.sender.specs.Sender.{state_of}
use Rattle.sender.specs.Sending.{SendsAny}
use Rattle.sender.proofs.sender.Sender.send_to.Goals as goal

pub returns-in-Err-clause-sends : goal.returns-in-Err-clause-sends
returns-in-Err-clause-sends g c =
    let before = c.args.self.now in
    subst (λ (content : Content). SendsAny before.config.session before.past.capacity (state_of before) content c.args.padding (Err c.in-Err.fault) (state_of before)) c.of_content-carried.ensures
    (c.in-Err.ensures before.config.session before.past.capacity)
