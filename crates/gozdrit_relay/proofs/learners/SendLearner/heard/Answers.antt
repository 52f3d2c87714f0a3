use Rattle.gozdrit_relay.specs.Learning.{SendBeginsOf}
use Rattle.gozdrit_relay.proofs.Beginning.{with_packet, without_packet}
use Rattle.gozdrit_relay.proofs.learners.SendLearner.heard.Goals as goal

pub returns-in-Some : goal.returns-in-Some
returns-in-Some g c = with_packet (SendBeginsOf c.args.self.now c.args.from c.args.before.now c.args.now) c.args.octets.now c.in-Some.view c.in-Some.ensures.some.0 c.in-Some.ensures.some.1 c.in-Some.ensures.only c.of_packet.result c.of_packet.ensures

pub returns-in-None : goal.returns-in-None
returns-in-None g c = without_packet (SendBeginsOf c.args.self.now c.args.from c.args.before.now c.args.now) c.args.octets.now c.in-None.ensures.only
