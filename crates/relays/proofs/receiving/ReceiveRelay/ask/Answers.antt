use Rattle.std.proofs.Common.{rules}
use Rattle.relays.proofs.Reporting.{asks_far}
use Rattle.relays.proofs.receiving.ReceiveRelay.ask.Goals as goal

pub returns-clause-some : goal.returns-clause-some
returns-clause-some g c =
    asks_far c.args.self.now c.ask_within.new.self c.if-spend.self c.args.now c.feedback_room-room.result c.in_ok-nack.nack c.report-len.result c.at.result c.ask_within.new.out c.report-len.new.out
    (search rules) (search rules) (search rules) (search rules) (search rules) (search rules) (search rules) (search rules) (search rules)
