use Rattle.std.proofs.Common.{rules, take, drop}
use Rattle.relays.proofs.Within.{asks_in}
use Rattle.relays.proofs.receiving.ReceiveRelay.ask_most.Goals as goal

pub returns-clause-asks : goal.returns-clause-asks
returns-clause-asks g c =
    asks_in c.args.room c.args.most c.args.self.now c.args.now c.ask_most_into.result (take c.args.room c.args.out.now) c.ask_most_into.new.out (drop c.args.room c.args.out.now) _
    (search rules) (search rules) (search rules) (search rules) (search rules) (search rules) (search rules) (search rules)
