use Rattle.receiver.specs.Receiver.{state_of, with_times}
use Rattle.receiver.proofs.Timed.{gives_up_any, due_first, due_again}
use Rattle.receiver.proofs.config_laws.set_times_are_followed.Goals as goal

pub returns : goal.returns
returns c =
    record {
      given_up = λ r patience delay retry now w m answer new is free missing plays. gives_up_any patience now (state_of (with_times r patience delay retry)) w m answer new is free missing plays;
      first = λ r patience delay retry now k w m answer new some may is none asked. due_first now delay retry r.config.asks (w.missing k) m _ some may is none (asked.each.each k);
      again = λ r patience delay retry now k w m answer new was may is asked. due_again now delay retry r.config.asks (w.missing k) m _ was may is (asked.each.each k);
    }
