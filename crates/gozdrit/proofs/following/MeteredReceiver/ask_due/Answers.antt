use Rattle.std.proofs.Common.{ℕ, Option, Result, subst}
use Rattle.rtpwire.specs.declared.fault.TooShort.{TooShort}
use Rattle.receiver.specs.Asks.{AsksMostInto}
use Rattle.receiver.specs.Receiver.{state_of}
use Rattle.gozdrit.specs.Following.{core_of}
use Rattle.gozdrit.proofs.Copies.{nack_is_short}
use Rattle.gozdrit.proofs.following.MeteredReceiver.ask_due.Goals as goal

pub returns-in-true-Ok-Some-clause-within : goal.returns-in-true-Ok-Some-clause-within
returns-in-true-Ok-Some-clause-within c = λ len is.
    let before = core_of c.args.self.now in
    let mid = state_of c.ask_most_into-asked.new.self.endpoint.core in
    nack_is_short before.config (state_of before) mid c.args.now c.args.most len c.args.out.now c.ask_most_into-asked.new.out
    (subst (λ (a : Result (Option ℕ) TooShort). AsksMostInto before.config (state_of before) c.args.now c.args.most c.args.out.now a c.ask_most_into-asked.new.out mid) is c.ask_most_into-asked.ensures.asks)

pub returns-else-self-clause-within : goal.returns-else-self-clause-within
returns-else-self-clause-within c = λ len is.
    let before = core_of c.args.self.now in
    let mid = state_of c.ask_most_into-asked.new.self.endpoint.core in
    nack_is_short before.config (state_of before) mid c.args.now c.args.most len c.args.out.now c.ask_most_into-asked.new.out
    (subst (λ (a : Result (Option ℕ) TooShort). AsksMostInto before.config (state_of before) c.args.now c.args.most c.args.out.now a c.ask_most_into-asked.new.out mid) is c.ask_most_into-asked.ensures.asks)
