use Rattle.std.proofs.Common.{◌<◌, length, refl, arith}
use Rattle.std.proofs.lemmas.Option.{slice_get_read}
use Rattle.stores.proofs.AskedBlocks.{bound_after_asks, bound_of_no_word}
use Rattle.stores.proofs.due.counting.note_asks.Goals as goal

pub returns-then-word-len-clause-bound : goal.returns-then-word-len-clause-bound
returns-then-word-len-clause-bound c = λ rule front slots but due.
    let bounds = c.args.bounds.now.items in
    let len = c.len.ensures in
    let below = c.if-word-len.true in
    let within : c.args.word < length bounds = omega arith in
    let was = slice_get_read bounds (length bounds) c.args.word c.index_mut.result.now refl within c.index_mut.ensures.value in
    bound_after_asks rule bounds front c.args.word c.args.bits c.args.again slots c.index_mut.result.now c.take_in.new.self within was c.take_in.ensures.from c.take_in.ensures.without but due

pub returns-else-word-len-clause-bound : goal.returns-else-word-len-clause-bound
returns-else-word-len-clause-bound c = λ rule front slots but due.
    let len = c.len.ensures in
    let past = c.if-word-len.false in
    bound_of_no_word rule c.args.bounds.now.items front c.args.word c.args.bits slots (omega arith) but
