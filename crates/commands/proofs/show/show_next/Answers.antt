use Rattle.std.proofs.Common.{rules}
use Rattle.commands.proofs.ShowLemmas.{one_begun, one_more, some_taken}
use Rattle.commands.proofs.show.show_next.Goals as goal

pub returns-in-Ok-clause-taken : goal.returns-in-Ok-clause-taken
returns-in-Ok-clause-taken g c =
    let met = c.in-Ok-default-Some in
    let whole = rw met.field-0-1-is at met.ensures.whole in
    let law = c.framing_is_determined.ensures in
    (some_taken c.args.deframer.now.rest c.args.piece.now met.datagram.items met.taken law.one law.whole c.requires.rest whole.0 whole.1, met.ensures.within)

pub returns-in-Ok-clause-ok : goal.returns-in-Ok-clause-ok
returns-in-Ok-clause-ok g c =
    let met = c.in-Ok-default-Some in
    let whole = rw met.field-0-1-is at met.ensures.whole in
    let pushed = c.in-Ok.ensures in
    λ start read so.
    one_more start _ _ read _ _ _ met.datagram.items pushed.0 _ _ c.framing_is_determined.ensures.whole whole.0 whole.1 whole.2 (search rules) (search rules) (search rules) so

pub returns-in-Err-push_datagram-clause-err : goal.returns-in-Err-push_datagram-clause-err
returns-in-Err-push_datagram-clause-err g c =
    let met = c.in-Ok-default-Some in
    let whole = rw met.field-0-1-is at met.ensures.whole in
    let pushed = c.in-Err-push_datagram.ensures in
    λ start read so.
    one_begun start _ _ read _ _ met.datagram.items pushed.0 _ met.taken c.framing_is_determined.ensures.whole whole.0 whole.1 (search rules) (search rules) so
