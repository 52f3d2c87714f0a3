use Rattle.std.proofs.Common.{◌∙◌}
use Rattle.srtp.proofs.Guesses.{first_index, first_fault, later_index, past_the_end, before_the_first, between}
use Rattle.srtp.proofs.stream.Stream.index_for.Goals as goal

pub returns-then-next-eq0-clause-index : goal.returns-then-next-eq0-clause-index
returns-then-next-eq0-clause-index g c = λ context held.
    rw (c.index_behind.ensures.value, held.rollover)
    (first_index context.rollover c.args.seq c.next-next.result context.taken (c.next-next.ensures.next ∙ held.taken.highest) c.if-next-eq0.true)

pub returns-then-next-eq0-clause-fault : goal.returns-then-next-eq0-clause-fault
returns-then-next-eq0-clause-fault g c = λ context held.
    first_fault c.next-next.result _ context.taken (c.next-next.ensures.next ∙ held.taken.highest) c.if-next-eq0.true

pub returns-then-index-next-clause-fault : goal.returns-then-index-next-clause-fault
returns-then-index-next-clause-fault g c = λ context held.
    let e = c.next-next.ensures.next ∙ held.taken.highest in
    rw (← later_index context.rollover c.args.seq c.next-next.result _ context.taken e c.if-next-eq0.false c.guess_index-index.ensures.index)
    (past_the_end c.next-next.result _ context.taken e c.if-next-eq0.false c.if-index-next.true)

pub returns-then-next-index-clause-fault : goal.returns-then-next-index-clause-fault
returns-then-next-index-clause-fault g c = λ context held.
    let e = c.next-next.ensures.next ∙ held.taken.highest in
    rw (← later_index context.rollover c.args.seq c.next-next.result _ context.taken e c.if-next-eq0.false c.guess_index-index.ensures.index)
    (before_the_first c.next-next.result _ context.taken e c.if-next-eq0.false c.if-index-next.false c.if-next-index.true)

pub returns-else-next-index-clause-index : goal.returns-else-next-index-clause-index
returns-else-next-index-clause-index g c = λ context held.
    let e = c.next-next.ensures.next ∙ held.taken.highest in
    later_index context.rollover c.args.seq c.next-next.result _ context.taken e c.if-next-eq0.false c.guess_index-index.ensures.index

pub returns-else-next-index-clause-fault : goal.returns-else-next-index-clause-fault
returns-else-next-index-clause-fault g c = λ context held.
    let e = c.next-next.ensures.next ∙ held.taken.highest in
    rw (← later_index context.rollover c.args.seq c.next-next.result _ context.taken e c.if-next-eq0.false c.guess_index-index.ensures.index)
    (between c.next-next.result _ context.taken e c.if-next-eq0.false c.if-index-next.false c.if-next-index.false)
