use Rattle.std.proofs.Common.{sym, ◌∙◌, arith, length, length-set}
use Rattle.std.proofs.lemmas.Option.{slice_get_read}
use Rattle.stores.proofs.Bounds.{bound_after_notice, bound_noticed, bound_adds, noticed_due_from}
use Rattle.stores.proofs.due.blocks.note_missing.Goals as goal

pub loop-position-preserved : goal.loop-position-preserved
loop-position-preserved c =
    let bounds = c.loop-position.bounds.items in
    let words = c.args.missing.now.words.items in
    let front = c.args.missing.now.front in
    let word = c.word_of-word.result in
    let was = slice_get_read bounds (length words) word c.index.result.now (sym c.loop-position.invariant.blocks) c.word_of-word.ensures.within c.index.ensures in
    let blocks = c.loop-position.invariant.blocks in
    let above = c.loop-position.invariant.above in
    let further = c.run_end-position.ensures.above in
    record {
      blocks = length-set bounds word c.noticed.result ∙ blocks;
      old = bound_after_notice c.args.rule bounds (length words) front word c.args.slots.now.items c.index.result.now c.noticed.result blocks c.word_of-word.ensures.within was (c.noticed.ensures.kept c.args.rule) c.loop-position.invariant.old;
      more = bound_noticed bounds (length words) front word (length c.args.slots.now.items) c.loop-position.position c.run_end-position.result c.time_from-moment.result c.noticed.result
          blocks c.word_of-word.ensures.within c.word_of-word.ensures.word c.run_end-position.ensures.run c.noticed.ensures.from c.loop-position.invariant.more;
      above = omega arith;
    }

pub returns-clause-bound : goal.returns-clause-bound
returns-clause-bound c =
    let end = c.len.ensures.len in
    bound_adds c.args.rule c.loop-position.bounds.items c.args.missing.now.front c.args.count c.args.now c.time_from-moment.result c.args.slots.now.items
    (noticed_due_from c.args.rule c.args.now c.time_from-moment.result c.time_from-moment.ensures) c.loop-position.invariant.old
    (λ p bound above below got. c.loop-position.invariant.more p bound above (omega arith) got)
