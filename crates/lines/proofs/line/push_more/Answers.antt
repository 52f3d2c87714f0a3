use Rattle.lines.proofs.LineLemmas.{no_word, words_around}
use Rattle.lines.proofs.SinkLemmas.{fails_first, stopped_in_first, stopped_in_next}
use Rattle.lines.proofs.line.push_more.Goals as goal

pub returns-in_err-push : goal.returns-in_err-push
returns-in_err-push g c =
    fails_first _ _ _ _ _ _ c.from_residual.ensures.0 (words_around c.args.words.now c.loop-word.word-index no_word c.loop-word-test.true)
    (stopped_in_next _ _ _ _ _ c.loop-word.invariant (stopped_in_first _ _ _ _ c.in_err-push.ensures))

pub returns-in_err-push_word : goal.returns-in_err-push_word
returns-in_err-push_word g c =
    fails_first _ _ _ _ _ _ c.from_residual-in_err-push_word.ensures.0 (words_around c.args.words.now c.loop-word.word-index _ c.loop-word-test.true)
    (stopped_in_next _ _ _ _ _ c.loop-word.invariant (stopped_in_next _ _ _ _ _ c.in_ok-push.ensures c.in_err-push_word.ensures))
