use Rattle.lines.proofs.NackLemmas.{nack_parts}
use Rattle.lines.proofs.SinkLemmas.{ends_with, fails_first}
use Rattle.lines.proofs.nack_text.push_nack.Goals as goal

pub returns-in_err-push_words : goal.returns-in_err-push_words
returns-in_err-push_words g c =
    let stopped = rw (c.to_be_bytes-reporter.ensures, c.to_be_bytes-media.ensures, c.reporter.ensures, c.media.ensures) at c.in_err-push_words.ensures in
    fails_first _ _ _ _ _ _ c.from_residual.ensures.0 (nack_parts c.args.nack.now) stopped

pub returns : goal.returns
returns g c =
    let pushed = rw (c.to_be_bytes-reporter.ensures, c.to_be_bytes-media.ensures, c.reporter.ensures, c.media.ensures) at c.in_ok-push_words.ensures in
    ends_with _ _ _ _ _ _ _ (nack_parts c.args.nack.now) pushed (rw c.pairs.ensures at c.push_pairs.ensures)
