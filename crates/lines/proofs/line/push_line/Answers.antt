use Rattle.std.proofs.Common.{refl}
use Rattle.lines.proofs.SinkLemmas.{ends_with, fails_first}
use Rattle.lines.proofs.line.push_line.Goals as goal

pub returns-in_err-push_words : goal.returns-in_err-push_words
returns-in_err-push_words g c = fails_first _ _ _ _ _ _ c.from_residual.ensures.0 refl c.in_err-push_words.ensures

pub returns : goal.returns
returns g c = ends_with _ _ _ _ _ _ _ refl c.in_ok-push_words.ensures c.push.ensures
