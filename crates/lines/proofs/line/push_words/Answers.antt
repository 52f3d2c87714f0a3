use Rattle.std.proofs.Common.{map, ap}
use Rattle.std.proofs.lemmas.List.{nil_from_length}
use Rattle.lines.specs.Line.{joined}
use Rattle.lines.specs.WordText.{word_text}
use Rattle.lines.proofs.SinkLemmas.{none_appended, ends_with, fails_first}
use Rattle.lines.proofs.line.push_words.Goals as goal

pub returns-in_err-push_word : goal.returns-in_err-push_word
returns-in_err-push_word g c =
    fails_first _ _ _ _ _ _ c.from_residual.ensures.0 (ap (λ words. joined (map word_text words)) c.in-Some.ensures.cases.0) c.in_err-push_word.ensures

pub returns : goal.returns
returns g c =
    ends_with _ _ _ _ _ _ _ (ap (λ words. joined (map word_text words)) c.in-Some.ensures.cases.0) c.in_ok-push_word.ensures c.push_more.ensures

pub returns-in_default : goal.returns-in_default
returns-in_default g c = rw (nil_from_length c.args.words.now c.in_default.ensures.cases) (none_appended _)
