use Rattle.std.proofs.Common.{◌≡◌, true, rules}
use Rattle.lines.specs.Decimal.{is_decimal}
use Rattle.lines.proofs.DecimalLemmas.{decimal_too_large, utf8_of_decimal}
use Rattle.lines.proofs.decimal.parse_decimal.Goals as goal

pub returns-in_default-2-clause-value : goal.returns-in_default-2-clause-value
returns-in_default-2-clause-value c =
    let decimal : is_decimal c.args.word.now ≡ true = search rules in
    let same = c.in-Ok.ensures.cases.0 in
    decimal_too_large c.args.word.now c.args.most c.in_default.field-0 (search rules) decimal (rw same at c.in_default.ensures.value.0)

pub returns-in-Err-clause-value : goal.returns-in-Err-clause-value
returns-in-Err-clause-value c =
    let decimal : is_decimal c.args.word.now ≡ true = search rules in
    absurd (c.in-Err.ensures.cases.0 (utf8_of_decimal c.args.word.now decimal))
