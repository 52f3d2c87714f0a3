use Rattle.std.proofs.Common.{rules}
use Rattle.lines.specs.Words.{words_left}
use Rattle.lines.specs.ConfigLine.{config_bounds}
use Rattle.lines.proofs.NumberLemmas.{numbers_first-within}
use Rattle.lines.proofs.config_line.parse_config.Goals as goal

pub config_with-requires : goal.config_with-requires
config_with-requires c =
    numbers_first-within config_bounds (words_left c.cut.result.1) c.take_numbers.new.numbers _ (c.if-not-take_numbers.ensures.all (search rules))
