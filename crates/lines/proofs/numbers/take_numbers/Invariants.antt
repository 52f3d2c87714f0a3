use Rattle.std.proofs.Common.{◌≡◌, take, drop, ◌++◌}
use Rattle.std.specs.Option.{option_map}
use Rattle.lines.specs.Words.{words_left}
use Rattle.lines.specs.Numbers.{numbers_first}
use Rattle.lines.proofs.numbers.take_numbers.Given as goal

-- all numbers are those so far, and those of the words that are left
abbrev pub invariant-loop-i : goal.invariant-loop-i
invariant-loop-i l =
    numbers_first l.bounds (words_left l.fn.left)
    ≡ option_map (λ more. (take l.i l.numbers ++ more.0, more.1)) (numbers_first (drop l.i l.bounds) (words_left l.left))
