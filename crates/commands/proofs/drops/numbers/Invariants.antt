use Rattle.std.proofs.Common.{◌≡◌, ◌++◌}
use Rattle.std.specs.Option.{option_map}
use Rattle.commands.specs.DropList.{pieces_left, pieces_of, rising_from}
use Rattle.commands.proofs.DropLemmas.{size_left}
use Rattle.commands.proofs.drops.numbers.Given as goal

-- all numbers are those so far, and those of what is left
abbrev pub invariant-loop-left : goal.invariant-loop-left
invariant-loop-left l =
    rising_from 0 l.packets (pieces_of l.text) ≡ option_map (λ more. l.list.items ++ more) (rising_from l.least l.packets (pieces_left l.left))

abbrev pub decreases-loop-left : goal.decreases-loop-left
decreases-loop-left l = size_left l.left
