use Rattle.std.proofs.Common.{◌≡◌, is_some}
use Rattle.commands.specs.DropList.{pieces_left, pieces_of, rising_from}
use Rattle.commands.proofs.DropLemmas.{size_left}
use Rattle.commands.proofs.drops.is_list.Given as goal

-- what was read is right, so all hangs on what is left
abbrev pub invariant-loop-left : goal.invariant-loop-left
invariant-loop-left l = is_some (rising_from 0 l.packets (pieces_of l.text)) ≡ is_some (rising_from l.least l.packets (pieces_left l.left))

abbrev pub decreases-loop-left : goal.decreases-loop-left
decreases-loop-left l = size_left l.left
