use Rattle.std.proofs.Common.{rules, arith, ◌∙◌}
use Rattle.std.proofs.lemmas.Grind.{common_steps}
use Rattle.stores.proofs.DueSlots.{due_left_whole, due_left_yes, due_left_no, due_left_end, found_full, found_all}
use Rattle.stores.proofs.list_window.due_from.Goals as goal
use Rattle.stores.proofs.list_window.due_from.Goals.{then-is_due, else-is_due}
use Rattle.stores.specs.Asking.{longest_ask}

pub returns-then-is_full : goal.returns-then-is_full
returns-then-is_full c = found_full longest_ask _ _ _ (c.loop-index.invariant.left ∙ due_left_whole _ _ _ _ _ _) (search rules)

pub loop-index-preserved : goal.loop-index-preserved
loop-index-preserved c = elim c.if-is_due.branch [
  | then-is_due w ↦ grind (arith, common_steps, due_left_yes)
  | else-is_due w ↦ grind (arith, common_steps, due_left_no)
]

pub returns : goal.returns
returns c = found_all longest_ask _ _ _ (c.loop-index.invariant.left ∙ due_left_whole _ _ _ _ _ _) (due_left_end _ _ _ _ _ _ _ (search rules)) c.loop-index.invariant.fits
