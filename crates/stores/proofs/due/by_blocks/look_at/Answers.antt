use Rattle.std.proofs.Common.{◌+◌, ◌++◌, take, ap, sym, ◌∙◌, arith}
use Rattle.std.proofs.lemmas.Grind.{common_steps}
use Rattle.stores.proofs.EntryIndex.{new_is}
use Rattle.stores.proofs.DueSlots.{due_left_take, due_left_leave}
use Rattle.stores.proofs.due.by_blocks.look_at.Goals as goal

pub returns-then-is_due-clause-all : goal.returns-then-is_due-clause-all
returns-then-is_due-clause-all c =
    let wanted = c.args.wanted in
    let rule = wanted.rule in
    let fits = c.requires.fits in
    let made = new_is c.new.result _ (c.args.first + c.args.only) c.new.ensures (let only = c.requires.only in let places = c.requires.places in omega arith) in
    let due = sym (c.is_due.ensures wanted.now rule wanted.due) ∙ c.if-is_due.true in
    let is = due_left_take wanted.now rule.delay rule.retry rule.asks c.args.first c.args.slots.now.items c.args.only c.requires.only due in
    grind (arith, common_steps, is)

pub returns-clause-all : goal.returns-clause-all
returns-clause-all c =
    let wanted = c.args.wanted in
    let rule = wanted.rule in
    let off = sym (c.is_due.ensures wanted.now rule wanted.due) ∙ c.if-is_due.false in
    ap (λ xs. take c.args.count c.args.due.now ++ xs) (sym (due_left_leave wanted.now rule.delay rule.retry rule.asks c.args.first c.args.slots.now.items c.args.only c.requires.only off))
