use Rattle.std.proofs.Common.{◌-◌, ◌+◌, ◌<◌, length, rules, sym, ◌∙◌, refl, arith}
use Rattle.std.proofs.lemmas.Grind.{common_steps}
use Rattle.stores.proofs.EntryIndex.{new_is}
use Rattle.stores.proofs.DueSlots.{due_left_whole, due_left_take, due_left_leave, due_left_skip, due_left_none, found_full, found_all}
use Rattle.stores.proofs.due.plain.due_among.Goals as goal
use Rattle.stores.proofs.due.plain.due_among.Goals.{then-is_due, else-is_due}
use Rattle.stores.specs.Asking.{longest_ask}

pub returns-then-is_full : goal.returns-then-is_full
returns-then-is_full c = found_full longest_ask _ _ _ (c.loop-found.invariant.left ∙ due_left_whole _ _ _ _ _ _) (search rules)

pub unwrap-requires : goal.unwrap-requires
unwrap-requires c =
    let found = c.in-Some.ensures in
    let below = found.1 in
    let len = c.len-until.ensures.len in
    let places = c.requires.places in
    let made = new_is c.new.result _ (c.args.first + c.in-Some.found) c.new.ensures (omega arith) in
    rw made refl

pub loop-found-preserved : goal.loop-found-preserved
loop-found-preserved c =
    let found = c.in-Some.ensures in
    let next = c.in-Some.found in
    let slots = c.args.slots.now.items in
    let room = c.requires.room in
    let len = c.len-until.ensures.len in
    let above = found.0 in
    let below = found.1 in
    let within : next < length slots = omega arith in
    let rule = c.args.rule in
    let skip = due_left_skip c.args.now rule.delay rule.retry rule.asks c.args.first slots c.loop-found.index (next - c.loop-found.index) next (omega arith) (omega arith)
    (λ p l u. sym (c.requires.index p (omega arith)) ∙ found.3 p l u) in
    let is = c.is_due.ensures c.args.now rule c.new-by.ensures in
    let yes = due_left_take c.args.now rule.delay rule.retry rule.asks c.args.first slots next within in
    let no = due_left_leave c.args.now rule.delay rule.retry rule.asks c.args.first slots next within in
    elim c.if-is_due.branch [
      | then-is_due w ↦ let step = yes (sym is ∙ w.if-is_due.true) in grind (arith, common_steps, skip, step)
      | else-is_due w ↦ let step = no (sym is ∙ w.if-is_due.false) in grind (arith, common_steps, skip, step)
    ]

pub returns : goal.returns
returns c =
    let none = c.in_default.ensures in
    let len = c.len-until.ensures.len in
    let room = c.requires.room in
    found_all longest_ask _ _ _ (c.loop-found.invariant.left ∙ due_left_whole _ _ _ _ _ _)
    (due_left_none _ _ _ _ _ c.args.slots.now.items c.loop-found.index (λ p l u. sym (c.requires.index p (omega arith)) ∙ none p l (omega arith))) c.loop-found.invariant.fits
