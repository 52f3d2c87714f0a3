use Rattle.std.proofs.Common.{◌++◌, drop, replicate, refl, arith}
use Rattle.std.proofs.lemmas.List.{length-drop}
use Rattle.stores.specs.declared.slot.Slot.TheVariants.{Held}
use Rattle.stores.specs.Put.{noticed_at}
use Rattle.stores.proofs.Soonest.{soonest_push}
use Rattle.stores.proofs.due.keeping.with_jump.Goals as goal

pub returns : goal.returns
returns c = λ slots content long told answer e.
    let left = drop c.args.overrun slots in
    let short = length-drop c.args.overrun slots in
    let fewer = c.saturating_sub-left.ensures in
    let is = c.with_missing.ensures left (omega (arith, long, fewer)) (c.without_front.ensures slots told) answer e in
    soonest_push answer.rule answer.soonest (left ++ replicate c.args.unseen (noticed_at c.args.now)) (Held content) refl is
