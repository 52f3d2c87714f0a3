use Rattle.std.proofs.Common.{◌≡◌, ◌∙◌, ap, length, take, Some, slice_get, rules, arith, length-append}
use Rattle.std.proofs.lemmas.Grind.{common_steps}
use Rattle.std.proofs.lemmas.Option.{gets}
use Rattle.stores.specs.declared.cell.Cell.{Cell}
use Rattle.stores.specs.Pool.{freed, numbers_of}
use Rattle.stores.proofs.Pooled.{freed_next, freed_none, numbers_left}
use Rattle.stores.proofs.slots.free_many.Goals as goal

pub freed-init : goal.freed-init
freed-init c = record { free = freed_none c.args.cells.now.items c.args.free.now.items; capacity = search rules }

pub unwrap-requires : goal.unwrap-requires
unwrap-requires c = grind (arith, common_steps, gets)

pub free_cell-requires : goal.free_cell-requires
free_cell-requires c = λ n taken.
    let cells = c.args.cells.now.items in
    let got : slice_get cells c.freed.index ≡ Some c.unwrap.result.now = search rules in
    let left = numbers_left cells c.freed.index c.args.count n c.freed-test.true (got ∙ ap (λ (x : Cell). Some x) taken) in
    let free = ap length c.freed.invariant.free in
    let apart = length-append c.args.free.now.items (numbers_of (take c.freed.index cells)) in
    let room = c.requires.room in
    let same = c.freed.invariant.capacity in
    omega arith

pub freed-preserved : goal.freed-preserved
freed-preserved c =
    let cells = c.args.cells.now.items in
    let got : slice_get cells c.freed.index ≡ Some c.unwrap.result.now = search rules in
    record {
      free = c.free_cell.ensures.free ∙ ap (λ ns. freed ns (Some c.unwrap.result.now)) c.freed.invariant.free ∙ freed_next cells c.args.free.now.items c.freed.index c.unwrap.result.now got;
      capacity = c.free_cell.ensures.capacity ∙ c.freed.invariant.capacity;
    }
