use Rattle.std.proofs.Common.{[], ◌∷◌, length-append, arith}
use Rattle.world.proofs.Runs.{last_is}
use Rattle.world.proofs.last_entry.LastEntryLog.add.Goals as goal

pub invariant_of-self : goal.invariant_of-self
invariant_of-self c =
    let w = c.self.inside in
    let was = c.self.invariant in
    let is = c.with-self-inside.ensures in
    let long = length-append w.trace.items (c.args.entry ∷ []) in (
      last_is w.trace.items c.with-self-inside.result.items c.args.entry is,
      rw is (omega (arith, long, was.1)),
      rw is (c.with-self-inside-2.ensures w.trace.items was.2),
    )
