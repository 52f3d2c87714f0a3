use Rattle.std.proofs.Common.{take, ◌≤◌, length}
use Rattle.std.specs.Io.KnownBytes.{Appends}
use Rattle.commands.proofs.output.write_text.Given as goal

abbrev pub invariant-loop : goal.invariant-loop
invariant-loop g l = record {
  within : l.done ≤ length l.text;
  wrote : Appends (g.W.Write.contents l.fn.output) (g.W.Write.contents l.output) (take l.done l.text);
}
