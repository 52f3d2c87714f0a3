use Rattle.std.proofs.Common.{◌≡◌, length, take}
use Rattle.lines.proofs.show_text.sources_in.Given as goal

-- the sources so far
abbrev pub invariant-loop-index : goal.invariant-loop-index
invariant-loop-index l = (l.sources.items ≡ take l.index l.view.sources) × (length l.sources.items ≡ l.index)
