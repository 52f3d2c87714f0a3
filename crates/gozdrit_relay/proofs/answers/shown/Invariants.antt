use Rattle.std.proofs.Common.{◌≡◌, ◌++◌, drop}
use Rattle.gozdrit_relay.specs.Answers.{shown, shown_line}
use Rattle.gozdrit_relay.proofs.answers.shown.Given as goal

-- what is left of the front is shown behind what was
abbrev pub invariant-loop-octet : goal.invariant-loop-octet
invariant-loop-octet l = l.text.items ++ shown_line (drop l.octet-index l.front) ≡ shown l.octets
