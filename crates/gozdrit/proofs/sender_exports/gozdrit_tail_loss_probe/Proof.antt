-- `gozdrit_tail_loss_probe` hands a sender and a value to `mark_last_lent`.
use Rattle.gozdrit.proofs.TwoValues.{hands_two}
use Rattle.gozdrit.specs.Lent.{MarkLastFor}
use Rattle.gozdrit.specs.Ends.{SenderRow}
use denote.Builtin.{u32}
use Rattle.gozdrit.proofs.sender_exports.gozdrit_tail_loss_probe.Statement.{statement}
use Rattle.gozdrit.proofs.sender_exports.gozdrit_tail_loss_probe.Symbol.{name}
use Rattle.gozdrit.proofs.sender_exports.gozdrit_tail_loss_probe.Code as code
use Rattle.gozdrit.proofs.sender_exports.mark_last_lent.Symbol as callee
use Rattle.gozdrit.proofs.sender_exports.mark_last_lent.Met.{met}

pub gozdrit_tail_loss_probe_spec : {M : Type 1} → statement M
gozdrit_tail_loss_probe_spec 𝓤 𝓛 𝓜 𝓡 wired =
    hands_two 𝓤 𝓛 𝓜 𝓡 SenderRow u32 MarkLastFor _ _ _ name callee.name (code.unfolded 𝓤 𝓛.H 𝓜 𝓡 wired)
    (met 𝓤 𝓛 𝓜 𝓡 (code.calls-gozdrit::sender_exports::mark_last_lent 𝓡.env wired))
