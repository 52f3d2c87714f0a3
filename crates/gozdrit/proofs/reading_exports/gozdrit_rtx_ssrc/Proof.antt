-- `gozdrit_rtx_ssrc` hands a receiver and a value to `rtx_source_lent`.
use Rattle.gozdrit.proofs.TwoValues.{hands_two}
use Rattle.gozdrit.specs.Lent.{SsrcFor}
use Rattle.gozdrit.specs.Ends.{ReceiverRow}
use Rattle.gozdrit.specs.contracts.answers.KnownSsrc.{the_row as source_row}
use Rattle.gozdrit.proofs.reading_exports.gozdrit_rtx_ssrc.Statement.{statement}
use Rattle.gozdrit.proofs.reading_exports.gozdrit_rtx_ssrc.Symbol.{name}
use Rattle.gozdrit.proofs.reading_exports.gozdrit_rtx_ssrc.Code as code
use Rattle.gozdrit.proofs.reading_exports.rtx_source_lent.Symbol as callee
use Rattle.gozdrit.proofs.reading_exports.rtx_source_lent.Met.{met}

pub gozdrit_rtx_ssrc_spec : {M : Type 1} → statement M
gozdrit_rtx_ssrc_spec 𝓤 𝓛 𝓜 𝓡 wired =
    hands_two 𝓤 𝓛 𝓜 𝓡 ReceiverRow source_row SsrcFor _ _ _ name callee.name (code.unfolded 𝓤 𝓛.H 𝓜 𝓡 wired)
    (met 𝓤 𝓛 𝓜 𝓡 (code.calls-gozdrit::reading_exports::rtx_source_lent 𝓡.env wired))
