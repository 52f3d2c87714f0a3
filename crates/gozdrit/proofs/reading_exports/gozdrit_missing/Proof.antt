-- `gozdrit_missing` hands a receiver and a value to `missing_lent`.
use Rattle.gozdrit.proofs.TwoValues.{hands_two}
use Rattle.gozdrit.specs.Lent.{MissingFor}
use Rattle.gozdrit.specs.Ends.{ReceiverRow}
use denote.Builtin.{usize}
use Rattle.gozdrit.proofs.reading_exports.gozdrit_missing.Statement.{statement}
use Rattle.gozdrit.proofs.reading_exports.gozdrit_missing.Symbol.{name}
use Rattle.gozdrit.proofs.reading_exports.gozdrit_missing.Code as code
use Rattle.gozdrit.proofs.reading_exports.missing_lent.Symbol as callee
use Rattle.gozdrit.proofs.reading_exports.missing_lent.Met.{met}

pub gozdrit_missing_spec : {M : Type 1} → statement M
gozdrit_missing_spec 𝓤 𝓛 𝓜 𝓡 wired =
    hands_two 𝓤 𝓛 𝓜 𝓡 ReceiverRow usize MissingFor _ _ _ name callee.name (code.unfolded 𝓤 𝓛.H 𝓜 𝓡 wired)
    (met 𝓤 𝓛 𝓜 𝓡 (code.calls-gozdrit::reading_exports::missing_lent 𝓡.env wired))
