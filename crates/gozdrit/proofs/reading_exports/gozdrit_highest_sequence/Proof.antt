-- `gozdrit_highest_sequence` hands a receiver and a value to `highest_sequence_lent`.
use Rattle.gozdrit.proofs.TwoValues.{hands_two}
use Rattle.gozdrit.specs.Lent.{HighestFor}
use Rattle.gozdrit.specs.Ends.{ReceiverRow}
use Rattle.gozdrit.specs.contracts.answers.KnownSequence.{the_row as sequence_row}
use Rattle.gozdrit.proofs.reading_exports.gozdrit_highest_sequence.Statement.{statement}
use Rattle.gozdrit.proofs.reading_exports.gozdrit_highest_sequence.Symbol.{name}
use Rattle.gozdrit.proofs.reading_exports.gozdrit_highest_sequence.Code as code
use Rattle.gozdrit.proofs.reading_exports.highest_sequence_lent.Symbol as callee
use Rattle.gozdrit.proofs.reading_exports.highest_sequence_lent.Met.{met}

pub gozdrit_highest_sequence_spec : {M : Type 1} → statement M
gozdrit_highest_sequence_spec 𝓤 𝓛 𝓜 𝓡 wired =
    hands_two 𝓤 𝓛 𝓜 𝓡 ReceiverRow sequence_row HighestFor _ _ _ name callee.name (code.unfolded 𝓤 𝓛.H 𝓜 𝓡 wired)
    (met 𝓤 𝓛 𝓜 𝓡 (code.calls-gozdrit::reading_exports::highest_sequence_lent 𝓡.env wired))
