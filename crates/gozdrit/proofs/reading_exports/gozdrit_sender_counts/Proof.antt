-- `gozdrit_sender_counts` hands a sender and a value to `sender_counts_lent`.
use Rattle.gozdrit.proofs.TwoValues.{hands_two}
use Rattle.gozdrit.specs.Lent.{SenderCountsFor}
use Rattle.gozdrit.specs.Ends.{SenderRow}
use Rattle.gozdrit.specs.contracts.counts.SenderCounts.{the_row as sender_counts_row}
use Rattle.gozdrit.proofs.reading_exports.gozdrit_sender_counts.Statement.{statement}
use Rattle.gozdrit.proofs.reading_exports.gozdrit_sender_counts.Symbol.{name}
use Rattle.gozdrit.proofs.reading_exports.gozdrit_sender_counts.Code as code
use Rattle.gozdrit.proofs.reading_exports.sender_counts_lent.Symbol as callee
use Rattle.gozdrit.proofs.reading_exports.sender_counts_lent.Met.{met}

pub gozdrit_sender_counts_spec : {M : Type 1} → statement M
gozdrit_sender_counts_spec 𝓤 𝓛 𝓜 𝓡 wired =
    hands_two 𝓤 𝓛 𝓜 𝓡 SenderRow sender_counts_row SenderCountsFor _ _ _ name callee.name (code.unfolded 𝓤 𝓛.H 𝓜 𝓡 wired)
    (met 𝓤 𝓛 𝓜 𝓡 (code.calls-gozdrit::reading_exports::sender_counts_lent 𝓡.env wired))
