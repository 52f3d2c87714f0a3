-- `gozdrit_receiver_probe_counts` hands a receiver and a value to `probe_counts_lent`.
use Rattle.gozdrit.proofs.TwoValues.{hands_two}
use Rattle.gozdrit.specs.Lent.{ProbeCountsFor}
use Rattle.gozdrit.specs.Ends.{ReceiverRow}
use Rattle.gozdrit.specs.contracts.counts.ProbeCounts.{the_row as receiver_kinds_row}
use Rattle.gozdrit.proofs.reading_exports.gozdrit_receiver_probe_counts.Statement.{statement}
use Rattle.gozdrit.proofs.reading_exports.gozdrit_receiver_probe_counts.Symbol.{name}
use Rattle.gozdrit.proofs.reading_exports.gozdrit_receiver_probe_counts.Code as code
use Rattle.gozdrit.proofs.reading_exports.probe_counts_lent.Symbol as callee
use Rattle.gozdrit.proofs.reading_exports.probe_counts_lent.Met.{met}

pub gozdrit_receiver_probe_counts_spec : {M : Type 1} → statement M
gozdrit_receiver_probe_counts_spec 𝓤 𝓛 𝓜 𝓡 wired =
    hands_two 𝓤 𝓛 𝓜 𝓡 ReceiverRow receiver_kinds_row ProbeCountsFor _ _ _ name callee.name (code.unfolded 𝓤 𝓛.H 𝓜 𝓡 wired)
    (met 𝓤 𝓛 𝓜 𝓡 (code.calls-gozdrit::reading_exports::probe_counts_lent 𝓡.env wired))
