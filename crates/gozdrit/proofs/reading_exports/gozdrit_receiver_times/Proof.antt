-- `gozdrit_receiver_times` hands a receiver and a value to `receiver_times_lent`.
use Rattle.gozdrit.proofs.TwoValues.{hands_two}
use Rattle.gozdrit.specs.Lent.{ReceiverTimesFor}
use Rattle.gozdrit.specs.Ends.{ReceiverRow}
use Rattle.gozdrit.specs.contracts.answers.KnownTimes.{the_row as known_times_row}
use Rattle.gozdrit.proofs.reading_exports.gozdrit_receiver_times.Statement.{statement}
use Rattle.gozdrit.proofs.reading_exports.gozdrit_receiver_times.Symbol.{name}
use Rattle.gozdrit.proofs.reading_exports.gozdrit_receiver_times.Code as code
use Rattle.gozdrit.proofs.reading_exports.receiver_times_lent.Symbol as callee
use Rattle.gozdrit.proofs.reading_exports.receiver_times_lent.Met.{met}

pub gozdrit_receiver_times_spec : {M : Type 1} → statement M
gozdrit_receiver_times_spec 𝓤 𝓛 𝓜 𝓡 wired =
    hands_two 𝓤 𝓛 𝓜 𝓡 ReceiverRow known_times_row ReceiverTimesFor _ _ _ name callee.name (code.unfolded 𝓤 𝓛.H 𝓜 𝓡 wired)
    (met 𝓤 𝓛 𝓜 𝓡 (code.calls-gozdrit::reading_exports::receiver_times_lent 𝓡.env wired))
