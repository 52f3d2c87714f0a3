-- `gozdrit_next_timeout` hands a receiver and a value to `next_moment_lent`.
use Rattle.gozdrit.proofs.TwoValues.{hands_two}
use Rattle.gozdrit.specs.Lent.{TimeoutFor}
use Rattle.gozdrit.specs.Ends.{ReceiverRow}
use Rattle.gozdrit.specs.contracts.answers.KnownTimeout.{the_row as moment_row}
use Rattle.gozdrit.proofs.reading_exports.gozdrit_next_timeout.Statement.{statement}
use Rattle.gozdrit.proofs.reading_exports.gozdrit_next_timeout.Symbol.{name}
use Rattle.gozdrit.proofs.reading_exports.gozdrit_next_timeout.Code as code
use Rattle.gozdrit.proofs.reading_exports.next_moment_lent.Symbol as callee
use Rattle.gozdrit.proofs.reading_exports.next_moment_lent.Met.{met}

pub gozdrit_next_timeout_spec : {M : Type 1} → statement M
gozdrit_next_timeout_spec 𝓤 𝓛 𝓜 𝓡 wired =
    hands_two 𝓤 𝓛 𝓜 𝓡 ReceiverRow moment_row TimeoutFor _ _ _ name callee.name (code.unfolded 𝓤 𝓛.H 𝓜 𝓡 wired)
    (met 𝓤 𝓛 𝓜 𝓡 (code.calls-gozdrit::reading_exports::next_moment_lent 𝓡.env wired))
