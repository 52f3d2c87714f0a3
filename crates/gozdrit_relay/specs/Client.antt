-- One client of a relay.
use Rattle.std.specs.Prelude.{ℕ, zero, suc}
use Rattle.gozdrit_relay.specs.declared.asking.Asked.{Asked}
use Rattle.gozdrit_relay.specs.declared.asking.Asked.TheVariants.{Stats, Stop, Reopen, NoLog, To, NoAddress, Peer, NoPeers, Unknown, Metrics, NoPage, NoMethod, Malformed, LongLine, LongHead}
use Rattle.gozdrit_relay.specs.declared.client.Stage.{Stage}
use Rattle.gozdrit_relay.specs.declared.client.Stage.TheVariants.{Hears, Lingers, Waits}

-- who was told all waits for the end of the run where he asked for that, and else for his own
abbrev pub when_told : Asked → Stage
when_told Stats = Lingers
when_told Stop = Waits
when_told Reopen = Lingers
when_told NoLog = Lingers
when_told To = Lingers
when_told NoAddress = Lingers
when_told Peer = Lingers
when_told NoPeers = Lingers
when_told Unknown = Lingers
when_told Metrics = Lingers
when_told NoPage = Lingers
when_told NoMethod = Lingers
when_told Malformed = Lingers
when_told LongLine = Lingers
when_told LongHead = Lingers

abbrev pub stage_after : Asked → (left : ℕ) → Stage
stage_after asked zero = when_told asked
stage_after asked (suc left) = Hears asked
