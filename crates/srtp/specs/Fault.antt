-- The refusal numbers of this crate, and refusals one after another.
use Rattle.std.specs.Prelude.{ℕ, Option, Some, None, Bool, if◌then◌else◌}
use Rattle.srtp.specs.declared.fault.SrtpFault.{SrtpFault}
use Rattle.srtp.specs.declared.fault.SrtpFault.TheVariants.{Short, Version, Header, WrongSource, KeyEnd, WrongFlag, TooOld, TakenBefore, WrongTag}
use Rattle.srtp.specs.declared.replay.ReplayFault.{ReplayFault}
use Rattle.srtp.specs.declared.replay.ReplayFault.TheVariants as replay

abbrev pub srtp_fault_number : SrtpFault → ℕ
srtp_fault_number Short = 91
srtp_fault_number Version = 92
srtp_fault_number Header = 93
srtp_fault_number WrongSource = 94
srtp_fault_number KeyEnd = 95
srtp_fault_number WrongFlag = 96
srtp_fault_number TooOld = 97
srtp_fault_number TakenBefore = 98
srtp_fault_number WrongTag = 99

-- the refusal of a replay list as one of a packet
abbrev pub of_replay : ReplayFault → SrtpFault
of_replay replay.TooOld = TooOld
of_replay replay.TakenBefore = TakenBefore

-- the first refusal, or else the second
abbrev pub or_else : Option SrtpFault → Option SrtpFault → Option SrtpFault
or_else None second = second
or_else (Some fault) second = Some fault

-- the refusal where the test holds
abbrev pub fault_if : Bool → SrtpFault → Option SrtpFault
fault_if test fault = if test then Some fault else None
