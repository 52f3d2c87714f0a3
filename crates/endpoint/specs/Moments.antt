-- When the latest packets were sent and last retransmitted: a ring with a cell for each place modulo the number of cells.
use Rattle.std.specs.Prelude.{ℕ, ◌%◌, List, length, get_or, slice_set, Option, Some, None, Result, Ok, Err}
use Rattle.rtpwire.specs.declared.fault.TooShort.{TooShort}
use Rattle.sender.specs.declared.fault.SendFault.{SendFault}
use Rattle.endpoint.specs.declared.resend_rule.Times.{Times}

-- a packet was sent at this moment, and not retransmitted so far
abbrev pub just_sent : (now : ℕ) → Times
just_sent now = record { sent = now; resent = None }

-- and it was retransmitted at this one
abbrev pub sent_again : (now : ℕ) → Times → Times
sent_again now times = record times { resent = Some now }

-- the moments in the cell of the place q
abbrev pub times_at : List Times → (q : ℕ) → Times
times_at cells q = get_or cells (q % length cells) (just_sent 0)

-- the ring after the moments of a place were told
abbrev pub told : List Times → (place : ℕ) → Times → List Times
told cells place times = slice_set cells (place % length cells) times

-- the ring after a send at the moment `now`
abbrev pub told_sent : Result (Result (ℕ × ℕ) SendFault) TooShort → (now : ℕ) → List Times → List Times
told_sent (Ok (Ok packet)) now cells = told cells packet.0 (just_sent now)
told_sent (Ok (Err fault)) now cells = cells
told_sent (Err short) now cells = cells

-- and after a call for a retransmission
abbrev pub told_resent : Result (Option (ℕ × ℕ)) TooShort → (now : ℕ) → List Times → List Times
told_resent (Ok (Some packet)) now cells = told cells packet.0 (sent_again now (times_at cells packet.0))
told_resent (Ok None) now cells = cells
told_resent (Err short) now cells = cells
