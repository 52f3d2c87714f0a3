-- What a datagram was to an end, as C is told it: its kind, and 0 for all that the kind has no use for.
use Rattle.std.specs.Prelude.{ℕ, Result, Ok, Err}
use Rattle.fbwire.specs.declared.fault.FeedbackFault.{FeedbackFault}
use Rattle.fbwire.specs.Fault.{feedback_number}
use Rattle.receiver.specs.declared.answer.Taken.{Taken}
use Rattle.receiver.specs.declared.fault.ReceiveFault.{ReceiveFault}
use Rattle.receiver.specs.Fault.{receive_number}
use Rattle.endpoint.specs.declared.heard.Heard.{Heard}
use Rattle.endpoint.specs.declared.heard.Heard.TheVariants as heard
use Rattle.endpoint.specs.declared.told.Told.{Told}
use Rattle.endpoint.specs.declared.told.Told.TheVariants as told
use Rattle.gozdrit.specs.declared.heard.ReceivedFields.{ReceivedFields}
use Rattle.gozdrit.specs.declared.heard.OutcomeFields.{OutcomeFields}

-- a datagram of which a receiver took no packet
abbrev pub no_packet : (size kind refusal held : ℕ) → ReceivedFields
no_packet size kind refusal held = record { size = size; sequence = 0; overrun = 0; abandoned = 0; held_back = held; kind = kind; refusal = refusal }

-- a packet that a receiver took
abbrev pub a_packet : (size kind : ℕ) → Taken → (held abandoned : ℕ) → ReceivedFields
a_packet size kind taken held abandoned =
    record { size = size; sequence = taken.place; overrun = taken.overrun; abandoned = abandoned; held_back = held; kind = kind; refusal = 0 }

-- in a struct of this size
abbrev pub received_fields : (size : ℕ) → Result Heard ReceiveFault → ReceivedFields
received_fields size (Ok (heard.Media taken)) = a_packet size 1 taken 0 0
received_fields size (Ok (heard.Repair taken)) = a_packet size 2 taken 0 0
received_fields size (Ok heard.Control) = no_packet size 3 0 0
received_fields size (Ok (heard.HeldBack held)) = no_packet size 4 0 held
received_fields size (Ok (heard.Restarted r)) = a_packet size 5 r.taken r.held r.abandoned
received_fields size (Err fault) = no_packet size 0 (receive_number fault) 0

-- a datagram that is no feedback for a sender
abbrev pub no_feedback : (size kind refusal : ℕ) → OutcomeFields
no_feedback size kind refusal =
    record { size = size; queued = 0; nacks = 0; other_nacks = 0; nacked = 0; not_in_history = 0; exhausted = 0; kind = kind; refusal = refusal }

abbrev pub outcome_fields : (size : ℕ) → Result Told FeedbackFault → OutcomeFields
outcome_fields size (Ok told.Media) = no_feedback size 1 0
outcome_fields size (Ok told.Reports) = no_feedback size 6 0
outcome_fields size (Ok (told.Feedback s)) =
    record { size = size; queued = s.places; nacks = s.nacks; other_nacks = s.others; nacked = s.numbers; not_in_history = s.unknown; exhausted = s.exhausted; kind = 7; refusal = 0 }
outcome_fields size (Err fault) = no_feedback size 0 (feedback_number fault)
