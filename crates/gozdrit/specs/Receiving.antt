-- What the calls of a receiver answer to C, by the endpoint that its handle held before and after, if it held one.
use Rattle.std.specs.Prelude.{◌≡◌, ◌≢◌, ◌⊎◌, ◌+◌, ◌==◌, ℕ, zero, suc, ◌<◌, ◌≤◌, not, true, false, ℤ, pos, List, length, Option, Some, None, IsSome, IsSomeAnd, Result, Ok, Err}
use Rattle.rtpwire.specs.declared.fault.ConfigFault.{ConfigFault}
use Rattle.rtpwire.specs.declared.fault.TooShort.{TooShort}
use Rattle.rtpwire.specs.Fault.{config_number}
use Rattle.receiver.specs.declared.fault.ReceiveFault.{ReceiveFault}
use Rattle.receiver.specs.Receiver.{state_of, begun, restarted, with_times}
use Rattle.endpoint.specs.declared.heard.Heard.{Heard}
use Rattle.endpoint.specs.Asked.{none_asked}
use Rattle.endpoint.specs.Kinds.{no_kinds}
use Rattle.endpoint.specs.Measuring.{meter_restarted, new_meter}
use Rattle.endpoint.specs.Receiving.{fresh, no_run}
use Rattle.endpoint.specs.ReceiveCounts.{no_counts}
use Rattle.endpoint.specs.Seen.{none_seen}
use Rattle.gozdrit.specs.declared.config.ReceiverFields.{ReceiverFields}
use Rattle.gozdrit.specs.declared.heard.ReceivedFields.{ReceivedFields}
use Rattle.gozdrit.specs.declared.answers.PlayedPacket.{PlayedPacket}
use Rattle.timing.specs.FeedbackBudget.{nothing_earned}
use Rattle.timing.specs.declared.feedback_budget.FeedbackBudget.{FeedbackBudget}
use Rattle.timing.specs.NackRoom.{budget_anew}
use Rattle.gozdrit.specs.Ends.{Receiver}
use Rattle.gozdrit.specs.Following.{AsksNext, HearsAs, PassesAs, core_of, next_play, with_ends}
use Rattle.gozdrit.specs.Codes.{ok, no_end, is_held, out_of_memory, no_room, has_started, bad_limit, bad_size}
use Rattle.gozdrit.specs.declared.sizes.TheConstants.{PLAYED, RECEIVED, RECEIVER_CONFIG}
use Rattle.gozdrit.specs.Sizes.{SaysKnown}
use Rattle.gozdrit.specs.Heard.{received_fields}
use Rattle.gozdrit.specs.Told.{HasRoom, TellsPlayed}
use Rattle.gozdrit.specs.Config.{IsFollowing, IsSession, HasReceiverLimits, Fails, following_of, receiver_config, probation_of}

-- an endpoint that took nothing
abbrev pub new_receiver : ReceiverFields → Receiver
new_receiver f =
    record {
      endpoint = record {
        endpoint = record {
          core = fresh (receiver_config f) f.window;
          spare = fresh (receiver_config f) f.window;
          probation = probation_of f;
          run = no_run;
          counts = no_counts;
          seen = none_seen 8192;
        };
        asked = none_asked f.window;
        kinds = no_kinds;
        doubted = false;
      };
      meter = new_meter;
      follows = not (following_of f == 0);
      by_sent = following_of f == 2;
      copies = 0;
      again = None;
      budget = None;
    }

-- A configuration is refused for the first check that it fails; else there is an endpoint that took nothing, or no
-- memory for it.
abbrev pub CreatesReceiver : ReceiverFields → (code : ℤ) → Option Receiver → Type 0
CreatesReceiver f code after =
    ((fault : ConfigFault) × Fails f.session (HasReceiverLimits f) fault × (code ≡ pos (config_number fault)) × (after ≡ None))
    ⊎ (IsSession f.session × HasReceiverLimits f
    × (((code ≡ out_of_memory) × (after ≡ None))
    ⊎ ((code ≡ ok) × (after ≡ Some (new_receiver f)))))

-- an ask is told: how many octets the NACK has, 0 where there is none, and nothing where there is no room for it
abbrev pub TellsAsk : Result (Option ℕ) TooShort → (count : ℕ) → (code : ℤ) → (count' : ℕ) → Type 0
TellsAsk (Ok (Some len)) count code count' = (code ≡ ok) × (count' ≡ len)
TellsAsk (Ok None) count code count' = (code ≡ ok) × (count' ≡ 0)
TellsAsk (Err short) count code count' = (code ≡ no_room) × (count' ≡ count)

-- `gozdrit_receiver_new`
pub record AnswersReceiverNew (f : ReceiverFields) (rest : List ℕ) (old : Option Receiver) (code : ℤ) (new : Option Receiver) : Type 0 where
  pub held : IsSome old → (code ≡ is_held) × (new ≡ old)
  pub unknown : old ≡ None → (SaysKnown RECEIVER_CONFIG f.size rest → ⊥) → (code ≡ bad_size) × (new ≡ old)
  pub made : old ≡ None → SaysKnown RECEIVER_CONFIG f.size rest → CreatesReceiver f code new

-- `gozdrit_receive`
pub record AnswersReceive (old : Option Receiver) (octets : List ℕ) (now : ℕ) (heard : ReceivedFields) (code : ℤ) (new : Option Receiver) (heard' : ReceivedFields) : Type 0 where
  pub none : old ≡ None → (code ≡ no_end) × (new ≡ old) × (heard' ≡ heard)
  pub short : IsSome old → heard.size < RECEIVED → (code ≡ bad_size) × (new ≡ old) × (heard' ≡ heard)
  pub hears : (before : Receiver) → old ≡ Some before → RECEIVED ≤ heard.size
      → (code ≡ ok) × (answer : Result Heard ReceiveFault) × IsSomeAnd new (HearsAs before octets now answer) × (heard' ≡ received_fields heard.size answer)

-- `gozdrit_play`
pub record AnswersPlay (old : Option Receiver) (now : ℕ) (played : PlayedPacket) (payload : List ℕ) (code : ℤ) (new : Option Receiver) (played' : PlayedPacket) (payload' : List ℕ) : Type 0 where
  pub none : old ≡ None → code ≡ no_end
  pub small : IsSome old → played.size < PLAYED → code ≡ bad_size
  pub short : (before : Receiver) → old ≡ Some before → PLAYED ≤ played.size → (HasRoom (next_play before now) payload → ⊥) → code ≡ no_room
  pub plays : (before : Receiver) → old ≡ Some before → PLAYED ≤ played.size → HasRoom (next_play before now) payload
      → (code ≡ ok) × IsSomeAnd new (PassesAs before now) × TellsPlayed (next_play before now) played payload played' payload'
  pub refused : code ≢ ok → (new ≡ old) × (played' ≡ played) × (payload' ≡ payload)

-- `gozdrit_nack`
pub record AnswersNack (old : Option Receiver) (now most : ℕ) (count : ℕ) (out : List ℕ) (code : ℤ) (new : Option Receiver) (count' : ℕ) (out' : List ℕ) : Type 0 where
  pub none : old ≡ None → code ≡ no_end
  pub asks : (before : Receiver) → old ≡ Some before
      → (answer : Result (Option ℕ) TooShort) × IsSomeAnd new (AsksNext before.again before now most out answer out') × TellsAsk answer count code count'
  pub refused : code ≢ ok → (new ≡ old) × (count' ≡ count) × (out' ≡ out)

-- `gozdrit_begin`
pub record AnswersBegin (old : Option Receiver) (first : ℕ) (code : ℤ) (new : Option Receiver) : Type 0 where
  pub none : old ≡ None → code ≡ no_end
  pub begins : (before : Receiver) → old ≡ Some before → state_of (core_of before) ≡ None
      → (code ≡ ok) × (new ≡ Some (with_ends before (begun (core_of before) (65536 + first)) before.endpoint.endpoint.spare))
  pub started : (before : Receiver) → old ≡ Some before → state_of (core_of before) ≢ None → code ≡ has_started
  pub refused : code ≢ ok → new ≡ old

-- a receiver that took nothing, with what it measured of the path
abbrev pub receiver_restarted : Receiver → Receiver
receiver_restarted r =
    record r {
      endpoint = record r.endpoint { endpoint = record r.endpoint.endpoint { core = restarted (core_of r); run = no_run }; asked = none_asked (length r.endpoint.asked); doubted = false };
      meter = meter_restarted r.meter;
      again = None;
      budget = budget_anew r.budget;
    }

-- `gozdrit_reset`
pub record AnswersRestart (old : Option Receiver) (code : ℤ) (new : Option Receiver) : Type 0 where
  pub none : old ≡ None → (code ≡ no_end) × (new ≡ old)
  pub restarts : (before : Receiver) → old ≡ Some before
      → (code ≡ ok) × (new ≡ Some (receiver_restarted before))

-- a receiver with other times, which follow what it measured anew
abbrev pub receiver_timed : Receiver → (patience delay retry : ℕ) → Receiver
receiver_timed r patience delay retry =
    record (with_ends r (with_times (core_of r) patience delay retry) (with_times r.endpoint.endpoint.spare patience delay retry)) { meter = record r.meter { is_new = true } }

-- `gozdrit_set_times`
pub record AnswersTimes (old : Option Receiver) (patience delay retry : ℕ) (code : ℤ) (new : Option Receiver) : Type 0 where
  pub none : old ≡ None → code ≡ no_end
  pub zero : IsSome old → retry ≡ 0 → code ≡ bad_limit
  pub sets : (before : Receiver) → old ≡ Some before → 0 < retry
      → (code ≡ ok) × (new ≡ Some (receiver_timed before patience delay retry))
  pub refused : code ≢ ok → new ≡ old

-- `gozdrit_set_adaptive`
pub record AnswersFollow (old : Option Receiver) (follows : ℕ) (code : ℤ) (new : Option Receiver) : Type 0 where
  pub none : old ≡ None → code ≡ no_end
  pub unknown : IsSome old → (IsFollowing follows → ⊥) → code ≡ bad_limit
  pub tells : (before : Receiver) → old ≡ Some before → IsFollowing follows
      → (code ≡ ok) × (new ≡ Some (record before { follows = not (follows == 0); by_sent = follows == 2; meter = record before.meter { is_new = true } }))
  pub refused : code ≢ ok → new ≡ old

-- how often a NACK leaves: once, twice, or as is best (0)
abbrev pub IsCopies : (copies : ℕ) → Type 0
IsCopies copies = copies ≤ 2

-- `gozdrit_set_nack_copies`
pub record AnswersCopies (old : Option Receiver) (copies : ℕ) (code : ℤ) (new : Option Receiver) : Type 0 where
  pub none : old ≡ None → code ≡ no_end
  pub unknown : IsSome old → (IsCopies copies → ⊥) → code ≡ bad_limit
  pub tells : (before : Receiver) → old ≡ Some before → IsCopies copies
      → (code ≡ ok) × (new ≡ Some (record before { copies = copies }))
  pub refused : code ≢ ok → new ≡ old

-- what leaves is earned by what comes from now on, of which nothing came so far, or has not to be
abbrev pub budget_of : (earned : ℕ) → Option FeedbackBudget
budget_of zero = None
budget_of (suc earned) = Some nothing_earned

-- `gozdrit_set_nack_budget`
pub record AnswersBudget (old : Option Receiver) (earned : ℕ) (code : ℤ) (new : Option Receiver) : Type 0 where
  pub none : old ≡ None → code ≡ no_end
  pub unknown : IsSome old → 1 < earned → code ≡ bad_limit
  pub tells : (before : Receiver) → old ≡ Some before → earned ≤ 1
      → (code ≡ ok) × (new ≡ Some (record before { budget = budget_of earned; again = None }))
  pub refused : code ≢ ok → new ≡ old
