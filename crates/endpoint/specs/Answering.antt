-- How long after the packet behind it was sent feedback names a packet for the first time: a round trip over the path, as it is now.
use Rattle.std.specs.Prelude.{◌≡◌, ℕ, ◌+◌, ◌-◌, ◌%◌, ◌==◌, ◌&&◌, Bool, true, false, not, List, [], ◌∷◌, Option, Some, None, Result, Ok, Err, if◌then◌else◌}
use Rattle.std.specs.Option.{option_map}
use Rattle.fbwire.specs.declared.fault.FeedbackFault.{FeedbackFault}
use Rattle.fbwire.specs.declared.nack.Pair.{Pair}
use Rattle.fbwire.specs.Nack.{Nack, numbers_of}
use Rattle.stores.specs.declared.entry.HistoryEntry.{HistoryEntry}
use Rattle.stores.specs.Past.{Past, entry_at, numbered}
use Rattle.sender.specs.Config.{Config}
use Rattle.sender.specs.Feedback.{ReadsFeedback, is_ours}
use Rattle.endpoint.specs.declared.resend_rule.Times.{Times}
use Rattle.endpoint.specs.Demultiplex.{is_control}
use Rattle.endpoint.specs.Moments.{times_at}

-- the last of some numbers
abbrev pub last_of : (before : Option ℕ) → List ℕ → Option ℕ
last_of before [] = before
last_of before (n ∷ others) = last_of (Some n) others

-- the last of some pairs
abbrev pub last_pair : (before : Option Pair) → List Pair → Option Pair
last_pair before [] = before
last_pair before (pair ∷ others) = last_pair (Some pair) others

-- the last one that such NACKs name of those that are of this session
abbrev pub last_in : Config → (before : Option ℕ) → Nack → Option ℕ
last_in c before nack = if is_ours c nack then last_of before (numbers_of nack.pairs) else before

abbrev pub last_named : Config → (before : Option ℕ) → List Nack → Option ℕ
last_named c before [] = before
last_named c before (nack ∷ others) = last_named c (last_in c before nack) others

-- The history has the packet, which was neither named nor retransmitted so far.
abbrev pub is_untouched : Option HistoryEntry → Bool
is_untouched None = false
is_untouched (Some entry) = not entry.marked && (entry.repeats == 0)

-- how long ago the packet with the next number was sent, if the history has that
abbrev pub since_behind : Past → List Times → (n now : ℕ) → Option ℕ
since_behind past cells n now = option_map (λ q. now - (times_at cells q).sent) (numbered past ((n + 1) % 65536))

abbrev pub since_with : (place : Option ℕ) → Past → List Times → (n now : ℕ) → Option ℕ
since_with None past cells n now = None
since_with (Some p) past cells n now = if is_untouched (entry_at past p) then since_behind past cells n now else None

-- what a number says that is named last
abbrev pub answer_by : (number : Option ℕ) → Past → List Times → (now : ℕ) → Option ℕ
answer_by None past cells now = None
answer_by (Some n) past cells now = since_with (numbered past n) past cells n now

abbrev pub AnswersSaid : Config → Past → List Times → (now : ℕ) → Result (List Nack) FeedbackFault → Option ℕ → Type 0
AnswersSaid c past cells now (Ok nacks) answer = answer ≡ answer_by (last_named c None nacks) past cells now
AnswersSaid c past cells now (Err fault) answer = answer ≡ None

-- What a datagram with RTCP says: of the numbers that its NACKs of this session name the last one counts, as a receiver names the newest loss
-- last.
pub record ReadsAnswer (c : Config) (past : Past) (cells : List Times) (octets : List ℕ) (now : ℕ) (answer : Option ℕ) : Type 0 where
  pub said : Result (List Nack) FeedbackFault
  pub says : ReadsFeedback octets said
  pub answered : AnswersSaid c past cells now said answer

abbrev pub TellsBy : (control : Bool) → Config → Past → List Times → (octets : List ℕ) → (now : ℕ) → Option ℕ → Type 0
TellsBy false c past cells octets now answer = answer ≡ None
TellsBy true c past cells octets now answer = ReadsAnswer c past cells octets now answer

-- What a datagram of the far side says: what is no RTCP says nothing.
abbrev pub TellsAnswer : Config → Past → List Times → (octets : List ℕ) → (now : ℕ) → Option ℕ → Type 0
TellsAnswer c past cells octets now answer = TellsBy (is_control octets) c past cells octets now answer
