-- A sending endpoint that knows the time, over all its calls. Lists have the newest first, so "before" is the tail.
use Rattle.std.specs.Prelude.{◌≡◌, ◌⊎◌, ℕ, ◌-◌, ◌<◌, ◌==◌, Bool, List, [], ◌∷◌, length, Option, Some, None, IsSomeAnd, Result, Ok, if◌then◌else◌}
use Rattle.std.specs.Option.{option_map}
use Rattle.rtpwire.specs.declared.content.Content.{Content}
use Rattle.rtpwire.specs.declared.fault.TooShort.{TooShort}
use Rattle.fbwire.specs.declared.fault.FeedbackFault.{FeedbackFault}
use Rattle.stores.specs.Past.{empty_past}
use Rattle.sender.specs.declared.answer.Marked.{Marked}
use Rattle.sender.specs.declared.fault.SendFault.{SendFault}
use Rattle.sender.specs.Config.{Config}
use Rattle.sender.specs.Passing.{PassesAny}
use Rattle.sender.specs.Sender.{Sending, Stays, new_sending, state_of}
use Rattle.sender.specs.Sending.{SendsInto}
use Rattle.sender.specs.Tail.{MarksLast}
use Rattle.endpoint.specs.declared.told.Told.{Told}
use Rattle.endpoint.specs.declared.resend_counts.ResendCounts.{ResendCounts}
use Rattle.endpoint.specs.declared.resend_rule.ResendRule.{ResendRule}
use Rattle.endpoint.specs.declared.resend_rule.Times.{Times}
use Rattle.endpoint.specs.Moments.{just_sent, sent_again, told_sent, told_resent}
use Rattle.endpoint.specs.Passing.{Retransmits, early_below, expired_below}
use Rattle.endpoint.specs.ResendCounts.{none_passed}
use Rattle.endpoint.specs.Sending.{TellsKind}

-- a call, and what it answered
pub data Event : Type 0 where
  sent : (now : ℕ) → Result (Result (ℕ × ℕ) SendFault) TooShort → Event
  resent : (rule : ResendRule) → (now : ℕ) → (early expired : ℕ) → Result (Option (ℕ × ℕ)) TooShort → Event  -- by this rule, and so many were passed over
  heard : Result Told FeedbackFault → Event
  marked_last : Event
  passed_over : Event  -- the least marked place was passed over, whatever the rule

-- an endpoint, but for its rule and the counts that any sending endpoint has
pub record Timely : Type 0 where
  pub core : Sending
  pub cells : List Times
  pub passed : ResendCounts

-- a call that the moments have nothing to do with
pub record SameMoments (old new : Timely) : Type 0 where
  pub cells : new.cells ≡ old.cells
  pub passed : new.passed ≡ old.passed

-- What each call does: its clauses.
pub record SendStep (now : ℕ) (answer : Result (Result (ℕ × ℕ) SendFault) TooShort) (old new : Timely) : Type 0 where
  pub content : Content
  pub padding : ℕ
  pub out : List ℕ
  pub out' : List ℕ
  pub sends : SendsInto old.core.config.session old.core.past.capacity (state_of old.core) content padding out answer out' (state_of new.core)
  pub stays : Stays old.core new.core
  pub cells : new.cells ≡ told_sent answer now old.cells
  pub passed : new.passed ≡ old.passed

pub record ResendStep (rule : ResendRule) (now early expired : ℕ) (answer : Result (Option (ℕ × ℕ)) TooShort) (old new : Timely) : Type 0 where
  pub out : List ℕ
  pub out' : List ℕ
  pub retransmits : Retransmits rule old.cells old.core.config.session now (state_of old.core) old.passed out answer out' (state_of new.core) new.passed
  pub early_is : early ≡ early_below rule old.cells now (state_of old.core) retransmits.passes.from
  pub expired_is : expired ≡ expired_below rule old.cells now (state_of old.core) retransmits.passes.from
  pub stays : Stays old.core new.core
  pub cells : new.cells ≡ told_resent answer now old.cells

pub record HearStep (answer : Result Told FeedbackFault) (old new : Timely) : Type 0 where
  pub control : Bool
  pub octets : List ℕ
  pub tells : TellsKind control old.core octets answer new.core
  pub same : SameMoments old new

pub record MarkStep (old new : Timely) : Type 0 where
  pub marked : Marked
  pub marks : MarksLast old.core.config.repeats (state_of old.core) marked (state_of new.core)
  pub stays : Stays old.core new.core
  pub same : SameMoments old new

pub record PassStep (old new : Timely) : Type 0 where
  pub answer : Option ℕ
  pub passes : PassesAny (state_of old.core) answer (state_of new.core)
  pub stays : Stays old.core new.core
  pub same : SameMoments old new

abbrev pub Steps : Event → (old new : Timely) → Type 0
Steps (sent now answer) old new = SendStep now answer old new
Steps (resent rule now early expired answer) old new = ResendStep rule now early expired answer old new
Steps (heard answer) old new = HearStep answer old new
Steps marked_last old new = MarkStep old new
Steps passed_over old new = PassStep old new

pub record Follows (Before : Timely → Type 0) (event : Event) (new : Timely) : Type 0 where
  pub old : Timely
  pub before : Before old
  pub steps : Steps event old new

-- one that sent nothing, over a history and a ring for so many packets
pub record Begins (c : Config) (capacity : ℕ) (t : Timely) : Type 0 where
  pub core : t.core ≡ new_sending c (empty_past capacity)
  pub cells : length t.cells ≡ capacity
  pub passed : t.passed ≡ none_passed

-- These calls left the endpoint so, since it was made.
abbrev pub RunsOver : Config → (capacity : ℕ) → List Event → Timely → Type 0
RunsOver c capacity [] t = Begins c capacity t
RunsOver c capacity (event ∷ before) t = Follows (RunsOver c capacity before) event t

-- The moments of the packet of the place q, by the calls: when it was sent, and when it was last retransmitted since.
abbrev pub times_of : (q : ℕ) → List Event → Option Times
times_of q [] = None
times_of q (sent now (Ok (Ok packet)) ∷ before) = if packet.0 == q then Some (just_sent now) else times_of q before
times_of q (resent rule now early expired (Ok (Some packet)) ∷ before) = if packet.0 == q then option_map (sent_again now) (times_of q before) else times_of q before
times_of q (event ∷ before) = times_of q before

-- a retransmission of the place q at the moment `now` is past its deadline, or within the span after the one before
abbrev pub IsOutOfTime : ResendRule → Times → (now : ℕ) → Type 0
IsOutOfTime rule times now = IsSomeAnd rule.deadline (λ span. span < now - times.sent) ⊎ IsSomeAnd times.resent (λ moment. now - moment < rule.min_resend)

-- how many a call passed over, by why
abbrev pub early_in : Event → ℕ
early_in (resent rule now early expired answer) = early
early_in event = 0

abbrev pub expired_in : Event → ℕ
expired_in (resent rule now early expired answer) = expired
expired_in event = 0
