-- A run over a link: what it does, phase by phase. The world answers each event; what is sent to an end is put into the
-- link, and what the link gives in return is injected there.
use Rattle.std.specs.Prelude.{◌≡◌, ℕ, zero, suc, ◌+◌, ◌==◌, nat_lt, Bool, is_some, List, [], ◌++◌, if◌then◌else◌, Option, Some, None}
use Rattle.std.specs.List.{list_any}
use Rattle.receiver.specs.declared.answer.Played.TheVariants.{Packet, Gap}
use Rattle.world.specs.declared.event.End.{End}
use Rattle.world.specs.declared.event.End.TheVariants.{Sender, Receiver}
use Rattle.world.specs.declared.event.Event.{Event}
use Rattle.world.specs.declared.event.Event.TheVariants.{Send, Repair, Ask, Play}
use Rattle.world.specs.declared.event.Entry.{Entry}
use Rattle.world.specs.declared.event.Entry.TheVariants.{Played}
use Rattle.world.specs.Config.{Config}
use Rattle.world.specs.Answers.{Item}
use Rattle.world.specs.Schedule.{numbered_content}
use Rattle.runs.specs.declared.link.Transfer.{Transfer}
use Rattle.runs.specs.Scene.{Scene, Happens}
use Rattle.runs.specs.Traffic.{Grows}
use Rattle.runs.specs.Exchange.{written_at, Hands, IsHandOverBegun}

-- How many packets are sent, and the numbers of those that are not put into the link.
pub record Plan : Type 0 where
  pub packets : ℕ
  pub drop : List ℕ

abbrev pub plan_of : (packets : ℕ) → (drop : List ℕ) → Plan
plan_of packets drop = record { packets = packets; drop = drop }

-- What a run does next.
pub data Phase : Type 0 where
  sending : (number : ℕ) → Phase  -- the packet of this number is sent
  asking : (round : ℕ) → Phase  -- the receiver asks, in this round
  repairing : (round : ℕ) → Phase  -- the sender retransmits
  playing : Phase  -- the receiver plays
  done : Phase  -- nothing
  -- the wire's datagram at an index is handed to an end at a moment; and the phase after that
  handing : End → (index now : ℕ) → Phase → Phase

-- there are three rounds, and then the receiver plays
abbrev pub round_from : ℕ → Phase
round_from round = if nat_lt round 3 then asking round else playing

-- all packets are sent, and then the rounds begin
abbrev pub send_from : Plan → ℕ → Phase
send_from plan number = if nat_lt number plan.packets then sending number else round_from 0

-- the moment of a round
abbrev pub moment_of : Plan → (round : ℕ) → ℕ
moment_of plan round = plan.packets + round

-- the packet of this number is not put into the link
abbrev pub is_dropped : Plan → ℕ → Bool
is_dropped plan number = list_any (λ dropped. dropped == number) plan.drop

-- the phase after an event, which wrote a datagram at this index or none: what was written is handed over first
abbrev pub hand_then : End → (now : ℕ) → (written : Option ℕ) → Phase → Phase
hand_then to now None next = next
hand_then to now (Some index) next = handing to index now next

-- a packet reaches the receiver unless it is dropped, and then the next one is sent
abbrev pub after_send : Plan → (number : ℕ) → Entry → Phase
after_send plan number entry =
    if is_dropped plan number then send_from plan (number + 1) else hand_then Receiver number (written_at entry) (send_from plan (number + 1))

-- an ask reaches the sender, and then it retransmits, whether there was an ask or not
abbrev pub after_ask : Plan → (round : ℕ) → Entry → Phase
after_ask plan round entry = hand_then Sender (moment_of plan round) (written_at entry) (repairing round)

-- a retransmission reaches the receiver, and then the sender retransmits again; where there was none the next round begins
abbrev pub after_repair : Plan → (round : ℕ) → Entry → Phase
after_repair plan round entry = hand_then Receiver (moment_of plan round) (written_at entry) (if is_some (written_at entry) then repairing round else round_from (round + 1))

-- the receiver plays until it waits
abbrev pub after_play : Entry → Phase
after_play (Played now (Packet place content)) = playing
after_play (Played now (Gap place)) = playing
after_play entry = done

-- one event of the world, which moves nothing over the link
pub record Acts (c : Config) (old : Scene) (event : Event) (after : Entry → Phase) (moved : List Transfer) (next : Phase) (new : Scene) : Type 0 where
  pub entry : Entry
  pub happens : Happens c old event entry new
  pub unmoved : moved ≡ []
  pub next_is : next ≡ after entry

-- One move from a phase to the next, and what it moves over the link. Packet i has the content of the number i, and no
-- padding. The rounds are at the moments after the last packet's, and the receiver plays at that of the last round.
abbrev pub Moves : Config → Plan → Phase → Scene → List Transfer → Phase → Scene → Type 0
Moves c plan (sending number) old moved next new = Acts c old (Send (numbered_content number) 0) (after_send plan number) moved next new
Moves c plan (asking round) old moved next new = Acts c old (Ask (moment_of plan round)) (after_ask plan round) moved next new
Moves c plan (repairing round) old moved next new = Acts c old Repair (after_repair plan round) moved next new
Moves c plan playing old moved next new = Acts c old (Play (moment_of plan 2)) after_play moved next new
Moves c plan done old moved next new = ⊥
Moves c plan (handing to index now after) old moved next new = Hands c to index now old moved new × (next ≡ after)

-- so many moves
abbrev pub Goes : Config → Plan → (count : ℕ) → Phase → Scene → List Transfer → Phase → Scene → Type 0
Goes c plan zero phase old moved next new = (next ≡ phase) × (new ≡ old) × (moved ≡ [])
Goes c plan (suc count) phase old moved next new =
    (mid : Phase) × (scene : Scene) × (first : List Transfer) × (last : List Transfer)
    × Goes c plan count phase old first mid scene × Moves c plan mid scene last next new × (moved ≡ first ++ last)

-- A run came from one phase to another, and its link's traffic grew by what was moved.
pub record Reaches (c : Config) (plan : Plan) (phase : Phase) (old : Scene) (told : Option (List Transfer)) (next : Phase) (new : Scene) (telling : Option (List Transfer)) : Type 0 where
  pub count : ℕ
  pub moved : List Transfer
  pub goes : Goes c plan count phase old moved next new
  pub tells : Grows told moved telling

-- what was moved of the next move, which was not done
abbrev pub IsPending : Phase → List Item → List Transfer → Type 0
IsPending (handing to index now after) wire moved = IsHandOverBegun to index wire moved
IsPending (sending number) wire moved = moved ≡ []
IsPending (asking round) wire moved = moved ≡ []
IsPending (repairing round) wire moved = moved ≡ []
IsPending playing wire moved = moved ≡ []
IsPending done wire moved = moved ≡ []

-- A run stopped somewhere on its way: each move is whole, but of the next one something may have been moved over the link.
pub record StopsRun (c : Config) (plan : Plan) (phase : Phase) (old : Scene) (told : Option (List Transfer)) (new : Scene) (telling : Option (List Transfer)) : Type 0 where
  pub next : Phase
  pub count : ℕ
  pub moved : List Transfer
  pub begun : List Transfer
  pub goes : Goes c plan count phase old moved next new
  pub pending : IsPending next new.stand.wire begun
  pub tells : Grows told (moved ++ begun) telling
