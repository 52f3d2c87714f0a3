-- The headline: what a close and honest log promises.
use Rattle.std.specs.Prelude.{◌≡◌, ℕ, ◌*◌, ◌≤◌, List, ◌∷◌, take, reverse, Option, Some, None}
use Rattle.fbwire.specs.declared.nack.Pair.{Pair}
use Rattle.receiver.specs.declared.answer.Played.{Played as Play_answer}
use Rattle.world.specs.declared.event.Event.{Event}
use Rattle.world.specs.declared.event.Label.{Label}
use Rattle.world.specs.declared.event.Entry.{Entry}
use Rattle.world.specs.declared.event.Entry.TheVariants.{Played}
use Rattle.world.specs.Config.{Config}
use Rattle.world.specs.Answers.{WorldState, Answers}
use Rattle.world.specs.Reading.{IsRising, IsFinal, repairs_of}
use Rattle.world.specs.Wire.{IsFaithful}
use Rattle.world.specs.Reach.{shift_of}
use Rattle.world.specs.Close.{IsClose, IsHonest}
use Rattle.world.specs.Right.{IsRight}
use Rattle.world.specs.Justified.{IsJustified}
use Rattle.world.specs.JustifiedAsks.{IsToAskFor, IsAskFor, IsAskedRightly}
use Rattle.world.specs.Lawful.{IsRefusedLawfully}
use Rattle.world.specs.PlaceRun.{PlaceRun, places_of}
use Rattle.world.specs.World.{IsLogged}

-- The log, which left both ends and the wire so, is good: it is a run over places, which leaves both ends so.
pub record IsGood (c : Config) (past : List Entry) (end : WorldState) : Type 0 where
  pub run : PlaceRun c past (places_of end)
  pub shift : (cycles : ℕ) × (shift_of past ≡ cycles * 65536)  -- both ends' places differ by whole cycles
  pub rising : IsRising c past
  pub final : IsFinal past
  pub right : IsRight c past
  pub justified : IsJustified c past
  pub asks : IsAskedRightly c (places_of end).labels past
  pub refusals : IsRefusedLawfully c past

-- Each beginning of the log, the oldest entry first, is good if it is close and honest: so no entry makes an
-- earlier one wrong. Whatever events the log answers (there are some), its first n entries answer the first n of
-- them, and what such a beginning left is what these answers leave.
pub record PlaysRightly (c : Config) (log : List Entry) (end : WorldState) : Type 0 where
  pub logged : IsLogged c log end
  pub whole : IsClose (reverse log) → IsHonest (reverse log) → IsGood c (reverse log) end
  pub beginnings :
      (events : List Event) → Answers c (reverse events) (reverse log) end → (n : ℕ)
      → IsClose (reverse (take n log)) → IsHonest (reverse (take n log))
      → (mid : WorldState) × Answers c (reverse (take n events)) (reverse (take n log)) mid × IsGood c (reverse (take n log)) mid

-- What every log that answers events keeps to, the oldest entry first: each call of a world promises it of the log that it leaves.
pub record KeepsPromises (c : Config) (log : List Entry) (end : WorldState) : Type 0 where
  pub rising : IsRising c (reverse log)  -- what is played or given up rises,
  pub finals : IsFinal (reverse log)  -- and is played never again
  pub faithful : IsFaithful c (reverse log) end.wire  -- what lies on the wire was sent
  pub repeats : (place : ℕ) → repairs_of place (reverse log) ≤ c.repeats  -- no place is retransmitted more often than that
  pub good : PlaysRightly c log end  -- the headline

-- what an ask may be for after this log, and the labels so far: the pairs of an ask, or none
abbrev pub MayAsk : Config → List Label → List Entry → (now : ℕ) → Option (List Pair) → Type 0
MayAsk c labels past now None = (place : ℕ) → IsToAskFor c labels past place now → ⊥
MayAsk c labels past now (Some pairs) = IsAskFor c labels past now pairs

-- what a play may answer after this log: its entry is in order, right and justified
abbrev pub MayPlay : Config → List Entry → (now : ℕ) → Play_answer → Type 0
MayPlay c past now answer =
    IsRising c (Played now answer ∷ past) × IsRight c (Played now answer ∷ past) × IsJustified c (Played now answer ∷ past)
