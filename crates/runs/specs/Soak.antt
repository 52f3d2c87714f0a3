-- A run of which a random generator loses packets. Blocks of packets are sent one after the other, each packet delivered
-- or lost by its word; after each block the world is settled, and the receiver plays.
use Rattle.std.specs.Prelude.{◌≡◌, ℕ, ◌+◌, ◌-◌, ◌%◌, ◌<◌, nat_lt, min, List, [], ◌∷◌, length, count_by}
use Rattle.rand_core.specs.Stream.{Stream, next_u32}
use Rattle.rand_core.specs.Steps.{first_words, steps_u32, stream_of}
use Rattle.rand_core.specs.Pcg32Seed.{pcg32_seed}
use Rattle.rand_pcg.specs.Pcg.{pcg32, pcg32_of_seed}
use Rattle.world.specs.Config.{Config}
use Rattle.world.specs.Round.{GoesOn, IsRound}
use Rattle.world.specs.Schedule.{schedule, after_words}
use Rattle.runs.specs.declared.tally.Tally.{Tally}
use Rattle.runs.specs.Tally.{tally_of}
use Rattle.runs.specs.Session.{soak_config}
use Rattle.runs.specs.Scene.{Scene, new_scene, Does}
use Rattle.runs.specs.Playing.{PlaysOut}

-- how many packets are in a block
abbrev pub block_size : ℕ
block_size = 256

-- how many of these words lose their packet
abbrev pub lost : (loss : ℕ) → (words : List ℕ) → ℕ
lost loss words = count_by (λ word. nat_lt (word % 1000) loss) words

-- The world is settled by one undisturbed round.
abbrev pub Settles : Config → (now : ℕ) → Scene → Scene → Type 0
Settles c now old new = GoesOn c (IsRound now) old.stand new.stand old.log new.log

-- One block, of one packet for each word, after so many packets: they are sent at the moments from there on, and are on
-- the wire behind what was there. At the moment of the last one the world is settled, and the receiver plays until it waits.
pub record IsBlock (c : Config) (loss done : ℕ) (words : List ℕ) (old new : Scene) : Type 0 where
  pub sent : Scene
  pub settled : Scene
  pub sends : Does c old (schedule loss (length old.stand.wire) done words) sent
  pub settles : Settles c (done + length words - 1) sent settled
  pub plays : PlaysOut c (done + length words - 1) settled new

-- the sizes of the blocks of so many packets: each is full, but the last, which has what is left
abbrev pub AreSizes : List ℕ → (packets : ℕ) → Type 0
AreSizes [] packets = packets ≡ 0
AreSizes (size ∷ sizes) packets = (0 < packets) × (size ≡ min block_size packets) × AreSizes sizes (packets - size)

-- blocks of these sizes after so many packets, each with the next words of the stream
abbrev pub Blocks : Config → (loss done : ℕ) → (sizes : List ℕ) → Stream → Scene → Scene → Type 0
Blocks c loss done [] stream old new = new ≡ old
Blocks c loss done (size ∷ sizes) stream old new =
    (mid : Scene) × IsBlock c loss done (first_words next_u32 size stream) old mid × Blocks c loss (done + size) sizes (after_words size stream) mid new

-- so many packets after so many others
pub record IsSoak (c : Config) (loss done packets : ℕ) (stream : Stream) (old new : Scene) : Type 0 where
  pub sizes : List ℕ
  pub cut : AreSizes sizes packets
  pub blocks : Blocks c loss done sizes stream old new

-- The tally is that of the log of a drawn run of so many packets.
pub record Draws (loss packets : ℕ) (stream : Stream) (tally : Tally) : Type 0 where
  pub end : Scene
  pub run : IsSoak soak_config loss 0 packets stream (new_scene soak_config) end
  pub counts : tally ≡ tally_of (lost loss (first_words next_u32 packets stream)) end.log

-- the words that the generator Pcg32 gives from a seed on
abbrev pub seeded : (seed : ℕ) → Stream
seeded seed = stream_of (steps_u32 pcg32) (pcg32_of_seed (pcg32_seed 16 seed))
