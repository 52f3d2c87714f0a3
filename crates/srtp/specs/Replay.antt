-- The replay list (RFC 3711, section 3.3.2): which indices were taken, newest first, and what it refuses.
use Rattle.std.specs.Prelude.{◌≡◌, ℕ, ◌+◌, ◌%◌, ◌<◌, ◌==◌, nat_lt, max, List, [], ◌∷◌, length, slice_index, Option, Some, None, if◌then◌else◌}
use Rattle.places.specs.Among.{is_among}
use Rattle.srtp.specs.declared.replay.ReplayFault.{ReplayFault}
use Rattle.srtp.specs.declared.replay.ReplayFault.TheVariants.{TooOld, TakenBefore}

-- the number after the highest index that was taken; 0 before the first one
abbrev pub next_of : List ℕ → ℕ
next_of [] = 0
next_of (index ∷ taken) = max (index + 1) (next_of taken)

-- An index further back from the highest one than a list of so many places reaches is too old; one that was taken is refused.
abbrev pub replay_fault : ℕ → List ℕ → ℕ → Option ReplayFault
replay_fault len taken index =
    if nat_lt (index + len) (next_of taken)
    then Some TooOld
    else (if is_among taken index then Some TakenBefore else None)

-- the number after the highest index that was taken of those that share a place in a list of so many
abbrev pub last_at : (len place : ℕ) → List ℕ → ℕ
last_at len place [] = 0
last_at len place (index ∷ taken) =
    if index % len == place then max (index + 1) (last_at len place taken) else last_at len place taken

-- a list of so many places knows of all these indices
pub record Remembers (len next : ℕ) (places taken : List ℕ) : Type 0 where
  pub highest : next ≡ next_of taken
  pub room : length places ≡ len
  pub each : (place : ℕ) → place < len → slice_index places place ≡ last_at len place taken
