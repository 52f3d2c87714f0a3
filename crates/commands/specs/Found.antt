-- What stands at the front of the octets that are pending.
use Rattle.std.specs.Prelude.{◌≡◌, ℕ, ◌+◌, ◌<◌, ◌⊎◌, List, [], ◌∷◌, ◌++◌, length, take, drop, Option}
use Rattle.std.specs.Io.KnownBytes.{IsAtEnd}
use Rattle.commands.specs.declared.sim.Next.{Next}
use Rattle.commands.specs.declared.sim.Next.TheVariants.{Line, End, Refused}
use Rattle.commands.specs.IsScript.{LacksFeed}

-- what is pending, and what its reader still has, begin with this
abbrev pub Found : Next → List ℕ → Option (List ℕ) → Type 0
Found (Line at) pending more = (at < length pending) × (pending ≡ take at pending ++ 10 ∷ drop (at + 1) pending) × LacksFeed (take at pending)
Found End pending more = (pending ≡ []) × IsAtEnd more
Found Refused pending more = LacksFeed pending × (0 < length pending) × ((4096 < length pending) ⊎ IsAtEnd more)
