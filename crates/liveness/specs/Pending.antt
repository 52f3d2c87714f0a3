-- Packets that wait for their sender's answer, in the order in which they came: 256 at most, each for a second.
use Rattle.std.specs.Prelude.{◌≡◌, ◌⊎◌, ℕ, ◌+◌, ◌-◌, ◌==◌, ◌&&◌, Bool, false, nat_le, nat_lt, List, [], ◌∷◌, ◌++◌, length, drop, slice_index_or, Option, Some, None, if◌then◌else◌}
use Rattle.std.specs.List.{position, remove}
use Rattle.liveness.specs.declared.living.Source.{Source}
use Rattle.liveness.specs.declared.pending.Pending.{Pending}

-- one waited for a second
abbrev pub is_over : (now : ℕ) → Pending → Bool
is_over now one = nat_le 1000 (now - one.moment)

-- what is left where those that waited for a second, of the first ones, wait no longer
abbrev pub left_at : (now : ℕ) → List Pending → List Pending
left_at now [] = []
left_at now (one ∷ more) = if is_over now one then left_at now more else one ∷ more

-- so many wait no longer
abbrev pub Expires : (old : List Pending) → (now dropped : ℕ) → (new : List Pending) → Type 0
Expires old now dropped new = (new ≡ left_at now old) × (dropped + length new ≡ length old)

-- the first one waits no longer where it waited for a second
abbrev pub DropsFirst : (old : List Pending) → (now : ℕ) → (is : Bool) → (new : List Pending) → Type 0
DropsFirst [] now is new = (is ≡ false) × (new ≡ [])
DropsFirst (one ∷ more) now is new = (is ≡ is_over now one) × (new ≡ (if is_over now one then more else one ∷ more))

-- the oldest one goes where there are as many as may be
abbrev pub with_room : List Pending → List Pending
with_room waiting = if nat_lt (length waiting) 256 then waiting else drop 1 waiting

abbrev pub MakesRoom : (old : List Pending) → (now dropped : ℕ) → (new : List Pending) → Type 0
MakesRoom old now dropped new = (new ≡ with_room (left_at now old)) × (dropped + length new ≡ length old)

-- One more waits behind those that still do, or does not, where there is no memory.
abbrev pub Adds : (old : List Pending) → Pending → (new : List Pending) → Type 0
Adds old one new = (new ≡ old ++ one ∷ []) ⊎ (new ≡ old)

-- Of all so many wait no longer.
abbrev pub Keeps : (old : List Pending) → Pending → (dropped : ℕ) → (new : List Pending) → Type 0
Keeps old one dropped new = Adds (with_room (left_at one.moment old)) one new × (dropped + length new ≡ length old + 1)

-- the one at a place waits no longer; all others do, in their order
abbrev pub TakesAt : Option ℕ → (old : List Pending) → Option Pending → (new : List Pending) → Type 0
TakesAt None old one new = (one ≡ None) × (new ≡ old)
TakesAt (Some at) old None new = ⊥
TakesAt (Some at) old (Some one) new = (one ≡ slice_index_or old at one) × (new ≡ remove old at)

-- one is of an SSRC that answered, and not of its past
abbrev pub is_of : Source → Pending → Bool
is_of source one = (one.ssrc == source.ssrc) && nat_le source.first one.index

-- the first such one is taken
abbrev pub Takes : (old : List Pending) → Source → Option Pending → (new : List Pending) → Type 0
Takes old source one new = TakesAt (position (is_of source) old) old one new
