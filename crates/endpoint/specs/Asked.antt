-- Which places were asked for, as far as a ring remembers: it has a cell for each place modulo the number of cells, with the last
-- place of that cell that a generic NACK (RFC 4585, section 6.2.1) named.
use Rattle.std.specs.Prelude.{◌≡◌, ℕ, ◌+◌, ◌-◌, ◌%◌, ◌==◌, Bool, false, List, [], ◌∷◌, length, map, replicate, get_or, slice_set, Option, Some, None, Result, Ok, Err}
use Rattle.arrayvec.specs.ArrayVec.{ArrayVec}
use Rattle.rtpwire.specs.declared.fault.TooShort.{TooShort}
use Rattle.fbwire.specs.Nack.{Nack, NackSpells, numbers_of}
use Rattle.receiver.specs.Asks.{asked_into}
use Rattle.receiver.specs.declared.fault.ReceiveFault.{ReceiveFault}
use Rattle.endpoint.specs.declared.heard.Heard.{Heard}
use Rattle.endpoint.specs.declared.heard.Heard.TheVariants.{Restarted}

-- nothing is remembered, in so many cells
abbrev pub none_asked : (count : ℕ) → List (Option ℕ)
none_asked count = replicate count None

-- what the cell with this index has
abbrev pub cell_at : List (Option ℕ) → (index : ℕ) → Option ℕ
cell_at cells index = get_or cells index None

abbrev pub is_place : Option ℕ → (q : ℕ) → Bool
is_place None q = false
is_place (Some p) q = p == q

-- the place q is remembered
abbrev pub remembers : List (Option ℕ) → (q : ℕ) → Bool
remembers cells q = is_place (cell_at cells (q % length cells)) q

-- one place more is, and its cell forgets the one that it had
abbrev pub with_place : List (Option ℕ) → (place : ℕ) → List (Option ℕ)
with_place cells place = slice_set cells (place % length cells) (Some place)

-- and places one after another
abbrev pub with_places : List (Option ℕ) → (places : List ℕ) → List (Option ℕ)
with_places cells [] = cells
with_places cells (place ∷ places) = with_places (with_place cells place) places

-- The place that an ask names by this number: the last one up to the highest that has it, since what is asked for lies in the
-- window, less than a cycle of 65536 below its highest place.
abbrev pub asked_at : (highest seq : ℕ) → ℕ
asked_at highest seq = highest - (highest % 65536 + 65536 - seq) % 65536

-- the places that a NACK names, in its order
abbrev pub places_named : (highest : ℕ) → Nack → List ℕ
places_named highest nack = map (asked_at highest) (numbers_of nack.pairs)

-- What an ask leaves, with this as the highest place: the places that its NACK names are remembered too. (A receiver that has no
-- highest place makes no NACK.)
abbrev pub RemembersAsk : (highest : Option ℕ) → Option (ArrayVec ℕ) → (old new : List (Option ℕ)) → Type 0
RemembersAsk highest None old new = new ≡ old
RemembersAsk None (Some datagram) old new = new ≡ old
RemembersAsk (Some h) (Some datagram) old new = (nack : Nack) → NackSpells nack datagram.items → new ≡ with_places old (places_named h nack)

-- the same of an ask to the front of a slice
abbrev pub RemembersAskInto : (highest : Option ℕ) → List ℕ → Result (Option ℕ) TooShort → (old new : List (Option ℕ)) → Type 0
RemembersAskInto highest out (Ok answer) old new = RemembersAsk highest (asked_into out answer) old new
RemembersAskInto highest out (Err short) old new = new ≡ old

-- What an answer to a datagram leaves: a stream that restarts has its places anew.
abbrev pub kept_after : Result Heard ReceiveFault → List (Option ℕ) → List (Option ℕ)
kept_after (Ok (Restarted restart)) cells = none_asked (length cells)
kept_after answer cells = cells
