-- What is counted of feedback that several senders share, said by the history's own words. The private calls promise it
-- to one another; callers see `CountsShared`.
use Rattle.std.specs.Prelude.{◌≡◌, ℕ, ◌+◌, Bool, true, false, not, nat_lt, List, length, Option, Some, None}
use Rattle.std.specs.List.{count_by}
use Rattle.fbwire.specs.Nack.{Nack}
use Rattle.stores.specs.declared.entry.HistoryEntry.{HistoryEntry}
use Rattle.stores.specs.Past.{Past, entry_at, numbered}
use Rattle.sender.specs.declared.answer.Shared.{Shared}
use Rattle.sender.specs.Config.{Config}
use Rattle.sender.specs.Shared.{ours, theirs, our_numbers, count_in_32}

-- the entry of a place that was found
abbrev pub entry_found : Past → Option ℕ → Option HistoryEntry
entry_found h None = None
entry_found h (Some p) = entry_at h p

abbrev pub is_absent : Option HistoryEntry → Bool
is_absent None = true
is_absent (Some entry) = false

abbrev pub is_spent : (repeats : ℕ) → Option HistoryEntry → Bool
is_spent repeats None = false
is_spent repeats (Some entry) = not (nat_lt entry.repeats repeats)

-- no entry has the number
abbrev pub is_unknown : Past → ℕ → Bool
is_unknown h n = is_absent (entry_found h (numbered h n))

-- its entry was retransmitted as often as it may be
abbrev pub is_exhausted : (repeats : ℕ) → Past → ℕ → Bool
is_exhausted repeats h n = is_spent repeats (entry_found h (numbered h n))

-- of the numbers that one NACK names, or of some of them
pub record CountsNumbers (repeats : ℕ) (h : Past) (named : List ℕ) (shared : Shared) : Type 0 where
  pub places : shared.places ≡ 0
  pub nacks : shared.nacks ≡ 0
  pub others : shared.others ≡ 0
  pub numbers : shared.numbers ≡ count_in_32 (length named)
  pub unknown : shared.unknown ≡ count_in_32 (count_by (is_unknown h) named)
  pub exhausted : shared.exhausted ≡ count_in_32 (count_by (is_exhausted repeats h) named)

-- of the NACKs that are spelled, or of some of them
pub record CountsNacks (c : Config) (h : Past) (spelled : List Nack) (shared : Shared) : Type 0 where
  pub places : shared.places ≡ 0
  pub nacks : shared.nacks ≡ count_in_32 (length (ours c spelled))
  pub others : shared.others ≡ count_in_32 (length (theirs c spelled))
  pub numbers : shared.numbers ≡ count_in_32 (length (our_numbers c spelled))
  pub unknown : shared.unknown ≡ count_in_32 (count_by (is_unknown h) (our_numbers c spelled))
  pub exhausted : shared.exhausted ≡ count_in_32 (count_by (is_exhausted c.repeats h) (our_numbers c spelled))

-- what two counts come to
pub record AddsUp (x y sum : Shared) : Type 0 where
  pub places : sum.places ≡ count_in_32 (x.places + y.places)
  pub nacks : sum.nacks ≡ count_in_32 (x.nacks + y.nacks)
  pub others : sum.others ≡ count_in_32 (x.others + y.others)
  pub numbers : sum.numbers ≡ count_in_32 (x.numbers + y.numbers)
  pub unknown : sum.unknown ≡ count_in_32 (x.unknown + y.unknown)
  pub exhausted : sum.exhausted ≡ count_in_32 (x.exhausted + y.exhausted)
