-- The counts of shared feedback by lists alone, as they are where none of them is cut off.
use Rattle.std.specs.Prelude.{◌≡◌, ◌↔◌, ◌⊎◌, ℕ, ◌+◌, ◌≤◌, Bool, true, IsTrue, List, length, None, IsSomeAnd}
use Rattle.std.specs.List.{filter, flat_map}
use Rattle.places.specs.Place.{number}
use Rattle.fbwire.specs.Nack.{Nack, numbers_of}
use Rattle.sender.specs.declared.answer.Shared.{Shared}
use Rattle.sender.specs.Config.{Config}
use Rattle.sender.specs.History.{SenderState}

-- So many of the numbers, each counted as often as it stands there, are in a list of those that have the property.
pub record ListsThose (Has : ℕ → Type 0) (numbers : List ℕ) (count : ℕ) : Type 0 where
  pub test : ℕ → Bool
  pub tells : (n : ℕ) → IsTrue (test n) ↔ Has n
  pub counted : count ≡ length (filter test numbers)

-- Each count is the length of a list: of the NACKs on the session's media from its receiver, or from anyone where each reporter is heard; of
-- the others; of the numbers that the first name; of those of these numbers that no entry has, and of those whose entry was retransmitted
-- as often as it may be.
pub record CountsInFull (c : Config) (old : SenderState) (spelled : List Nack) (shared : Shared) : Type 0 where
  pub mine : Nack → Bool
  pub tells : (nack : Nack) → IsTrue (mine nack) ↔ ((nack.media ≡ c.session.media_ssrc) × ((c.any_reporter ≡ true) ⊎ (nack.reporter ≡ c.session.receiver_ssrc)))
  pub nacks : shared.nacks ≡ length (filter mine spelled)
  pub others : shared.nacks + shared.others ≡ length spelled
  pub named : List ℕ
  pub each : named ≡ flat_map (λ (nack : Nack). numbers_of nack.pairs) (filter mine spelled)
  pub numbers : shared.numbers ≡ length named
  pub unknown : ListsThose (λ n. (q : ℕ) → number q ≡ n → old.entries q ≡ None) named shared.unknown
  pub exhausted : ListsThose (λ n. (q : ℕ) × (number q ≡ n) × IsSomeAnd (old.entries q) (λ entry. c.repeats ≤ entry.repeats)) named shared.exhausted
