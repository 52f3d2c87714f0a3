-- What a sender answers to a feedback datagram that several senders share: a network may put the NACKs for several
-- streams, and of several reporters, into one compound datagram (RFC 3550, section 6.1). The checks come in this order:
-- the octets (11 to 17), and then, where no NACK is of this session, what is wrong with the first one (18 or 19). A
-- refusal changes nothing.
use Rattle.std.specs.Prelude.{◌≡◌, ◌↔◌, ℕ, ◌-◌, ◌^◌, ◌<◌, ◌≤◌, min, not, Bool, IsTrue, List, [], ◌∷◌, length, Option, Some, None, IsSomeAnd, Result, Ok, Err}
use Rattle.std.specs.List.{filter, count_by}
use Rattle.places.specs.Place.{number}
use Rattle.fbwire.specs.declared.fault.FeedbackFault.{FeedbackFault}
use Rattle.fbwire.specs.Nack.{Nack, Names}
use Rattle.fbwire.specs.Compound.{NacksName}
use Rattle.sender.specs.declared.answer.Marked.{Marked}
use Rattle.sender.specs.declared.answer.Shared.{Shared}
use Rattle.sender.specs.Config.{Config}
use Rattle.sender.specs.Feedback.{is_ours, wrong_with, ReadsFeedback}
use Rattle.sender.specs.History.{SenderState, Marks}
use Rattle.sender.specs.Marking.{all_numbers}

-- the NACKs that are of this session, in their order, and the others
abbrev pub ours : Config → List Nack → List Nack
ours c nacks = filter (is_ours c) nacks

abbrev pub theirs : Config → List Nack → List Nack
theirs c nacks = filter (λ (nack : Nack). not (is_ours c nack)) nacks

-- the sequence numbers that those of this session name, each as often as it is named
abbrev pub our_numbers : Config → List Nack → List ℕ
our_numbers c nacks = all_numbers (ours c nacks)

-- what is wrong with the first NACK
abbrev pub first_fault : Config → List Nack → Option FeedbackFault
first_fault c [] = None
first_fault c (nack ∷ nacks) = wrong_with c nack

-- no entry has the number: its packet is too old, or was never sent
abbrev pub IsUnknown : SenderState → ℕ → Type 0
IsUnknown old n = (q : ℕ) → number q ≡ n → old.entries q ≡ None

-- the entry that has the number was retransmitted as often as it may be
abbrev pub IsExhausted : (repeats : ℕ) → SenderState → ℕ → Type 0
IsExhausted repeats old n = (q : ℕ) × (number q ≡ n) × IsSomeAnd (old.entries q) (λ entry. repeats ≤ entry.repeats)

-- a count in 32 bits, which stays at the greatest number that they hold
abbrev pub count_in_32 : ℕ → ℕ
count_in_32 n = min n (2 ^ 32 - 1)

-- So many of the numbers have the property, each counted as often as it stands there: those that a test tells.
pub record CountsThose (Has : ℕ → Type 0) (numbers : List ℕ) (count : ℕ) : Type 0 where
  pub test : ℕ → Bool
  pub tells : (n : ℕ) → IsTrue (test n) ↔ Has n
  pub counted : count ≡ count_in_32 (count_by test numbers)

-- What is counted of the NACKs that are spelled, by the sender before.
pub record CountsShared (c : Config) (old : SenderState) (spelled : List Nack) (shared : Shared) : Type 0 where
  pub nacks : shared.nacks ≡ count_in_32 (length (ours c spelled))
  pub others : shared.others ≡ count_in_32 (length (theirs c spelled))
  pub numbers : shared.numbers ≡ count_in_32 (length (our_numbers c spelled))
  pub unknown : CountsThose (IsUnknown old) (our_numbers c spelled) shared.unknown
  pub exhausted : CountsThose (IsExhausted c.repeats old) (our_numbers c spelled) shared.exhausted

-- Some of the NACKs are of this session: the numbers that these name are marked.
pub record MarksOurs (c : Config) (old : SenderState) (nacks : List Nack) (shared : Shared) (new : SenderState) : Type 0 where
  pub some : 0 < length (ours c nacks)
  pub marks : Marks c.repeats (NacksName (ours c nacks)) old shared.places new
  pub counts : CountsShared c old nacks shared

-- What NACKs come to: those of this session mark, or there is none, and the first decides.
abbrev pub SharesNacks : Config → SenderState → List Nack → Result Shared FeedbackFault → SenderState → Type 0
SharesNacks c old nacks (Ok shared) new = MarksOurs c old nacks shared new
SharesNacks c old nacks (Err fault) new = (ours c nacks ≡ []) × (first_fault c nacks ≡ Some fault) × (new ≡ old)

abbrev pub SharesSaid : Config → SenderState → Result (List Nack) FeedbackFault → Result Shared FeedbackFault → SenderState → Type 0
SharesSaid c old (Ok nacks) answer new = SharesNacks c old nacks answer new
SharesSaid c old (Err fault) answer new = (answer ≡ Err fault) × (new ≡ old)

-- One datagram, which other senders may share, at a sender.
pub record HearsShared (c : Config) (old : SenderState) (octets : List ℕ) (answer : Result Shared FeedbackFault) (new : SenderState) : Type 0 where
  pub said : Result (List Nack) FeedbackFault
  pub says : ReadsFeedback octets said
  pub heard : SharesSaid c old said answer new

-- the answer as that of feedback for this session alone
abbrev pub marked_of : Result Shared FeedbackFault → Result Marked FeedbackFault
marked_of (Ok shared) = Ok (record { places = shared.places })
marked_of (Err fault) = Err fault

-- one NACK's numbers are marked, and so many others are passed over
abbrev pub SharesAlone : Config → SenderState → Nack → (others : ℕ) → Result Shared FeedbackFault → SenderState → Type 0
SharesAlone c old nack others (Ok shared) new = Marks c.repeats (Names nack.pairs) old shared.places new × (shared.nacks ≡ 1) × (shared.others ≡ others)
SharesAlone c old nack others (Err fault) new = ⊥
