-- What a sender answers to feedback, by the NACKs that its octets spell. The checks come in this order: the
-- octets (11 to 17), and then NACK by NACK, in the datagram's order, the media SSRC (18) and the reporter's
-- (19). A refusal changes nothing.
use Rattle.std.specs.Prelude.{◌≡◌, ℕ, ◌==◌, ◌&&◌, ◌||◌, Bool, List, [], ◌∷◌, Option, Some, None, Result, Ok, Err, if◌then◌else◌}
use Rattle.std.specs.Option.{option_or}
use Rattle.fbwire.specs.declared.fault.FeedbackFault.{FeedbackFault}
use Rattle.fbwire.specs.declared.fault.FeedbackFault.TheVariants.{WrongMedia, WrongReporter}
use Rattle.fbwire.specs.Nack.{Nack, Names}
use Rattle.fbwire.specs.Compound.{CompoundSpells, NacksName}
use Rattle.fbwire.specs.CompoundChecks.{IsRefused}
use Rattle.sender.specs.declared.answer.Marked.{Marked}
use Rattle.sender.specs.Config.{Config}
use Rattle.sender.specs.History.{SenderState, Marks}

-- The packet's sender is the session's receiver, or any reporter is taken as it.
abbrev pub is_receiver : Config → Nack → Bool
is_receiver c nack = c.any_reporter || (nack.reporter == c.session.receiver_ssrc)

-- The NACK is of this session: the SSRC of its media source is that of the session's media, and it is from the session's
-- receiver (RFC 4585, section 6.1).
abbrev pub is_ours : Config → Nack → Bool
is_ours c nack = (nack.media == c.session.media_ssrc) && is_receiver c nack

-- What is wrong with a NACK that is not from this session's receiver on its media: the SSRC of the media source, or else
-- that of the packet's sender.
abbrev pub wrong_with : Config → Nack → Option FeedbackFault
wrong_with c nack =
    if nack.media == c.session.media_ssrc
    then (if is_receiver c nack then None else Some WrongReporter)
    else Some WrongMedia

-- what is wrong with the first NACK that is not of this session
abbrev pub first_wrong : Config → List Nack → Option FeedbackFault
first_wrong c [] = None
first_wrong c (nack ∷ nacks) = option_or (wrong_with c nack) (first_wrong c nacks)

-- what octets say: the NACKs of a compound datagram, or the fault that decides
abbrev pub ReadsFeedback : List ℕ → Result (List Nack) FeedbackFault → Type 0
ReadsFeedback octets (Ok nacks) = CompoundSpells nacks octets
ReadsFeedback octets (Err fault) = IsRefused octets fault

-- the numbers that all the NACKs name are marked
abbrev pub MarksNamed : Config → SenderState → List Nack → Result Marked FeedbackFault → SenderState → Type 0
MarksNamed c old nacks (Ok marked) new = Marks c.repeats (NacksName nacks) old marked.places new
MarksNamed c old nacks (Err fault) new = ⊥

abbrev pub HearsNacks : Config → SenderState → List Nack → Option FeedbackFault → Result Marked FeedbackFault → SenderState → Type 0
HearsNacks c old nacks None answer new = MarksNamed c old nacks answer new
HearsNacks c old nacks (Some fault) answer new = (answer ≡ Err fault) × (new ≡ old)

abbrev pub HearsSaid : Config → SenderState → Result (List Nack) FeedbackFault → Result Marked FeedbackFault → SenderState → Type 0
HearsSaid c old (Ok nacks) answer new = HearsNacks c old nacks (first_wrong c nacks) answer new
HearsSaid c old (Err fault) answer new = (answer ≡ Err fault) × (new ≡ old)

-- One datagram at a sender.
pub record HearsFeedback (c : Config) (old : SenderState) (octets : List ℕ) (answer : Result Marked FeedbackFault) (new : SenderState) : Type 0 where
  pub said : Result (List Nack) FeedbackFault
  pub says : ReadsFeedback octets said
  pub heard : HearsSaid c old said answer new

-- one NACK's numbers are marked
abbrev pub MarksAlone : Config → SenderState → Nack → Result Marked FeedbackFault → SenderState → Type 0
MarksAlone c old nack (Ok marked) new = Marks c.repeats (Names nack.pairs) old marked.places new
MarksAlone c old nack (Err fault) new = ⊥

-- What follows for a caller that has no interest in octets: feedback marks for the numbers of some NACKs, or it is
-- refused and changes nothing.
abbrev pub MarksOrRefuses : Config → SenderState → Result Marked FeedbackFault → SenderState → Type 0
MarksOrRefuses c old (Ok marked) new = (nacks : List Nack) × Marks c.repeats (NacksName nacks) old marked.places new
MarksOrRefuses c old (Err fault) new = new ≡ old
