-- The checks of a sender in their order, each as a condition on the octets or on the sender before. `Feedback` and
-- `Sending` have the same orders in the way that they are written.
use Rattle.std.specs.Prelude.{◌≡◌, ◌≢◌, ◌⊎◌, ℕ, ◌^◌, ◌<◌, ◌≤◌, false, List, [], ◌∷◌, ◌++◌, All}
use Rattle.rtpwire.specs.declared.content.Content.{Content}
use Rattle.fbwire.specs.Nack.{Nack}
use Rattle.fbwire.specs.CompoundReading.{nacks_in}
use Rattle.fbwire.specs.Order.{compound_order}
use Rattle.sender.specs.Config.{Config}
use Rattle.sender.specs.History.{SenderState}

-- a NACK is from another than the session's receiver, and others are not taken
abbrev pub IsStranger : Config → Nack → Type 0
IsStranger c nack = (c.any_reporter ≡ false) × (nack.reporter ≢ c.session.receiver_ssrc)

-- of NACKs, one after another: whether it is for the session's media, and from its receiver (RFC 4585, section 6.1)
abbrev pub session_order : Config → List Nack → List (ℕ × Type 0)
session_order c [] = []
session_order c (nack ∷ nacks) =
    (18, nack.media ≢ c.session.media_ssrc) ∷ (19, IsStranger c nack) ∷ session_order c nacks

-- of a feedback datagram: all its octets, and then its NACKs
unfoldable pub feedback_order : Config → List ℕ → List (ℕ × Type 0)
feedback_order c octets = compound_order octets ++ session_order c (nacks_in octets)

-- no NACK is of the session: each is for another media, or from a stranger
abbrev pub NoneOfSession : Config → List Nack → Type 0
NoneOfSession c nacks = All (λ (nack : Nack). (nack.media ≢ c.session.media_ssrc) ⊎ IsStranger c nack) nacks

-- of NACKs that several senders share: whether one is of the session; where none is, the first decides
abbrev pub sharing_order : Config → List Nack → List (ℕ × Type 0)
sharing_order c [] = []
sharing_order c (nack ∷ nacks) =
    (18, NoneOfSession c (nack ∷ nacks) × (nack.media ≢ c.session.media_ssrc)) ∷ (19, NoneOfSession c (nack ∷ nacks)) ∷ []

-- of a feedback datagram that several senders share: all its octets, and then its NACKs
unfoldable pub shared_order : Config → List ℕ → List (ℕ × Type 0)
shared_order c octets = compound_order octets ++ sharing_order c (nacks_in octets)

-- of a content that is to be sent with so much padding
abbrev pub send_order : SenderState → Content → (padding : ℕ) → List (ℕ × Type 0)
send_order old content padding =
    (44, (0 < padding) × (content.payload.items ≡ [])) ∷ (45, 2 ^ 48 ≤ old.next) ∷ []

-- of a configuration: a packet may be retransmitted at least once
abbrev pub config_order : (repeats : ℕ) → List (ℕ × Type 0)
config_order repeats = (53, repeats ≡ 0) ∷ []
