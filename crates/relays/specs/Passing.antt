-- What passes between a relay and what is outside, where that is told. The oldest passage is first.
use Rattle.std.specs.Prelude.{◌≡◌, ℕ, ◌≤◌, List, [], ◌∷◌, ◌++◌, take, Option, Some, None, IfSome}
use Rattle.arrayvec.specs.ArrayVec.{ArrayVec}
use Rattle.rtpwire.specs.declared.limits.TheConstants.{MAX_DATAGRAM}
use Rattle.std.specs.declared.net.socket_addr.SocketAddr.{SocketAddr}
use Rattle.relays.specs.declared.outside.Side.{Side}
use Rattle.relays.specs.declared.outside.Passage.{Passage}
use Rattle.relays.specs.declared.outside.Passage.TheVariants.{Waits, Came, Idle, Left, Failed}
use Rattle.relays.specs.declared.outside.Meeting.{Meeting}
use Rattle.relays.specs.declared.relay.Departure.{Departure}
use Rattle.relays.specs.declared.relay.Turn.{Turn}

-- What was told grew by these passages. One that tells nothing is held to nothing.
abbrev pub Grows : Option (List Passage) → List Passage → Option (List Passage) → Type 0
Grows None added new = Unit {0}
Grows (Some told) added new = new ≡ Some (told ++ added)

-- what passed at the end of a wait
abbrev pub passage_at : (came : Option (Side × SocketAddr)) → (now : ℕ) → ArrayVec ℕ → Passage
passage_at None now octets = Idle now
passage_at (Some c) now octets = Came c.0 c.1 octets now

abbrev pub passage_of : Meeting → ArrayVec ℕ → Passage
passage_of meeting octets = passage_at meeting.came meeting.now octets

-- a wait until a moment, and how it ended
abbrev pub met : (until : Option ℕ) → Meeting → ArrayVec ℕ → List Passage
met until meeting octets = Waits until ∷ passage_of meeting octets ∷ []

abbrev pub met_failure : (until : Option ℕ) → List Passage
met_failure until = Waits until ∷ Failed ∷ []

-- a datagram that leaves has no more octets than a datagram may have
abbrev pub IsWithin : Turn → Type 0
IsWithin turn = IfSome turn.leaves (λ departure. departure.len ≤ MAX_DATAGRAM)

-- what leaves: the octets at the front of what was written
abbrev pub departed : Option Departure → (out : List ℕ) → List Passage
departed None out = []
departed (Some d) out = Left d.side d.to (record { items = take d.len out }) ∷ []

abbrev pub left_by : Turn → (out : List ℕ) → List Passage
left_by turn out = departed turn.leaves out
