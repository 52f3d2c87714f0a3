-- What lies on the wire, by the log.
use Rattle.std.specs.Prelude.{◌≡◌, ℕ, ◌+◌, ◌≤◌, ◌%◌, ◌==◌, Bool, false, List, [], ◌∷◌, ◌++◌, length, take}
use Rattle.std.specs.List.Sorted.{IsStrictlyIncreasing}
use Rattle.arrayvec.specs.ArrayVec.{ArrayVec}
use Rattle.places.specs.Place.{number}
use Rattle.rtpwire.specs.declared.content.Content.{Content}
use Rattle.rtpwire.specs.Rtp.{RtpSpells, written}
use Rattle.rtpwire.specs.Retransmission.{RepairSpells}
use Rattle.fbwire.specs.declared.nack.Pair.{Pair}
use Rattle.fbwire.specs.Nack.{NackSpells}
use Rattle.fbwire.specs.Packing.{IsPacking, IsNarrow}
use Rattle.stores.specs.Asking.{longest_ask}
use Rattle.sender.specs.Sending.{media_packet}
use Rattle.world.specs.declared.event.Label.{Label}
use Rattle.world.specs.declared.event.Label.TheVariants.{Media, Repair, Feedback}
use Rattle.world.specs.declared.event.Entry.{Entry}
use Rattle.world.specs.declared.event.Entry.TheVariants.{Sent, Repaired, Asked}
use Rattle.world.specs.Config.{Config}
use Rattle.world.specs.Answers.{Item, nack_of}
use Rattle.world.specs.Reading.{contents, repairs_in, WasSent}

-- The octets are those of a content that is sent after this log: at the next place, and spelled as its packet.
pub record IsSentAs (c : Config) (before : List Entry) (place : ℕ) (content : Content) (octets : List ℕ) : Type 0 where
  pub next : place ≡ 65536 + c.first + length (contents before)
  pub padding : ℕ
  pub spelled : RtpSpells (media_packet c.receiver.session content padding place) octets
  pub written_so : octets ≡ written (media_packet c.receiver.session content padding place)  -- its padding is zeros and the count

-- The octets are those of a place that is retransmitted after this log: it is among the last that were sent, so many
-- as the history keeps, and they spell the content that was sent there (RFC 4588, section 4). Retransmissions are
-- numbered one after another, modulo 65536.
pub record IsRepairedAs (c : Config) (before : List Entry) (place : ℕ) (octets : List ℕ) : Type 0 where
  pub content : Content
  pub was_sent : WasSent c before place content
  pub kept : 65536 + c.first + length (contents before) ≤ place + c.history
  pub spelled : RepairSpells content (number place) ((c.repair_first + repairs_in before) % 65536) c.receiver.session.repair_type c.receiver.session.repair_ssrc octets

-- The octets are those of an ask with these pairs: the pairs are the packing of the first `longest_ask` of some places
-- in rising order, or of all, and the octets spell the NACK of the pairs (RFC 4585, section 6.2.1).
pub record IsAskedAs (c : Config) (pairs : List Pair) (octets : List ℕ) : Type 0 where
  pub places : List ℕ
  pub covered : ℕ
  pub rising : IsStrictlyIncreasing places
  pub narrow : IsNarrow (take longest_ask places)
  pub packing : IsPacking (take longest_ask places) pairs covered
  pub spelled : NackSpells (nack_of c.receiver.session pairs) octets

-- The wire is what the log says, its latest datagram first: each entry that put one there put the last one, at
-- the index and under the label that it tells, and the octets are what it says was sent.
abbrev pub IsFaithful : Config → List Entry → List Item → Type 0
IsFaithful c [] wire = wire ≡ []
IsFaithful c (Sent place index content ∷ before) wire =
    (rest : List Item)
    × (datagram : ArrayVec ℕ)
    × (wire ≡ rest ++ (Media place, datagram) ∷ [])
    × (index ≡ length rest)
    × IsSentAs c before place content datagram.items
    × IsFaithful c before rest
IsFaithful c (Repaired place index ∷ before) wire =
    (rest : List Item)
    × (datagram : ArrayVec ℕ)
    × (wire ≡ rest ++ (Repair place, datagram) ∷ [])
    × (index ≡ length rest)
    × IsRepairedAs c before place datagram.items
    × IsFaithful c before rest
IsFaithful c (Asked index now ∷ before) wire =
    (rest : List Item)
    × (datagram : ArrayVec ℕ)
    × (pairs : ArrayVec Pair)
    × (wire ≡ rest ++ (Feedback pairs, datagram) ∷ [])
    × (index ≡ length rest)
    × IsAskedAs c pairs.items datagram.items
    × IsFaithful c before rest
IsFaithful c (entry ∷ before) wire = IsFaithful c before wire

-- how many octets a datagram has
abbrev pub size_of : Item → ℕ
size_of item = length item.1.items

-- whether a label is that of a retransmission of this place
abbrev pub is_repair_of : (place : ℕ) → Label → Bool
is_repair_of place (Media sent) = false
is_repair_of place (Repair repaired) = repaired == place
is_repair_of place (Feedback pairs) = false

-- a content was sent at the place, and these octets spell its retransmission under some number
pub record SpellsRepair (c : Config) (past : List Entry) (place : ℕ) (octets : List ℕ) : Type 0 where
  pub content : Content
  pub was_sent : WasSent c past place content
  pub sequence : ℕ
  pub spelled : RepairSpells content (number place) sequence c.receiver.session.repair_type c.receiver.session.repair_ssrc octets

-- what follows for a datagram of the wire: its octets spell what its label says
abbrev pub SpellsLabel : Config → List Entry → Label → List ℕ → Type 0
SpellsLabel c past (Media place) octets =
    (content : Content) × (padding : ℕ) × WasSent c past place content × RtpSpells (media_packet c.receiver.session content padding place) octets
SpellsLabel c past (Repair place) octets = SpellsRepair c past place octets
SpellsLabel c past (Feedback pairs) octets = NackSpells (nack_of c.receiver.session pairs.items) octets
