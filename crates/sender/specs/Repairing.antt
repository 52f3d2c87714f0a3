-- What a sender answers when it is asked for a retransmission, and the octets that it writes.
use Rattle.std.specs.Prelude.{◌≡◌, ℕ, ◌<◌, List, length, take, Option, Some, None, Result, Ok, Err}
use Rattle.arrayvec.specs.ArrayVec.{ArrayVec}
use Rattle.places.specs.Place.{number}
use Rattle.rtpwire.specs.declared.fault.TooShort.{TooShort}
use Rattle.rtpwire.specs.Buffer.{WritesFront}
use Rattle.rtpwire.specs.Rtp.{written}
use Rattle.rtpwire.specs.Retransmission.{RepairSpells, repair_of, repair_packet}
use Rattle.rtpwire.specs.Session.{Streams}
use Rattle.stores.specs.declared.entry.HistoryEntry.{HistoryEntry}
use Rattle.sender.specs.History.{SenderState, Repairs, IsLeastMarked, NoneMarked}

-- The place's content is retransmitted (RFC 4588, section 4): the octets spell it under the place's sequence
-- number as that of the original, and under the next number of the retransmission stream.
pub record RepairsAt (s : Streams) (old : SenderState) (place : ℕ) (octets : List ℕ) (new : SenderState) : Type 0 where
  pub entry : HistoryEntry
  pub repairs : Repairs old place entry new
  pub spells : RepairSpells entry.content (number place) old.repair s.repair_type s.repair_ssrc octets

-- the answer of a retransmission into a datagram that the caller lends, with the datagram
abbrev pub repaired_in : ArrayVec ℕ → Option ℕ → Option (ℕ × ArrayVec ℕ)
repaired_in datagram (Some place) = Some (place, datagram)
repaired_in datagram None = None

-- There is a retransmission exactly where a place is marked; else nothing changes.
abbrev pub RepairsAny : Streams → SenderState → Option (ℕ × ArrayVec ℕ) → SenderState → Type 0
RepairsAny s old (Some sent) new = RepairsAt s old sent.0 sent.1.items new
RepairsAny s old None new = NoneMarked old × (new ≡ old)

-- the answer of a retransmission to the front of a slice, with the octets there as its datagram
abbrev pub repaired_into : List ℕ → Option (ℕ × ℕ) → Option (ℕ × ArrayVec ℕ)
repaired_into out (Some sent) = Some (sent.0, record { items = take sent.1 out })
repaired_into out None = None

-- of a slice only the datagram's octets are written
abbrev pub WritesRepair : List ℕ → Option (ℕ × ℕ) → List ℕ → Type 0
WritesRepair out (Some sent) out' = WritesFront sent.1 out out'
WritesRepair out None out' = out' ≡ out

-- The retransmission of the least marked place has so many octets.
pub record NeedsRoom (s : Streams) (old : SenderState) (needed : ℕ) : Type 0 where
  pub place : ℕ
  pub entry : HistoryEntry
  pub is_next : IsLeastMarked old place entry
  pub octets : needed ≡ length (written (repair_packet (repair_of entry.content (number place) old.repair s.repair_type s.repair_ssrc)))

-- What is answered where the octets go to the front of a slice: a retransmission as any other, or none, and where the
-- slice has no room for it, how many octets it has; then nothing changes.
abbrev pub RepairsInto : Streams → SenderState → List ℕ → Result (Option (ℕ × ℕ)) TooShort → List ℕ → SenderState → Type 0
RepairsInto s old out (Ok answer) out' new = RepairsAny s old (repaired_into out' answer) new × WritesRepair out answer out'
RepairsInto s old out (Err short) out' new = NeedsRoom s old short.needed × (length out < short.needed) × (out' ≡ out) × (new ≡ old)
