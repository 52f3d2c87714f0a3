-- What protects the packets of one SSRC, and what it refuses (RFC 3711, sections 3.2.1 and 3.3).
use Rattle.std.specs.Prelude.{◌≡◌, ℕ, Bool, ◌+◌, ◌-◌, ◌*◌, ◌/◌, ◌^◌, ◌==◌, not, nat_lt, List, ◌∷◌, ◌++◌, length, take, drop, Option, None, if◌then◌else◌}
use Rattle.std.specs.Option.{option_map}
use Rattle.srtp.specs.Derivation.{Keys, AreKeys}
use Rattle.srtp.specs.Fault.{of_replay, or_else, fault_if}
use Rattle.srtp.specs.Header.{header_len, header_fault, sequence_of, ssrc_of}
use Rattle.srtp.specs.Index.{guessed_index}
use Rattle.srtp.specs.Replay.{next_of, replay_fault, Remembers}
use Rattle.srtp.specs.Seal.{enciphered, tag_of, rollover_octets, same_octets}
use Rattle.srtp.specs.declared.fault.SrtpFault.{SrtpFault}
use Rattle.srtp.specs.declared.fault.SrtpFault.TheVariants.{WrongSource, KeyEnd, TooOld, WrongTag}
use Rattle.srtp.specs.declared.stream.Stream.{Stream}

-- the cryptographic context of an SSRC, with the rollover counter of the first packet, how many places the replay list has, and
-- the indices that were taken, newest first
pub record Context : Type 0 where
  pub keys : Keys
  pub ssrc : ℕ
  pub rollover : ℕ
  pub len : ℕ
  pub taken : List ℕ

-- the context once a packet with this index is taken
abbrev pub with_taken : Context → ℕ → Context
with_taken context index = record context { taken = index ∷ context.taken }

-- the rollover counter of the highest index that was taken, or of the first packet
abbrev pub rollover_of : Context → ℕ
rollover_of context = if next_of context.taken == 0 then context.rollover else (next_of context.taken - 1) / 65536

-- the index of a packet with this number: of the first one by the rollover counter that was given, and then as it is guessed
unfoldable pub index_of : (rollover : ℕ) (taken : List ℕ) → ℕ → ℕ
index_of rollover taken seq =
    if next_of taken == 0 then 65536 * rollover + seq else guessed_index (next_of taken - 1) seq

-- A guess is modulo 2^48. One that has gone round lies half of that away from the highest index or more: behind the last index
-- the key has come to its end, and before the first one a packet is too old.
unfoldable pub guess_fault : List ℕ → ℕ → Option SrtpFault
guess_fault taken index =
    if next_of taken == 0
    then None
    else or_else (fault_if (nat_lt (index + 2 ^ 47) (next_of taken)) KeyEnd) (fault_if (nat_lt (next_of taken + 2 ^ 47) index) TooOld)

-- the index of these octets
abbrev pub index_in : Context → List ℕ → ℕ
index_in context octets = index_of context.rollover context.taken (sequence_of octets)

-- the first check that fails of a packet without its tag
unfoldable pub packet_fault : Context → List ℕ → Option SrtpFault
packet_fault context octets =
    or_else (header_fault octets)
    (or_else (fault_if (not (ssrc_of octets == context.ssrc)) WrongSource)
    (or_else (guess_fault context.taken (index_in context octets))
    (option_map of_replay (replay_fault context.len context.taken (index_in context octets)))))

-- a packet with this index, encrypted or decrypted
abbrev pub turned : Context → ℕ → List ℕ → List ℕ
turned context index octets = enciphered context.keys (header_len octets) (ssrc_of octets) index octets

-- a packet as it is protected, with its tag
abbrev pub protected : Context → ℕ → List ℕ → List ℕ
protected context index octets =
    let body = turned context index octets in
    body ++ tag_of context.keys body (rollover_octets index)

-- a protected packet without its tag of 10 octets, and that tag
abbrev pub body_of : List ℕ → List ℕ
body_of packet = take (length packet - 10) packet

abbrev pub tag_in : List ℕ → List ℕ
tag_in packet = drop (length packet - 10) packet

-- whether a protected packet has the tag that keys make of it with the rollover counter of an index
abbrev pub is_tagged : Keys → ℕ → List ℕ → Bool
is_tagged keys index packet = same_octets (tag_of keys (body_of packet) (rollover_octets index)) (tag_in packet)

-- the check of a protected packet's tag
abbrev pub tag_fault : Context → ℕ → List ℕ → Option SrtpFault
tag_fault context index packet = fault_if (not (is_tagged context.keys index packet)) WrongTag

-- the first check that a protected packet fails: those of a packet, and then that of its tag
unfoldable pub unprotect_fault : Context → List ℕ → Option SrtpFault
unprotect_fault context packet =
    or_else (packet_fault context (body_of packet)) (tag_fault context (index_in context (body_of packet)) packet)

-- the index of these octets by a rollover counter that is said, and not guessed
abbrev pub index_at : (rollover : ℕ) → List ℕ → ℕ
index_at rollover octets = 65536 * rollover + sequence_of octets

-- the first check that a packet fails without its tag, and with it, where it has this index
unfoldable pub packet_fault_at : Context → ℕ → List ℕ → Option SrtpFault
packet_fault_at context index octets =
    or_else (header_fault octets)
    (or_else (fault_if (not (ssrc_of octets == context.ssrc)) WrongSource) (option_map of_replay (replay_fault context.len context.taken index)))

unfoldable pub unprotect_fault_at : Context → ℕ → List ℕ → Option SrtpFault
unprotect_fault_at context index packet = or_else (packet_fault_at context index (body_of packet)) (tag_fault context index packet)

-- what was sent is taken as this packet
pub record IsOpened (receiving : Context) (packet sent : List ℕ) : Type 0 where
  pub taken : unprotect_fault receiving sent ≡ None
  pub same : turned receiving (index_in receiving (body_of sent)) (body_of sent) ≡ packet

-- the stream, whose replay list has so many places, has this context
pub record IsStream (len : ℕ) (stream : Stream len) (context : Context) : Type 0 where
  pub len_is : context.len ≡ len
  pub keys : AreKeys stream.keys context.keys
  pub ssrc : stream.ssrc ≡ context.ssrc
  pub rollover : stream.rollover ≡ context.rollover
  pub taken : Remembers context.len stream.replay.next stream.replay.places context.taken
