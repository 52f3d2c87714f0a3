-- How packets of RTCP are protected (RFC 3711, section 3.4): what is behind the first eight octets is encrypted; then come the bit E
-- and the index, in 32 bits, and a tag that is made of all before it.
use Rattle.std.specs.Prelude.{◌≡◌, ℕ, Bool, true, false, ◌+◌, ◌-◌, ◌*◌, ◌/◌, ◌%◌, ◌^◌, ◌==◌, not, nat_lt, List, ◌++◌, length, take, drop, Option, None}
use Rattle.std.specs.Option.{option_map}
use Rattle.byteorder.specs.Endian.{big_number, big_bytes}
use Rattle.srtp.specs.Derivation.{Keys, AreKeys}
use Rattle.srtp.specs.Fault.{of_replay, or_else, fault_if}
use Rattle.srtp.specs.Header.{version_of}
use Rattle.srtp.specs.Replay.{replay_fault, Remembers}
use Rattle.srtp.specs.Seal.{enciphered, tag_of, same_octets}
use Rattle.srtp.specs.Stream.{body_of, tag_in}
use Rattle.srtp.specs.declared.fault.SrtpFault.{SrtpFault}
use Rattle.srtp.specs.declared.fault.SrtpFault.TheVariants.{Short, Version, WrongSource, KeyEnd, WrongFlag, WrongTag}
use Rattle.srtp.specs.declared.rtcp.RtcpSender.{RtcpSender}
use Rattle.srtp.specs.declared.rtcp.RtcpReceiver.{RtcpReceiver}

-- the SSRC of a packet's sender
abbrev pub sender_of : List ℕ → ℕ
sender_of octets = big_number 4 (drop 4 octets)

-- the first check that a packet of RTCP fails
unfoldable pub rtcp_fault : ℕ → List ℕ → Option SrtpFault
rtcp_fault ssrc octets =
    or_else (fault_if (nat_lt (length octets) 8) Short)
    (or_else (fault_if (not (version_of octets == 2)) Version) (fault_if (not (sender_of octets == ssrc)) WrongSource))

-- E, which says whether the packet is encrypted
abbrev pub flag_of : Bool → ℕ
flag_of true = 1
flag_of false = 0

-- E and the index of 31 bits
abbrev pub trailer : Keys → ℕ → List ℕ
trailer keys index = big_bytes 4 (flag_of keys.encrypts * 2 ^ 31 + index)

-- a packet with this index, encrypted or decrypted
abbrev pub rtcp_turned : Keys → ℕ → List ℕ → List ℕ
rtcp_turned keys index octets = enciphered keys 8 (sender_of octets) index octets

-- a packet as it is protected
abbrev pub rtcp_protected : Keys → ℕ → List ℕ → List ℕ
rtcp_protected keys index octets =
    let body = rtcp_turned keys index octets in
    body ++ trailer keys index ++ tag_of keys body (trailer keys index)

-- what stands before and in the last four octets
abbrev pub before_trailer : List ℕ → List ℕ
before_trailer octets = take (length octets - 4) octets

abbrev pub trailer_in : List ℕ → List ℕ
trailer_in octets = drop (length octets - 4) octets

-- what sends under an SSRC: its keys, and the index of the next packet
pub record Sending : Type 0 where
  pub keys : Keys
  pub ssrc : ℕ
  pub next : ℕ

-- After 2^31 packets a key has come to its end (section 9.2).
abbrev pub sending_fault : Sending → List ℕ → Option SrtpFault
sending_fault sending octets = or_else (rtcp_fault sending.ssrc octets) (fault_if (not (nat_lt sending.next (2 ^ 31))) KeyEnd)

pub record IsSending (sender : RtcpSender) (sending : Sending) : Type 0 where
  pub keys : AreKeys sender.keys sending.keys
  pub ssrc : sender.ssrc ≡ sending.ssrc
  pub next : sender.next ≡ sending.next

-- what receives from an SSRC: its keys, how many places its replay list has, and which indices were taken, newest first
pub record Receiving : Type 0 where
  pub keys : Keys
  pub ssrc : ℕ
  pub len : ℕ
  pub taken : List ℕ

-- the index that a trailer says
abbrev pub index_said : List ℕ → ℕ
index_said octets = big_number 4 octets % 2 ^ 31

-- whether a protected packet has the tag that keys make of it and its trailer
abbrev pub is_rtcp_tagged : Keys → List ℕ → Bool
is_rtcp_tagged keys packet =
    let front = body_of packet in
    same_octets (tag_of keys (before_trailer front) (trailer_in front)) (tag_in packet)

-- the check of a trailer: whether E is as the keys have it, and the index may be taken
unfoldable pub trailer_fault : Receiving → List ℕ → Option SrtpFault
trailer_fault receiving octets =
    or_else (fault_if (not (big_number 4 octets / 2 ^ 31 == flag_of receiving.keys.encrypts)) WrongFlag)
    (option_map of_replay (replay_fault receiving.len receiving.taken (index_said octets)))

-- the first check that a protected packet fails
unfoldable pub receiving_fault : Receiving → List ℕ → Option SrtpFault
receiving_fault receiving packet =
    let front = body_of packet in
    or_else (rtcp_fault receiving.ssrc (before_trailer front))
    (or_else (trailer_fault receiving (trailer_in front)) (fault_if (not (is_rtcp_tagged receiving.keys packet)) WrongTag))

-- what was sent is taken as this packet
pub record IsRtcpOpened (receiving : Receiving) (packet sent : List ℕ) : Type 0 where
  pub taken : receiving_fault receiving sent ≡ None
  pub same : rtcp_turned receiving.keys (index_said (trailer_in (body_of sent))) (before_trailer (body_of sent)) ≡ packet

pub record IsReceiving (len : ℕ) (receiver : RtcpReceiver len) (receiving : Receiving) : Type 0 where
  pub len_is : receiving.len ≡ len
  pub keys : AreKeys receiver.keys receiving.keys
  pub ssrc : receiver.ssrc ≡ receiving.ssrc
  pub taken : Remembers receiving.len receiver.replay.next receiver.replay.places receiving.taken
