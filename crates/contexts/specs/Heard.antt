-- What is heard under a key: what the other end protected, as it was before, or what has a tag that somebody else made.
use Rattle.std.specs.Prelude.{◌≡◌, ℕ, true, ◌<◌, ◌^◌, List, ◌++◌, Contains, None}
use Rattle.srtp.specs.Derivation.{Keys}
use Rattle.srtp.specs.Header.{header_fault, header_len, ssrc_of}
use Rattle.srtp.specs.Rtcp.{before_trailer, is_rtcp_tagged, rtcp_fault, rtcp_protected, rtcp_turned, trailer_in}
use Rattle.srtp.specs.Seal.{enciphered}
use Rattle.srtp.specs.Stream.{body_of, index_at, is_tagged, protected, tag_in}
use Rattle.contexts.specs.Controls.{control_index}
use Rattle.contexts.specs.Inbound.{new_context}

-- A packet of RTP is heard under a rollover counter: its tag is right by that, and it comes out as these keys decrypt
-- it, with the tag behind it.
pub record Hears (keys : Keys) (came opened : List ℕ) : Type 0 where
  pub rollover : ℕ
  pub tag : is_tagged keys (index_at rollover (body_of came)) came ≡ true
  pub is : opened ≡ enciphered keys (header_len (body_of came)) (ssrc_of (body_of came)) (index_at rollover (body_of came)) (body_of came) ++ tag_in came

-- And so is one of RTCP, under the index that it says.
pub record HearsControl (keys : Keys) (came opened : List ℕ) : Type 0 where
  pub tag : is_rtcp_tagged keys came ≡ true
  pub is : opened ≡ (rtcp_turned keys (control_index came) (before_trailer (body_of came)) ++ trailer_in (body_of came)) ++ tag_in came

-- a packet that was protected, under which rollover counter or, of RTCP, under which index, and what left
pub record Sealed : Type 0 where
  pub number : ℕ
  pub packet : List ℕ
  pub datagram : List ℕ

-- it is of RTP,
pub record IsSealed (keys : Keys) (s : Sealed) : Type 0 where
  pub header : header_fault s.packet ≡ None
  pub is : s.datagram ≡ protected (new_context keys (ssrc_of s.packet) s.number) (index_at s.number s.packet) s.packet

-- or of RTCP
pub record IsSealedControl (keys : Keys) (s : Sealed) : Type 0 where
  pub ssrc : ℕ
  pub source : rtcp_fault ssrc s.packet ≡ None
  pub index : s.number < 2 ^ 31
  pub is : s.datagram ≡ rtcp_protected keys s.number s.packet

-- A packet left as this datagram.
abbrev pub LeavesSealed : Keys → (packet datagram : List ℕ) → Type 0
LeavesSealed keys packet datagram = (rollover : ℕ) × IsSealed keys (record { number = rollover; packet = packet; datagram = datagram })

abbrev pub LeavesSealedControl : Keys → (packet datagram : List ℕ) → Type 0
LeavesSealedControl keys packet datagram = (index : ℕ) × IsSealedControl keys (record { number = index; packet = packet; datagram = datagram })

-- What came is among what was protected, and what is heard is that packet, with what stands behind it.
pub record WasSealed (made : List Sealed) (came opened behind : List ℕ) : Type 0 where
  pub sealed : Sealed
  pub among : Contains made sealed
  pub is : sealed.datagram ≡ came
  pub same : opened ≡ sealed.packet ++ behind

-- Nobody who protected these made the tag that what came has under a rollover counter,
pub record IsForged (keys : Keys) (made : List Sealed) (came : List ℕ) : Type 0 where
  pub rollover : ℕ
  pub tag : is_tagged keys (index_at rollover (body_of came)) came ≡ true
  pub strange : (s : Sealed) → Contains made s → s.number ≡ rollover → s.datagram ≡ came → ⊥

-- or that of RTCP
pub record IsForgedControl (keys : Keys) (made : List Sealed) (came : List ℕ) : Type 0 where
  pub tag : is_rtcp_tagged keys came ≡ true
  pub strange : (s : Sealed) → Contains made s → s.datagram ≡ came → ⊥
