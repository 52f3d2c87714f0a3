-- What comes of RTCP under a master key: a context for each SSRC, which the first packet that has a right tag begins.
use Rattle.std.specs.Prelude.{◌≡◌, ℕ, true, [], ◌∷◌, List, ◌++◌, None}
use Rattle.std.specs.Global.{Box}
use Rattle.srtp.specs.Derivation.{Keys}
use Rattle.srtp.specs.Replay.{replay_fault}
use Rattle.srtp.specs.Stream.{body_of, tag_in}
use Rattle.srtp.specs.Rtcp.{Receiving, IsReceiving, sender_of, before_trailer, trailer_in, index_said, is_rtcp_tagged, rtcp_turned}
use Rattle.srtp.specs.declared.rtcp.RtcpReceiver.{RtcpReceiver}
use Rattle.contexts.specs.Inbound.{Contexts, begun, used}
use Rattle.contexts.specs.declared.inbound.TheConstants.{RTCP_INDICES}

-- the SSRC and the index of a protected packet of RTCP
abbrev pub control_source : List ℕ → ℕ
control_source packet = sender_of (before_trailer (body_of packet))

abbrev pub control_index : List ℕ → ℕ
control_index packet = index_said (trailer_in (body_of packet))

-- The packet is taken: its tag is right, its index was not taken before and is not too old, and it comes out as it was
-- before it was protected, with E, the index and the tag behind it.
pub record OpensControl (receiving : Receiving) (packet opened : List ℕ) (after : RtcpReceiver RTCP_INDICES) : Type 0 where
  pub tag : is_rtcp_tagged receiving.keys packet ≡ true
  pub fresh : replay_fault receiving.len receiving.taken (control_index packet) ≡ None
  pub is : opened ≡ (rtcp_turned receiving.keys (control_index packet) (before_trailer (body_of packet)) ++ trailer_in (body_of packet)) ++ tag_in packet
  pub taken : IsReceiving RTCP_INDICES after (record receiving { taken = control_index packet ∷ receiving.taken })

-- the context of an SSRC before its first packet
abbrev pub new_receiving : Keys → (ssrc : ℕ) → Receiving
new_receiving keys ssrc = record { keys = keys; ssrc = ssrc; len = RTCP_INDICES; taken = [] }

-- A packet of an SSRC is taken in its context, which takes the place of the one before.
pub record ControlIn (ssrc : ℕ) (receiving : Receiving) (packet opened : List ℕ) (old new : Contexts (RtcpReceiver RTCP_INDICES)) : Type 0 where
  pub after : Box (RtcpReceiver RTCP_INDICES)
  pub opens : OpensControl receiving packet opened after.value
  pub kept : new ≡ used ssrc after old

-- The context of an SSRC begins,
pub record ControlBegins (keys : Keys) (ssrc : ℕ) (old new : Contexts (RtcpReceiver RTCP_INDICES)) : Type 0 where
  pub receiver : Box (RtcpReceiver RTCP_INDICES)
  pub fresh : IsReceiving RTCP_INDICES receiver.value (new_receiving keys ssrc)
  pub kept : new ≡ begun ssrc receiver old

-- and a packet is the first that is taken in it.
pub record ControlBeginsWith (keys : Keys) (ssrc : ℕ) (packet opened : List ℕ) (old new : Contexts (RtcpReceiver RTCP_INDICES)) : Type 0 where
  pub receiver : Box (RtcpReceiver RTCP_INDICES)
  pub taken : ControlIn ssrc (new_receiving keys ssrc) packet opened (begun ssrc receiver old) new
