-- Each SSRC has a context of its own, under the keys of one master key.
use Rattle.std.specs.Prelude.{◌≡◌, ℕ, Contains}
use Rattle.std.specs.Global.{Box}
use Rattle.srtp.specs.Derivation.{Keys}
use Rattle.srtp.specs.Rtcp.{Receiving, IsReceiving, Sending, IsSending}
use Rattle.srtp.specs.Stream.{Context, IsStream}
use Rattle.srtp.specs.declared.rtcp.RtcpReceiver.{RtcpReceiver}
use Rattle.srtp.specs.declared.rtcp.RtcpSender.{RtcpSender}
use Rattle.srtp.specs.declared.stream.Stream.{Stream}
use Rattle.contexts.specs.Inbound.{Contexts}
use Rattle.contexts.specs.declared.inbound.TheConstants.{RTCP_INDICES}

-- a stream is that of an SSRC under these keys,
pub record IsOwnStream (len : ℕ) (keys : Keys) (ssrc : ℕ) (stream : Stream len) : Type 0 where
  pub context : Context
  pub is : IsStream len stream context
  pub source : context.ssrc ≡ ssrc
  pub keyed : context.keys ≡ keys

-- and so is what receives or sends its RTCP
pub record IsOwnReceiver (keys : Keys) (ssrc : ℕ) (receiver : RtcpReceiver RTCP_INDICES) : Type 0 where
  pub receiving : Receiving
  pub is : IsReceiving RTCP_INDICES receiver receiving
  pub source : receiving.ssrc ≡ ssrc
  pub keyed : receiving.keys ≡ keys

pub record IsOwnSender (keys : Keys) (ssrc : ℕ) (sender : RtcpSender) : Type 0 where
  pub sending : Sending
  pub is : IsSending sender sending
  pub source : sending.ssrc ≡ ssrc
  pub keyed : sending.keys ≡ keys

module _ {V : Type 0} (IsOwn : (ssrc : ℕ) → V → Type 0) where
  -- each context is that of its SSRC
  abbrev pub EachOwn : Contexts V → Type 0
  EachOwn contexts = (entry : ℕ × Box V) → Contains contexts.entries entry → IsOwn entry.0 entry.1.value
