-- What leaves under a master key: a context for each SSRC, none of which is forgotten. For a context that began anew
-- would protect other packets under indices that were used, and whoever has both can read both (RFC 3711, section 9.1).
use Rattle.std.specs.Prelude.{◌≡◌, ℕ, [], List, ◌+◌, nat_eq, IsSome}
use Rattle.std.specs.Global.{Box}
use Rattle.std.specs.Map.{lookup, set_value}
use Rattle.lru.specs.LruCache.{LruCache, lru_cache}
use Rattle.srtp.specs.Derivation.{Keys, IsMaster, rtp_keys, rtcp_keys}
use Rattle.srtp.specs.Rtcp.{Sending, IsSending, before_trailer, rtcp_protected}
use Rattle.srtp.specs.Stream.{Context, IsStream, body_of, index_in, protected, with_taken}
use Rattle.srtp.specs.declared.keys.Profile.{Profile}
use Rattle.srtp.specs.declared.rtcp.RtcpSender.{RtcpSender}
use Rattle.srtp.specs.declared.stream.Stream.{Stream}
use Rattle.contexts.specs.Inbound.{Contexts, begun}
use Rattle.contexts.specs.Own.{EachOwn, IsOwnSender, IsOwnStream}
use Rattle.contexts.specs.declared.outbound.Outbound.{Outbound}
use Rattle.contexts.specs.declared.outbound.TheConstants.{SENT}

-- what leaves is protected with the keys that a profile derives from this master key
pub record IsSealedWith (outbound : Outbound) (profile : Profile) (key salt : List ℕ) : Type 0 where
  pub profile_is : outbound.profile ≡ profile
  pub master : IsMaster outbound.master key salt
  pub streams : EachOwn (IsOwnStream SENT (rtp_keys profile key salt)) outbound.streams
  pub controls : EachOwn (IsOwnSender (rtcp_keys profile key salt)) outbound.controls

-- the contexts with that of an SSRC as it is now
abbrev pub with_context : {V : Type 0} → (ssrc : ℕ) → V → LruCache ℕ V → LruCache ℕ V
with_context ssrc now contexts = lru_cache (set_value (nat_eq ssrc) contexts.entries now) contexts.cap

-- each SSRC that has a context keeps one
abbrev pub Remembers : {V : Type 0} → (old new : LruCache ℕ V) → Type 0
Remembers old new = (other : ℕ) → IsSome (lookup (nat_eq other) old.entries) → IsSome (lookup (nat_eq other) new.entries)

-- the context of an SSRC before its first packet
abbrev pub first_context : Keys → (ssrc : ℕ) → Context
first_context keys ssrc = record { keys = keys; ssrc = ssrc; rollover = 0; len = SENT; taken = [] }

-- A packet of an SSRC is protected in its context.
pub record Seals (ssrc : ℕ) (context : Context) (packet sealed : List ℕ) (old new : Contexts (Stream SENT)) : Type 0 where
  pub after : Box (Stream SENT)
  pub is : sealed ≡ protected context (index_in context (body_of packet)) (body_of packet)
  pub taken : IsStream SENT after.value (with_taken context (index_in context (body_of packet)))
  pub kept : new ≡ with_context ssrc after old

-- The context of an SSRC begins,
pub record StreamBegins (keys : Keys) (ssrc : ℕ) (old new : Contexts (Stream SENT)) : Type 0 where
  pub stream : Box (Stream SENT)
  pub fresh : IsStream SENT stream.value (first_context keys ssrc)
  pub kept : new ≡ begun ssrc stream old

-- and a packet is the first that is protected in it.
pub record SealsFirst (keys : Keys) (ssrc : ℕ) (packet sealed : List ℕ) (old new : Contexts (Stream SENT)) : Type 0 where
  pub stream : Box (Stream SENT)
  pub sealed_is : Seals ssrc (first_context keys ssrc) packet sealed (begun ssrc stream old) new

-- the same of RTCP, whose indices count from 0

abbrev pub first_sending : Keys → (ssrc : ℕ) → Sending
first_sending keys ssrc = record { keys = keys; ssrc = ssrc; next = 0 }

pub record SealsControl (ssrc : ℕ) (sending : Sending) (packet sealed : List ℕ) (old new : Contexts RtcpSender) : Type 0 where
  pub after : Box RtcpSender
  pub is : sealed ≡ rtcp_protected sending.keys sending.next (before_trailer (body_of packet))
  pub taken : IsSending after.value (record sending { next = sending.next + 1 })
  pub kept : new ≡ with_context ssrc after old

pub record SenderBegins (keys : Keys) (ssrc : ℕ) (old new : Contexts RtcpSender) : Type 0 where
  pub sender : Box RtcpSender
  pub fresh : IsSending sender.value (first_sending keys ssrc)
  pub kept : new ≡ begun ssrc sender old

pub record SealsFirstControl (keys : Keys) (ssrc : ℕ) (packet sealed : List ℕ) (old new : Contexts RtcpSender) : Type 0 where
  pub sender : Box RtcpSender
  pub sealed_is : SealsControl ssrc (first_sending keys ssrc) packet sealed (begun ssrc sender old) new
