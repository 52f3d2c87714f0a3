-- Both tables of contexts have the keys of one master key.
use Rattle.std.specs.Prelude.{◌≡◌, ℕ, List}
use Rattle.srtp.specs.Derivation.{IsMaster, AreKeys, rtp_keys, rtcp_keys}
use Rattle.srtp.specs.declared.keys.Profile.{Profile}
use Rattle.contexts.specs.Own.{EachOwn, IsOwnReceiver, IsOwnStream}
use Rattle.contexts.specs.declared.inbound.Inbound.{Inbound}
use Rattle.contexts.specs.declared.inbound.TheConstants.{INDICES}

-- what comes is opened with the keys that a profile derives from this master key
pub record IsKeyed (inbound : Inbound) (profile : Profile) (key salt : List ℕ) : Type 0 where
  pub profile_is : inbound.profile ≡ profile
  pub master : IsMaster inbound.master key salt
  pub rtp : AreKeys inbound.rtp (rtp_keys profile key salt)
  pub rtcp : AreKeys inbound.rtcp (rtcp_keys profile key salt)
  pub streams : EachOwn (IsOwnStream INDICES (rtp_keys profile key salt)) inbound.streams
  pub controls : EachOwn (IsOwnReceiver (rtcp_keys profile key salt)) inbound.controls
