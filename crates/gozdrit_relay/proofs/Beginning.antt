-- Which session a datagram may begin is told of the one packet that it spells.
use Rattle.std.proofs.Common.{◌≡◌, ℕ, false, List, Option, Some, None, Result, Ok, Err, subst}
use Rattle.rtpwire.specs.Rtp.{RtpPacket, RtpSpells}
use Rattle.rtpwire.specs.declared.fault.RtpFault.{RtpFault}
use Rattle.endpoint.specs.Demultiplex.{is_control}
use Rattle.gozdrit_relay.specs.declared.machine.Beginning.{Beginning}
use Rattle.gozdrit_relay.specs.Learning.{BeginsWith}

pub some_of : (p q : RtpPacket) → ◌≡◌ {A = Result RtpPacket RtpFault} (Ok p) (Ok q) → Some p ≡ Some q
some_of p q is = cc

pub none_of : (fault : RtpFault) (q : RtpPacket) → ◌≡◌ {A = Result RtpPacket RtpFault} (Err fault) (Ok q) → ◌≡◌ {A = Option RtpPacket} None (Some q)
none_of fault q is = cc

same : (p q : RtpPacket) → Some p ≡ Some q → p ≡ q
same p q is = cc

pub with_packet : (With : RtpPacket → Option Beginning → Type 0) (octets : List ℕ) (packet : RtpPacket) → is_control octets ≡ false → RtpSpells packet octets
    → ((p : RtpPacket) → is_control octets ≡ false → RtpSpells p octets → Some packet ≡ Some p) → (b : Option Beginning) → With packet b → BeginsWith With octets b
with_packet With octets packet plain spells only None holds = λ plain p its. subst (λ q. With q None) (same packet p (only p plain its)) holds
with_packet With octets packet plain spells only (Some b) holds = (plain, packet, spells, holds)

pub without_packet : (With : RtpPacket → Option Beginning → Type 0) (octets : List ℕ) → ((p : RtpPacket) → is_control octets ≡ false → RtpSpells p octets → None ≡ Some p) → BeginsWith With octets None
without_packet With octets only = λ plain p its. absurd (cc (only p plain its))
