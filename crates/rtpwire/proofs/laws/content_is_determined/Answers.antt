use Rattle.std.proofs.Common.{ap}
use Rattle.rtpwire.specs.Rtp.{RtpPacket}
use Rattle.rtpwire.proofs.Carries.{carries, not_too_long}
use Rattle.rtpwire.proofs.Repairs.{one_content}
use Rattle.rtpwire.proofs.laws.content_is_determined.Goals as goal

pub returns-clause-one : goal.returns-clause-one
returns-clause-one c = λ a b m n s t u v x y same. (
  one_content a b m n s t u v x y same,
  ap (λ (p : RtpPacket). p.padding) same,
  ap (λ (p : RtpPacket). p.sequence) same,
  ap (λ (p : RtpPacket). p.payload_type) same,
  ap (λ (p : RtpPacket). p.ssrc) same,
)

pub returns-clause-held : goal.returns-clause-held
returns-clause-held c = not_too_long

pub returns-clause-carried : goal.returns-clause-carried
returns-clause-carried c = carries
