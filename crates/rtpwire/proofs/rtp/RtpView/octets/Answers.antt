use Rattle.std.proofs.Common.{subst}
use Rattle.rtpwire.specs.Rtp.{RtpPacket, RtpSpells}
use Rattle.rtpwire.proofs.Seen.{seen-spelled}
use Rattle.rtpwire.proofs.rtp.RtpView.octets.Goals as goal

pub returns : goal.returns
returns c =
    let octets = c.self.inside.octets.now in
    subst (λ (p : RtpPacket). RtpSpells p octets) c.self.view_is (seen-spelled octets c.self.invariant.are_octets c.self.invariant.passes)
