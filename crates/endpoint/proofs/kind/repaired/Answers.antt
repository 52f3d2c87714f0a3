use Rattle.std.proofs.Common.{◌≡◌, Ok, Err, Result}
use Rattle.rtpwire.specs.Rtp.{RtpPacket}
use Rattle.rtpwire.specs.declared.fault.RtpFault.{RtpFault}
use Rattle.endpoint.proofs.RepairsFound.{of_packet}
use Rattle.endpoint.proofs.kind.repaired.Goals as goal

pub returns-in-Ok : goal.returns-in-Ok
returns-in-Ok c =
    of_packet c.args.session.now c.args.highest c.args.octets.now c.in-Ok.view c.in-Ok.ensures.spelled
    (λ p spelled.
    let one : ◌≡◌ {A = Result RtpPacket RtpFault} (Ok c.in-Ok.view) (Ok p) = c.in-Ok.ensures.only p spelled in
    let same : c.in-Ok.view ≡ p = cc in
    same)
    c.repaired_by.result c.repaired_by.ensures

pub returns-in-Err : goal.returns-in-Err
returns-in-Err c = λ q it. let none : ◌≡◌ {A = Result RtpPacket RtpFault} (Err c.in-Err.field-0) (Ok it.packet) = c.in-Err.ensures.only it.packet it.spelled in absurd cc
