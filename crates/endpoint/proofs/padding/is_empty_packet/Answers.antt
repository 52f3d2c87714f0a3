use Rattle.std.proofs.Common.{◌≡◌, ◌∙◌, Ok, Err, Result, ap}
use Rattle.rtpwire.specs.Rtp.{RtpPacket}
use Rattle.rtpwire.specs.declared.fault.RtpFault.{RtpFault}
use Rattle.endpoint.proofs.padding.is_empty_packet.Goals as goal

pub returns-in-Ok : goal.returns-in-Ok
returns-in-Ok c = (
  λ yes. let is = c.is_empty.ensures.0 yes in record { packet = c.in-Ok.view; spelled = c.in-Ok.ensures.spelled; empty = is.0; plain = is.1 },
  λ it.
      let one : ◌≡◌ {A = Result RtpPacket RtpFault} (Ok c.in-Ok.view) (Ok it.packet) = c.in-Ok.ensures.only it.packet it.spelled in
      let same : c.in-Ok.view ≡ it.packet = cc in
      c.is_empty.ensures.1 (ap (λ (p : RtpPacket). p.payload) same ∙ it.empty, ap (λ (p : RtpPacket). p.padding) same ∙ it.plain),
)

pub returns-in-Err : goal.returns-in-Err
returns-in-Err c = (λ yes. absurd cc, λ it. let none : ◌≡◌ {A = Result RtpPacket RtpFault} (Err c.in-Err.field-0) (Ok it.packet) = c.in-Err.ensures.only it.packet it.spelled in absurd cc)
