use Rattle.std.proofs.Common.{◌≡◌, Err, None, Ok, Result}
use Rattle.rtpwire.specs.Rtp.{RtpPacket}
use Rattle.rtpwire.specs.declared.fault.RtpFault.{RtpFault}
use Rattle.endpoint.proofs.receiving.ReceivingEndpoint.hear_packet.Goals as goal

pub returns-in-Err-clause-hears : goal.returns-in-Err-clause-hears
returns-in-Err-clause-hears g c =
    record {
      number = None;
      is_number = λ p spelled. let none : ◌≡◌ {A = Result RtpPacket RtpFault} (Err c.in-Err.field-0) (Ok p) = c.in-Err.ensures.only p spelled in absurd cc;
      spelled = tt;
      heard = c.hear_unread.ensures c.args.self.now.probation c.args.self.now.spare c.args.self.now.run;
    }
