use Rattle.std.proofs.Common.{◌≡◌, Ok, Err, Result}
use Rattle.rtpwire.specs.Rtp.{RtpPacket}
use Rattle.rtpwire.specs.declared.fault.RtpFault.{RtpFault}
use Rattle.endpoint.proofs.judging.media_number.Goals as goal

pub returns-in-Ok-clause-number : goal.returns-in-Ok-clause-number
returns-in-Ok-clause-number c = c.number_in.ensures.number c.args.octets.now c.in-Ok.ensures.spelled

pub returns-in-Ok-clause-spelled : goal.returns-in-Ok-clause-spelled
returns-in-Ok-clause-spelled c = c.number_in.ensures.spelled c.args.octets.now c.in-Ok.ensures.spelled

pub returns-in-Err-clause-number : goal.returns-in-Err-clause-number
returns-in-Err-clause-number c = λ p spelled. let none : ◌≡◌ {A = Result RtpPacket RtpFault} (Err c.in-Err.field-0) (Ok p) = c.in-Err.ensures.only p spelled in absurd cc
