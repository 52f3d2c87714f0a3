use Rattle.std.proofs.Common.{◌≡◌, None, Ok, Err, Result, Some, is_some, subst}
use Rattle.rtpwire.specs.Rtp.{RtpPacket}
use Rattle.rtpwire.specs.declared.fault.RtpFault.{RtpFault}
use Rattle.payload_types.specs.Folding.{FitsAs, in_session}
use Rattle.payload_types.specs.Types.{pair_of_media}
use Rattle.payload_types.proofs.types.PayloadTypes.enter.Goals as goal

pub returns-in-Ok-clause-strange : goal.returns-in-Ok-clause-strange
returns-in-Ok-clause-strange c = λ p spelled none.
    let one : ◌≡◌ {A = Result RtpPacket RtpFault} (Ok c.in-Ok.view) (Ok p) = c.in-Ok.ensures.only p spelled in
    let same : p ≡ c.in-Ok.view = cc in
    c.enter_packet.ensures.strange (subst (λ (v : RtpPacket). in_session c.args.self.now v ≡ None) same none)

pub returns-in-Ok-clause-kept : goal.returns-in-Ok-clause-kept
returns-in-Ok-clause-kept c = λ p q spelled is.
    let one : ◌≡◌ {A = Result RtpPacket RtpFault} (Ok c.in-Ok.view) (Ok p) = c.in-Ok.ensures.only p spelled in
    let same : p ≡ c.in-Ok.view = cc in
    let back : c.in-Ok.view ≡ p = cc in
    subst (λ (v : RtpPacket). FitsAs (is_some (pair_of_media c.args.self.now v.payload_type)) q c.enter_packet.result c.enter_packet.new.out) back
    (c.enter_packet.ensures.kept q (subst (λ (v : RtpPacket). in_session c.args.self.now v ≡ Some q) same is))

pub returns-in-Err-clause-kept : goal.returns-in-Err-clause-kept
returns-in-Err-clause-kept c = λ p q spelled is.
    let none : ◌≡◌ {A = Result RtpPacket RtpFault} (Err c.in-Err.field-0) (Ok p) = c.in-Err.ensures.only p spelled in absurd cc
