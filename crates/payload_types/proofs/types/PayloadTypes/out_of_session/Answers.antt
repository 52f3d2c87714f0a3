use Rattle.std.proofs.Common.{◌≡◌, None, Ok, Err, Result, Some, true, false, subst}
use Rattle.rtpwire.specs.Rtp.{RtpPacket}
use Rattle.rtpwire.specs.declared.fault.RtpFault.{RtpFault}
use Rattle.payload_types.specs.Folding.{FitsAs, is_media, is_of_session, on_network}
use Rattle.payload_types.proofs.types.PayloadTypes.out_of_session.Goals as goal

pub returns-in-Ok-clause-restored : goal.returns-in-Ok-clause-restored
returns-in-Ok-clause-restored c = λ p q spelled is.
    let one : ◌≡◌ {A = Result RtpPacket RtpFault} (Ok c.in-Ok.view) (Ok q) = c.in-Ok.ensures.only q spelled in
    let same : q ≡ c.in-Ok.view = cc in
    let back : c.in-Ok.view ≡ q = cc in
    subst (λ (v : RtpPacket). FitsAs (is_media c.args.self.now v) p c.leave_packet.result c.leave_packet.new.out) back
    (c.leave_packet.ensures.restored p (subst (λ (v : RtpPacket). on_network c.args.self.now v ≡ Some p) same is))

pub returns-in-Ok-clause-unknown : goal.returns-in-Ok-clause-unknown
returns-in-Ok-clause-unknown c = λ q spelled of none.
    let one : ◌≡◌ {A = Result RtpPacket RtpFault} (Ok c.in-Ok.view) (Ok q) = c.in-Ok.ensures.only q spelled in
    let same : q ≡ c.in-Ok.view = cc in
    c.leave_packet.ensures.unknown (subst (λ (v : RtpPacket). is_of_session c.args.self.now v ≡ true) same of)
    (subst (λ (v : RtpPacket). on_network c.args.self.now v ≡ None) same none)

pub returns-in-Err-clause-restored : goal.returns-in-Err-clause-restored
returns-in-Err-clause-restored c = λ p q spelled is.
    let none : ◌≡◌ {A = Result RtpPacket RtpFault} (Err c.in-Err.field-0) (Ok q) = c.in-Err.ensures.only q spelled in absurd cc

pub returns-in-Err-clause-unknown : goal.returns-in-Err-clause-unknown
returns-in-Err-clause-unknown c = λ q spelled of is.
    let none : ◌≡◌ {A = Result RtpPacket RtpFault} (Err c.in-Err.field-0) (Ok q) = c.in-Err.ensures.only q spelled in absurd cc

pub returns-in-Ok-clause-strange : goal.returns-in-Ok-clause-strange
returns-in-Ok-clause-strange c = λ q spelled of.
    let one : ◌≡◌ {A = Result RtpPacket RtpFault} (Ok c.in-Ok.view) (Ok q) = c.in-Ok.ensures.only q spelled in
    let same : q ≡ c.in-Ok.view = cc in
    c.leave_packet.ensures.strange (subst (λ (v : RtpPacket). is_of_session c.args.self.now v ≡ false) same of)
