use Rattle.std.proofs.Common.{◌++◌, subst}
use Rattle.byteorder.specs.Endian.{big_bytes}
use Rattle.payload_types.specs.Folding.{FitsAs, repair_on}
use Rattle.rtpwire.specs.Rtp.{RtpPacket}
use Rattle.std.proofs.Common.{false}
use Rattle.payload_types.proofs.Behind.{none_is_not, payload_is_before, repair_is_on, restored_is, some_is_not}
use Rattle.payload_types.proofs.types.PayloadTypes.leave_repair.Goals as goal

pub returns-in-Some-of_media-clause-restored : goal.returns-in-Some-of_media-clause-restored
returns-in-Some-of_media-clause-restored c = λ p e.
    let view = c.args.view.now in
    let rest = c.payload.result.now in
    let on = repair_is_on c.args.self.now view c.in-Ok.repair rest c.in-Some.media c.of_media.result c.in-Ok.ensures.is c.payload.ensures c.in-Some.ensures.some.0
    c.in-Some.ensures.some.2 c.of_media.ensures.pair in
    let same = payload_is_before view c.in-Ok.repair rest c.in-Some.payload.now c.original.result c.in-Ok.ensures.is c.payload.ensures c.in-Some.ensures.some.1
    c.in-Some.ensures.some.2 c.original.ensures in
    subst (λ (q : RtpPacket). FitsAs false q c.write_repair_as.result c.write_repair_as.new.out)
    (restored_is view p c.in-Some-of_media.pair (repair_on c.args.self.now view) c.of_media.result (big_bytes 2 c.original.result ++ c.in-Some.payload.now) on
    c.in-Some-of_media.is same e)
    c.write_repair_as.ensures.fits

pub returns-in-Some-of_media-clause-unknown : goal.returns-in-Some-of_media-clause-unknown
returns-in-Some-of_media-clause-unknown c = λ e.
    let view = c.args.view.now in
    let on = repair_is_on c.args.self.now view c.in-Ok.repair c.payload.result.now c.in-Some.media c.of_media.result c.in-Ok.ensures.is c.payload.ensures
    c.in-Some.ensures.some.0 c.in-Some.ensures.some.2 c.of_media.ensures.pair in
    absurd (none_is_not view c.in-Some-of_media.pair (repair_on c.args.self.now view) c.of_media.result on c.in-Some-of_media.is e)

pub returns-in-None-clause-restored : goal.returns-in-None-clause-restored
returns-in-None-clause-restored c = λ p e.
    let view = c.args.view.now in
    let on = repair_is_on c.args.self.now view c.in-Ok.repair c.payload.result.now c.in-Some.media c.of_media.result c.in-Ok.ensures.is c.payload.ensures
    c.in-Some.ensures.some.0 c.in-Some.ensures.some.2 c.of_media.ensures.pair in
    absurd (some_is_not view p (repair_on c.args.self.now view) c.of_media.result on c.in-None.is e)
