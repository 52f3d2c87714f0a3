use Rattle.std.proofs.Common.{◌≡◌, ◌∙◌, ℕ, List, true, false, ap, refl, subst, sym}
use Rattle.std.proofs.lemmas.Bool.{true≢false}
use Rattle.rtpwire.specs.Rtp.{RtpPacket}
use Rattle.rtpwire.specs.Content.{IsTooLong}
use Rattle.relays.specs.Following.{Follows}
use Rattle.relays.proofs.Following.{follows_alike}
use Rattle.relays.proofs.Reading.{same_packet}
use Rattle.relays.proofs.sending.carried.Goals as goal

pub returns-in_default-clause-none : goal.returns-in_default-clause-none
returns-in_default-clause-none c same packet content carries = c.in_default.not-Ok packet (c.read.ensures.only packet carries.spelled)

pub returns-then-payload_type-media_type-clause-none : goal.returns-then-payload_type-media_type-clause-none
returns-then-payload_type-media_type-clause-none c same packet content carries =
    let is = same_packet c.read.result c.in-Ok.view packet c.in-Ok.is (c.read.ensures.only packet carries.spelled) in
    c.if-payload_type-media_type.true
    (c.payload_type.ensures
    ∙ ap (λ (p : RtpPacket). p.payload_type) is
    ∙ carries.of_type
    ∙ sym c.media_type.ensures.value)

pub returns-then-not-follows-clause-none : goal.returns-then-not-follows-clause-none
returns-then-not-follows-clause-none c same packet content carries =
    let is = same_packet c.read.result c.in-Ok.view packet c.in-Ok.is (c.read.ensures.only packet carries.spelled) in
    let its : packet.ssrc ≡ c.ssrc-ssrc.result = ap (λ (p : RtpPacket). p.ssrc) (sym is) ∙ sym c.ssrc-ssrc.ensures in
    let does = subst (λ (n : ℕ). Follows c.args.stream.now c.args.from n c.args.now true) its carries.of_stream in
    true≢false (follows_alike c.args.stream.now c.args.from c.ssrc-ssrc.result c.args.now true false does c.if-not-follows.ensures)

pub returns-in-Err-clause-none : goal.returns-in-Err-clause-none
returns-in-Err-clause-none c same packet content carries =
    let is = same_packet c.read.result c.in-Ok.view packet c.in-Ok.is (c.read.ensures.only packet carries.spelled) in
    let view = c.in-Ok.view in
    let long : IsTooLong (record view { payload = c.payload.result.now }) = c.in-Err.ensures.too_long.0 refl in
    let of_view : IsTooLong view = subst (λ (octets : List ℕ). IsTooLong (record view { payload = octets })) c.payload.ensures long in
    carries.holds (subst (λ (p : RtpPacket). IsTooLong p) is of_view)
