use Rattle.std.proofs.Common.{◌≡◌, ℕ, ◌+◌, ◌*◌, true, List, IfSome, arith, ◌∙◌, sym, ap, subst}
use Rattle.std.specs.Option.{option_map}
use Rattle.rtpwire.specs.Rtp.{RtpPacket, IsExtension, word_octets}
use Rattle.rtpwire.specs.RtpChecks.{is_extended, sources_end}
use Rattle.rtpwire.proofs.Checks.{passed}
use Rattle.rtpwire.proofs.Seen.{packet_fits, extension_again}
use Rattle.rtpwire.proofs.rtp.RtpView.extension.Goals as goal

pub returns-clause-value : goal.returns-clause-value
returns-clause-value c =
    let octets : List ℕ = c.self.inside.octets.now in
    let count = c.source_count.ensures in
    let start : 12 + 4 * c.source_count.result ≡ sources_end octets = omega (arith, count) in
    let extended : is_extended octets ≡ true = sym c.is_extended.ensures ∙ c.if-not-is_extended.false in
    extension_again octets (12 + 4 * c.source_count.result) c.self.inside.payload_start c.u16_at-profile.result
    c.self.invariant.are_octets (passed octets c.self.invariant.passes) extended start c.self.invariant.start c.u16_at-profile.ensures
    ∙ ap (λ (p : RtpPacket). option_map {U = ℕ × List ℕ} (λ (e : ℕ × List ℕ). (e.0, word_octets e.1)) p.extension) c.self.view_is

pub returns-clause-fits : goal.returns-clause-fits
returns-clause-fits c =
    subst (λ (p : RtpPacket). IfSome p.extension IsExtension) c.self.view_is (packet_fits c.self.inside.octets.now c.self.invariant.are_octets (passed _ c.self.invariant.passes)).extension
