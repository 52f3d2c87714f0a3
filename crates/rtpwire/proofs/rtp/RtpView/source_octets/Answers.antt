use Rattle.std.proofs.Common.{◌≡◌, ℕ, ◌-◌, ◌+◌, ◌*◌, ◌/◌, ◌≤◌, List, length, take, drop, arith, ◌∙◌, sym, ap}
use Rattle.std.proofs.lemmas.List.{length-drop}
use Rattle.rtpwire.specs.Rtp.{RtpPacket}
use Rattle.rtpwire.specs.RtpChecks.{source_count}
use Rattle.rtpwire.specs.RtpReading.{words_at, packet_in}
use Rattle.rtpwire.proofs.Numbers.{EachOctet-drop}
use Rattle.rtpwire.proofs.WordsIn.{length_words_at, words_at-front}
use Rattle.rtpwire.proofs.Checks.{passed}
use Rattle.rtpwire.proofs.rtp.RtpView.source_octets.Goals as goal

-- the list of sources has as many as the octets count
counted : (octets : List ℕ) (p : RtpPacket) → packet_in octets ≡ p → length p.sources ≡ source_count octets
counted octets p is = sym (ap (λ (q : RtpPacket). length q.sources) is) ∙ length_words_at (source_count octets) (drop 12 octets)

pub slice_bounds-result-end : goal.slice_bounds-result-end
slice_bounds-result-end c =
    let count = c.source_count.ensures.value ∙ counted c.self.inside.octets.now c.args.self.now c.self.view_is in
    let fits = (passed c.self.inside.octets.now c.self.invariant.passes).sources in
    omega (arith, count, fits)

pub returns-clause-words : goal.returns-clause-words
returns-clause-words c =
    let octets : List ℕ = c.self.inside.octets.now in
    let count = c.source_count.ensures.value ∙ counted octets c.args.self.now c.self.view_is in
    let fits = (passed octets c.self.invariant.passes).sources in
    let size : 12 + 4 * c.source_count.result - 12 ≡ 4 * source_count octets = omega (arith, count) in
    let long : 4 * source_count octets ≤ length (drop 12 octets) = omega (arith, fits, length-drop 12 octets) in
    ap (λ n. words_at (length (take n (drop 12 octets)) / 4) (take n (drop 12 octets))) size
    ∙ words_at-front (source_count octets) (drop 12 octets) long (EachOctet-drop 12 octets c.self.invariant.are_octets)
    ∙ ap (λ (q : RtpPacket). q.sources) c.self.view_is
