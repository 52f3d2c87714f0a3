use Rattle.std.proofs.Common.{◌≡◌, ℕ, ◌*◌, ◌<◌, List, length, drop, slice_get, Some, arith, ◌∙◌, sym, ap}
use Rattle.std.proofs.lemmas.List.{drop-drop}
use Rattle.byteorder.specs.Endian.{big_number}
use Rattle.rtpwire.specs.Rtp.{RtpPacket}
use Rattle.rtpwire.specs.RtpChecks.{source_count}
use Rattle.rtpwire.specs.RtpReading.{packet_in}
use Rattle.rtpwire.proofs.WordsIn.{length_words_at, slice_get-words_at}
use Rattle.rtpwire.proofs.Checks.{passed}
use Rattle.rtpwire.proofs.rtp.RtpView.source.Goals as goal

-- the index is below the count in the octets
counted : (octets : List ℕ) (p : RtpPacket) (index : ℕ) → packet_in octets ≡ p → index < length p.sources → index < source_count octets
counted octets p index is within =
    let n = length_words_at (source_count octets) (drop 12 octets) in
    let same : length (packet_in octets).sources ≡ length p.sources = ap (λ (q : RtpPacket). length q.sources) is in
    omega (arith, n, same, within)

pub overflow_mul-index : goal.overflow_mul-index
overflow_mul-index c = let below = counted c.self.inside.octets.now c.args.self.now c.args.index c.self.view_is c.requires in omega arith

pub overflow_add-index : goal.overflow_add-index
overflow_add-index c = let below = counted c.self.inside.octets.now c.args.self.now c.args.index c.self.view_is c.requires in omega arith

pub u32_at-requires : goal.u32_at-requires
u32_at-requires c =
    let below = counted c.self.inside.octets.now c.args.self.now c.args.index c.self.view_is c.requires in
    let fits = (passed c.self.inside.octets.now c.self.invariant.passes).sources in
    omega (arith, fits)

pub returns : goal.returns
returns c =
    let octets : List ℕ = c.self.inside.octets.now in
    let below = counted c.self.inside.octets.now c.args.self.now c.args.index c.self.view_is c.requires in
    ap (λ (q : RtpPacket). slice_get q.sources c.args.index) (sym c.self.view_is)
    ∙ slice_get-words_at (source_count octets) (drop 12 octets) c.args.index below
    ∙ ap (λ (x : List ℕ). Some (big_number 4 x)) (drop-drop (4 * c.args.index) 12 octets)
    ∙ ap (λ x. Some x) (sym c.u32_at.ensures)
