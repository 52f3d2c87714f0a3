use Rattle.std.proofs.Common.{◌≡◌, ℕ, ◌*◌, ◌/◌, List, length, take, ap, sym, ◌∙◌, arith}
use Rattle.rtpwire.proofs.OctetsIn.{each_of}
use Rattle.rtpwire.proofs.WordsIn.{whole_words, word_octets-words_at}
use Rattle.rtpwire.proofs.fill.fill_octets.Goals as goal

pub copy_from_slice-requires : goal.copy_from_slice-requires
copy_from_slice-requires c =
    let size = whole_words c.args.octets.now in
    omega (arith, size, c.requires)

pub returns : goal.returns
returns c =
    let octets : List ℕ = c.args.octets.now in
    let size : length octets / 4 * 4 ≡ 4 * (length octets / 4) = omega arith in
    c.copy_from_slice.ensures.after
    ∙ ap (λ k. take k octets) size
    ∙ sym (word_octets-words_at (length octets / 4) octets (omega arith) (each_of octets c.are_octets.ensures))
