use Rattle.std.proofs.Common.{◌≡◌, ℕ, ◌*◌, ◌/◌, ◌++◌, List, length, take, ap, sym, ◌∙◌, arith, rules, length-append}
use Rattle.rtpwire.specs.declared.carried.Words.{Words}
use Rattle.rtpwire.specs.Carried.{words_of}
use Rattle.rtpwire.specs.Rtp.{word_octets}
use Rattle.rtpwire.proofs.OctetsIn.{each_of}
use Rattle.rtpwire.proofs.WordsIn.{whole_words, word_octets-words_at}
use Rattle.rtpwire.proofs.octets.push_words.Goals as goal

pub push_octets-requires : goal.push_octets-requires
push_octets-requires g c =
    let size = whole_words c.in-Octets.octets.now in
    let words = ap (λ (w : Words). length (words_of w)) c.in-Octets.is in
    (search rules, omega (arith, size, words))

pub returns-in-Octets-clause-items : goal.returns-in-Octets-clause-items
returns-in-Octets-clause-items g c =
    let octets : List ℕ = c.in-Octets.octets.now in
    let size : length octets / 4 * 4 ≡ 4 * (length octets / 4) = omega arith in
    c.push_octets.ensures
    ∙ ap (λ k. c.args.out.now.items ++ take k octets) size
    ∙ ap (λ (x : List ℕ). c.args.out.now.items ++ x) (sym (word_octets-words_at (length octets / 4) octets (omega arith) (each_of octets c.are_octets.ensures)))
    ∙ ap (λ (w : Words). c.args.out.now.items ++ word_octets (words_of w)) (sym c.in-Octets.is)

pub returns-in-Octets-clause-len : goal.returns-in-Octets-clause-len
returns-in-Octets-clause-len g c =
    let size = whole_words c.in-Octets.octets.now in
    let words = ap (λ (w : Words). length (words_of w)) c.in-Octets.is in
    let written = ap length c.push_octets.ensures in
    omega (arith, size, words, written, length-append {A = ℕ})
