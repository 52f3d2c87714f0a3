-- Words that are too long, and octets that are read as words of 32 bits.
use Rattle.std.proofs.Common.{◌≡◌, ℕ, zero, suc, ◌+◌, ◌*◌, drop, drop-drop, ap, sym, ◌∙◌, ◌/◌, ◌<◌, List, [], ◌∷◌, length, refl, arith, false, Some, None, Result, Ok, Err, nat_le, if◌then◌else◌, inl, inr, codes}
use Rattle.std.specs.Result.{result_ok}
use Rattle.std.specs.Str.{bytes_eq}
use Rattle.std.proofs.lemmas.Bool.Decides.{leb_tells}
use Rattle.byteorder.specs.Endian.{IsRead, big_number}
use Rattle.hex.specs.Hex.{decode_of}
use Rattle.hex.specs.declared.error.FromHexError.{FromHexError}
use Rattle.hex.proofs.HexLemmas.{decode_of-ok}
use Rattle.rtpwire.specs.RtpReading.{words_at}
use Rattle.lines.specs.Steps.{◌>>=◌}
use Rattle.lines.specs.Octets.{octets_up_to}

-- a long word decodes to many octets, or to none
decoded_is_long : (most : ℕ) (word : List ℕ) (r : Result (List ℕ) FromHexError) → decode_of word ≡ r → most < length word / 2
    → (result_ok r >>= λ octets. if nat_le (length octets) most then Some octets else None) ≡ None
decoded_is_long most word (Ok octets) e long =
    let parts = decode_of-ok word octets e in
    elim (leb_tells (length octets) most) [ inl le ↦ absurd (omega arith) | inr gt ↦ rw gt.0 refl ]
decoded_is_long most word (Err error) e long = refl

pub a_long_word : (most : ℕ) (word : List ℕ) → bytes_eq word (codes "-") ≡ false → most < length word / 2 → octets_up_to most word ≡ None
a_long_word most [] other long = refl
a_long_word most (c ∷ cs) other long = rw other (decoded_is_long most (c ∷ cs) _ refl long)

-- words of which each is what its four octets spell
pub words_read : (n : ℕ) (octets words : List ℕ) → length words ≡ n → IsRead big_number 4 octets words → words ≡ words_at n octets
words_read zero octets [] size read = refl
words_read zero octets (w ∷ ws) size read = absurd (omega arith)
words_read (suc n) octets [] size read = absurd (omega arith)
words_read (suc n) octets (w ∷ ws) size read =
    let step : (k : ℕ) → drop (4 * suc k) octets ≡ drop (4 * k) (drop 4 octets) = λ k.
    let at : 4 * suc k ≡ 4 + 4 * k = omega arith in
    ap (λ (i : ℕ). drop i octets) at ∙ sym (drop-drop (4 * k) 4 octets) in
    let rest = words_read n (drop 4 octets) ws (omega arith) (λ k within. read (suc k) (omega arith) ∙ ap (big_number 4) (step k)) in
    rw (read 0 (omega arith), rest) refl
