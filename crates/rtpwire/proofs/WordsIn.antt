-- Words of 32 bits, read from octets and spelled in them.
use Rattle.std.proofs.Common.{◌≡◌, ℕ, zero, suc, ◌+◌, ◌-◌, ◌*◌, ◌/◌, ◌^◌, ◌<◌, ◌≤◌, List, [], ◌∷◌, ◌++◌, length, take, drop, slice_get, Some, All, arith, ap, sym, ◌∙◌, refl, append-nil}
use Rattle.std.proofs.Math.Seq.{take-add}
use Rattle.std.proofs.lemmas.List.{length-drop, length-take-le, drop-drop}
use Rattle.std.proofs.lemmas.List.Elements.{All-nil, All-cons, All-head, All-tail}
use Rattle.byteorder.specs.Endian.{big_bytes, big_number}
use Rattle.rtpwire.specs.Rtp.{word_octets}
use Rattle.rtpwire.specs.RtpReading.{words_at}
use Rattle.rtpwire.proofs.Numbers.{EachOctet, EachOctet-drop, number-again, number-fits, bytes-again_4}

abbrev pub AreWords : List ℕ → Type 0
AreWords words = All (λ w. w < 2 ^ 32) words

pub length-word_octets : (words : List ℕ) → length (word_octets words) ≡ 4 * length words
length-word_octets [] = refl
length-word_octets (w ∷ words) = omega (arith, length-word_octets words)

pub length_words_at : (n : ℕ) (octets : List ℕ) → length (words_at n octets) ≡ n
length_words_at zero octets = refl
length_words_at (suc n) octets = ap suc (length_words_at n (drop 4 octets))

pub words_at-words : (n : ℕ) (octets : List ℕ) → EachOctet octets → AreWords (words_at n octets)
words_at-words zero octets all = All-nil (λ w. w < 2 ^ 32)
words_at-words (suc n) octets all =
    All-cons (λ w. w < 2 ^ 32) _ _ (number-fits 4 octets all) (words_at-words n (drop 4 octets) (EachOctet-drop 4 octets all))

-- what was spelled is read
pub words_at-word_octets : (words tail : List ℕ) → AreWords words → words_at (length words) (word_octets words ++ tail) ≡ words
words_at-word_octets [] tail fit = refl
words_at-word_octets (w ∷ words) tail fit =
    let first : big_number 4 (big_bytes 4 w ++ (word_octets words ++ tail)) ≡ w = number-again 4 w (word_octets words ++ tail) (All-head (λ x. x < 2 ^ 32) w words fit) in
    let rest : words_at (length words) (word_octets words ++ tail) ≡ words = words_at-word_octets words tail (All-tail (λ x. x < 2 ^ 32) w words fit) in
    rw (first, rest) refl

-- what is read spells what was there
pub word_octets-words_at : (n : ℕ) (octets : List ℕ) → 4 * n ≤ length octets → EachOctet octets → word_octets (words_at n octets) ≡ take (4 * n) octets
word_octets-words_at zero octets long all = refl
word_octets-words_at (suc n) octets long all =
    let left : length (drop 4 octets) ≡ length octets - 4 = length-drop 4 octets in
    let first : big_bytes 4 (big_number 4 octets) ≡ take 4 octets = bytes-again_4 octets (omega arith) all in
    let rest : word_octets (words_at n (drop 4 octets)) ≡ take (4 * n) (drop 4 octets) =
    word_octets-words_at n (drop 4 octets) (omega arith) (EachOctet-drop 4 octets all) in
    let size : 4 * suc n ≡ 4 + 4 * n = omega arith in
    ap (λ (x : List ℕ). x ++ word_octets (words_at n (drop 4 octets))) first
    ∙ ap (λ (x : List ℕ). take 4 octets ++ x) rest
    ∙ sym (take-add 4 (4 * n) octets)
    ∙ ap (λ (k : ℕ). take k octets) (sym size)

-- all words of octets, as octets
pub whole_words : (octets : List ℕ) → length (take (length octets / 4 * 4) octets) ≡ 4 * length (words_at (length octets / 4) octets)
whole_words octets = length-take-le (length octets / 4 * 4) octets (omega arith) ∙ omega (arith, length_words_at (length octets / 4) octets)

-- the word at a place
pub slice_get-words_at : (n : ℕ) (octets : List ℕ) (i : ℕ) → i < n → slice_get (words_at n octets) i ≡ Some (big_number 4 (drop (4 * i) octets))
slice_get-words_at zero octets i within = absurd (omega arith)
slice_get-words_at (suc n) octets zero within = refl
slice_get-words_at (suc n) octets (suc i) within =
    slice_get-words_at n (drop 4 octets) i (omega arith)
    ∙ ap (λ (x : List ℕ). Some (big_number 4 x)) (drop-drop (4 * i) 4 octets ∙ ap (λ k. drop k octets) (omega arith))

-- one word more, at the end
pub words_at-more : (n : ℕ) (octets : List ℕ) → words_at (n + 1) octets ≡ words_at n octets ++ big_number 4 (drop (4 * n) octets) ∷ []
words_at-more zero octets = refl
words_at-more (suc n) octets =
    let count : suc n + 1 ≡ suc (n + 1) = omega arith in
    let at : 4 + 4 * n ≡ 4 * suc n = omega arith in
    ap (λ k. words_at k octets) count
    ∙ ap (λ (x : List ℕ). big_number 4 octets ∷ x) (words_at-more n (drop 4 octets))
    ∙ ap (λ (x : List ℕ). big_number 4 octets ∷ (words_at n (drop 4 octets) ++ big_number 4 x ∷ [])) (drop-drop (4 * n) 4 octets ∙ ap (λ k. drop k octets) at)

-- all words of octets that spell nothing else
pub words_at-all : (words octets : List ℕ) → AreWords words → octets ≡ word_octets words → words_at (length octets / 4) octets ≡ words
words_at-all words octets fit is =
    let size = length-word_octets words in
    let count : length (word_octets words) / 4 ≡ length words = omega arith in
    ap (λ (x : List ℕ). words_at (length x / 4) x) is
    ∙ ap (λ k. words_at k (word_octets words)) count
    ∙ ap (words_at (length words)) (sym (append-nil (word_octets words)))
    ∙ words_at-word_octets words [] fit

-- the first words of octets need none behind them
pub words_at-front : (n : ℕ) (octets : List ℕ) → 4 * n ≤ length octets → EachOctet octets → words_at (length (take (4 * n) octets) / 4) (take (4 * n) octets) ≡ words_at n octets
words_at-front n octets long all =
    words_at-all (words_at n octets) (take (4 * n) octets) (words_at-words n octets all) (sym (word_octets-words_at n octets long all))
