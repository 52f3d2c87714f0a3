-- One bit of words of 64: set, cleared, and found.
use Rattle.std.proofs.Common.{◌≡◌, ◌≢◌, ℕ, ◌+◌, ◌-◌, ◌*◌, ◌/◌, ◌%◌, ◌^◌, ◌<◌, ◌≤◌, ◌==◌, ◌||◌, Bool, true, false, List, length, get_or, slice_set, cond, ap, sym, ◌∙◌, refl, arith, w64, bit_and, bit_or, min, nat_le, leb-true, leb-false}
use Rattle.std.specs.Prelude.{if◌then◌else◌}
use Rattle.std.specs.Int.{bit_at, bit_not, trailing_zeros}
use Rattle.std.proofs.lemmas.Bool.{cond_both, eqb-true, eqb-false}
use Rattle.std.proofs.lemmas.Bool.Decides.{nat_tests}
use Rattle.std.proofs.lemmas.List.{get_or-set_same, get_or-set_other, get_or_read}
use Rattle.std.proofs.lemmas.Nat.{shr-shr}
use Rattle.std.proofs.lemmas.Nat.Bits.{bit_at-zero, bit_at_above, bit_at-lt, bit_at_and, bit_at_not, bit_at_set_same, bit_at_set_other, bit_at_clear_same, bit_at_clear_other, bit_at-trailing_zeros}
use Rattle.stores.specs.Bits.{is_set}

chosen : (a b : ℕ) (c d : Bool) → a ≡ b → c ≡ (if a == b then c else d)
chosen a b c d e = grind (arith, nat_tests)

passed : (a b : ℕ) (c d : Bool) → a ≢ b → d ≡ (if a == b then c else d)
passed a b c d e = grind (arith, nat_tests)

-- a bit of words of which one was replaced by a word whose bit number k is as given, and whose others are as they were
replaced : (words : List ℕ) (i k word b v : ℕ) (c : Bool) → i < length words → k < 64 → bit_at word k ≡ v → (v == 1) ≡ c →
    ((m : ℕ) → m < 64 → m ≢ k → bit_at word m ≡ bit_at (get_or words i 0) m) →
    is_set (slice_set words i word) b ≡ (if b == 64 * i + k then c else is_set words b)
replaced words i k word b v c within small here value others =
    cond_both (b / 64 == i) true false (λ _. is_set (slice_set words i word) b ≡ (if b == 64 * i + k then c else is_set words b))
    (λ e. let at : b / 64 ≡ i = eqb-true _ _ e in
    let got : get_or (slice_set words i word) (b / 64) 0 ≡ word = ap (λ j. get_or (slice_set words i word) j 0) at ∙ get_or-set_same words i word 0 within in
    let old : get_or words (b / 64) 0 ≡ get_or words i 0 = ap (λ j. get_or words j 0) at in
    cond_both (b % 64 == k) true false (λ _. is_set (slice_set words i word) b ≡ (if b == 64 * i + k then c else is_set words b))
    (λ f. let low : b % 64 ≡ k = eqb-true _ _ f in
    let bit : bit_at (get_or (slice_set words i word) (b / 64) 0) (b % 64) ≡ v = ap (λ w. bit_at w (b % 64)) got ∙ ap (bit_at word) low ∙ here in
    let is : b ≡ 64 * i + k = omega arith in
    ap (λ n. n == 1) bit ∙ value ∙ chosen b (64 * i + k) c (is_set words b) is)
    (λ f. let low : b % 64 ≢ k = eqb-false _ _ f in
    let bit : bit_at (get_or (slice_set words i word) (b / 64) 0) (b % 64) ≡ bit_at (get_or words (b / 64) 0) (b % 64) =
    ap (λ w. bit_at w (b % 64)) got ∙ others (b % 64) (omega arith) low ∙ ap (λ w. bit_at w (b % 64)) (sym old) in
    let apart : b ≢ 64 * i + k = λ e. low (omega arith) in
    ap (λ n. n == 1) bit ∙ passed b (64 * i + k) c (is_set words b) apart))
    (λ e. let at : b / 64 ≢ i = eqb-false _ _ e in
    let apart : b ≢ 64 * i + k = λ e. at (omega arith) in
    ap (λ w. bit_at w (b % 64) == 1) (get_or-set_other words i (b / 64) word 0 at) ∙ passed b (64 * i + k) c (is_set words b) apart)

set_at : (words : List ℕ) (bit b : ℕ) → bit / 64 < length words →
    is_set (slice_set words (bit / 64) (bit_or (get_or words (bit / 64) 0) (1 * 2 ^ (bit % 64) % 2 ^ 64))) b ≡ (if b == bit then true else is_set words b)
set_at words bit b within =
    let small : bit % 64 < 64 = omega arith in
    let whole : 64 * (bit / 64) + bit % 64 ≡ bit = omega arith in
    replaced words (bit / 64) (bit % 64) _ b 1 true within small (bit_at_set_same w64 _ (bit % 64) small) refl (λ m _ apart. bit_at_set_other w64 _ (bit % 64) small m apart)
    ∙ ap (λ n. cond (b == n) true (is_set words b)) whole

clear_at : (words : List ℕ) (bit b : ℕ) → bit / 64 < length words →
    is_set (slice_set words (bit / 64) (bit_and (get_or words (bit / 64) 0) (bit_not w64 (1 * 2 ^ (bit % 64) % 2 ^ 64)))) b ≡ (if b == bit then false else is_set words b)
clear_at words bit b within =
    let small : bit % 64 < 64 = omega arith in
    let whole : 64 * (bit / 64) + bit % 64 ≡ bit = omega arith in
    replaced words (bit / 64) (bit % 64) _ b 0 false within small (bit_at_clear_same w64 _ (bit % 64) small) refl (λ m l apart. bit_at_clear_other w64 _ (bit % 64) small m l apart)
    ∙ ap (λ n. cond (b == n) false (is_set words b)) whole

-- the words after one bit was set, and after one was cleared
pub bit_set : (words : List ℕ) (bit b word : ℕ) → bit / 64 < length words → word ≡ get_or words (bit / 64) word →
    is_set (slice_set words (bit / 64) (bit_or word (1 * 2 ^ (bit % 64) % 2 ^ 64))) b ≡ (if b == bit then true else is_set words b)
bit_set words bit b word within e =
    ap (λ w. is_set (slice_set words (bit / 64) (bit_or w (1 * 2 ^ (bit % 64) % 2 ^ 64))) b) (get_or_read words (bit / 64) word within e 0) ∙ set_at words bit b within

pub bit_clear : (words : List ℕ) (bit b word : ℕ) → bit / 64 < length words → word ≡ get_or words (bit / 64) word →
    is_set (slice_set words (bit / 64) (bit_and word (bit_not w64 (1 * 2 ^ (bit % 64) % 2 ^ 64)))) b ≡ (if b == bit then false else is_set words b)
bit_clear words bit b word within e =
    ap (λ w. is_set (slice_set words (bit / 64) (bit_and w (bit_not w64 (1 * 2 ^ (bit % 64) % 2 ^ 64)))) b) (get_or_read words (bit / 64) word within e 0) ∙ clear_at words bit b within

-- a bit at or above one, within its word, is one of what is left of the word above that one
bit_of_rest : (words : List ℕ) (bit b : ℕ) → bit ≤ b → b / 64 ≡ bit / 64 → is_set words b ≡ (bit_at (get_or words (bit / 64) 0 / 2 ^ (bit % 64)) (b - bit) == 1)
bit_of_rest words bit b above same =
    let low : b % 64 ≡ bit % 64 + (b - bit) = omega arith in
    ap (λ j. bit_at (get_or words j 0) (b % 64) == 1) same
    ∙ ap (λ m. bit_at (get_or words (bit / 64) 0) m == 1) low
    ∙ ap (λ n. n % 2 == 1) (sym (shr-shr (get_or words (bit / 64) 0) (bit % 64) (b - bit)))

-- where nothing is left of the word, no bit of it from there on is set
pub rest_is_zero : (words : List ℕ) (bit b rest : ℕ) → rest ≡ get_or words (bit / 64) 0 / 2 ^ (bit % 64) → rest ≡ 0 → bit ≤ b → b < (bit / 64 + 1) * 64 → is_set words b ≡ false
rest_is_zero words bit b rest is none above below =
    bit_of_rest words bit b above (omega arith) ∙ ap (λ n. bit_at n (b - bit) == 1) (sym is ∙ none) ∙ ap (λ n. n == 1) (bit_at-zero (b - bit))

-- else its first bit that is set is the first one from there on
pub rest_is_some : (words : List ℕ) (bit rest : ℕ) → rest ≡ get_or words (bit / 64) 0 / 2 ^ (bit % 64) → rest ≢ 0 → get_or words (bit / 64) 0 < 2 ^ 64 → rest < 2 ^ 64 →
    (is_set words (bit + trailing_zeros w64 rest) ≡ true) × ((b : ℕ) → bit ≤ b → b < bit + trailing_zeros w64 rest → is_set words b ≡ false)
rest_is_some words bit rest is some word small =
    let first = bit_at-trailing_zeros w64 rest (omega arith) small in
    let t : ℕ = trailing_zeros w64 rest in
    let at : bit_at rest t ≡ bit_at (get_or words (bit / 64) 0) (bit % 64 + t) = ap (λ n. bit_at n t) is ∙ ap (λ n. n % 2) (shr-shr (get_or words (bit / 64) 0) (bit % 64) t) in
    let high = bit_at_above (get_or words (bit / 64) 0) 64 (bit % 64 + t) word in
    let one = first.1 in
    let low : bit % 64 + t < 64 = cond_both (nat_le 64 (bit % 64 + t)) true false (λ _. bit % 64 + t < 64) (λ e. absurd (let none = high (leb-true _ _ e) in omega arith)) (λ e. leb-false _ _ e) in (
      bit_of_rest words bit (bit + t) (omega arith) (omega arith) ∙ (let d : bit + t - bit ≡ t = omega arith in ap (λ n. bit_at (get_or words (bit / 64) 0 / 2 ^ (bit % 64)) n == 1) d ∙ ap (λ n. bit_at n t == 1) (sym is) ∙ ap (λ n. n == 1) one),
      λ b above below. bit_of_rest words bit b above (omega arith) ∙ ap (λ n. bit_at n (b - bit) == 1) (sym is) ∙ ap (λ n. n == 1) (first.2 (b - bit) (omega arith)),
    )

-- a bit that is set at or above one, within its word, is so in what is left of the word above that one
pub set_in_rest : (words : List ℕ) (bit b word : ℕ) → bit / 64 < length words → word ≡ get_or words (bit / 64) word → bit ≤ b → b / 64 ≡ bit / 64 → is_set words b ≡ true →
    bit_at (word / 2 ^ (bit % 64)) (b - bit) ≡ 1
set_in_rest words bit b word within e above same set =
    eqb-true _ _ (
    ap (λ w. bit_at (w / 2 ^ (bit % 64)) (b - bit) == 1) (get_or_read words (bit / 64) word within e 0)
    ∙ sym (bit_of_rest words bit b above same)
    ∙ set
    )

-- a bit of one word after one was set, and after one was cleared
pub word_bit_set : (word bit b : ℕ) → bit < 64 → (bit_at (bit_or word (1 * 2 ^ bit % 2 ^ 64)) b == 1) ≡ (if b == bit then true else (bit_at word b == 1))
word_bit_set word bit b small =
    cond_both (b == bit) true false (λ _. (bit_at (bit_or word (1 * 2 ^ bit % 2 ^ 64)) b == 1) ≡ (if b == bit then true else (bit_at word b == 1)))
    (λ e. let at : b ≡ bit = eqb-true _ _ e in
    ap (λ n. bit_at (bit_or word (1 * 2 ^ bit % 2 ^ 64)) n == 1) at ∙ ap (λ n. n == 1) (bit_at_set_same w64 word bit small) ∙ chosen b bit true (bit_at word b == 1) at)
    (λ e. let apart : b ≢ bit = eqb-false _ _ e in
    ap (λ n. n == 1) (bit_at_set_other w64 word bit small b apart) ∙ passed b bit true (bit_at word b == 1) apart)

either_of : (b c : Bool) → (if b then true else c) ≡ (b || c)
either_of true c = refl
either_of false c = refl

pub word_bit_or : (word bit b : ℕ) → bit < 64 → (bit_at (bit_or word (1 * 2 ^ bit % 2 ^ 64)) b == 1) ≡ (b == bit || bit_at word b == 1)
word_bit_or word bit b small = word_bit_set word bit b small ∙ either_of (b == bit) (bit_at word b == 1)

bit_left : (a b c : ℕ) → a < 2 → b < 2 → c ≡ min a (1 - b) → (c == 1) ≡ (if b == 1 then false else (a == 1))
bit_left a b c one other e = grind (arith, nat_tests)

-- a word of which the bits of another one were cleared
pub word_bits_clear : (word bits b : ℕ) → bits < 2 ^ 64 → b < 64 → (bit_at (bit_and word (bit_not w64 bits)) b == 1) ≡ (if bit_at bits b == 1 then false else (bit_at word b == 1))
word_bits_clear word bits b fits below =
    bit_left (bit_at word b) (bit_at bits b) (bit_at (bit_and word (bit_not w64 bits)) b) (bit_at-lt word b) (bit_at-lt bits b)
    (bit_at_and word (bit_not w64 bits) b ∙ ap (min (bit_at word b)) (bit_at_not w64 bits b fits below))
