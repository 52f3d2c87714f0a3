-- Octets that are laid into words and taken out of them.
use Rattle.std.proofs.Common.{◌≡◌, ℕ, zero, suc, ◌+◌, ◌-◌, ◌*◌, ◌/◌, ◌%◌, ◌^◌, ◌<◌, List, [], ◌∷◌, get_or, length, sym, ap, ◌∙◌, inl, inr, arith}
use Rattle.std.proofs.lemmas.Bool.{cases_lt}
use Rattle.std.proofs.lemmas.List.FromFn.{fill_by_all}
use Rattle.std.proofs.Math.ListN.{get_or-eq_default}
use Rattle.std.proofs.lemmas.Nat.Bits.{bit_at-zero, bit_at_cat_low, bit_at_cat_high}
use Rattle.std.specs.Int.{bit_at, w64, from_le_bytes, to_le_bytes}
use Rattle.srtp.specs.Lanes.{lane, lane_of, state_in, AreTurned}
use Rattle.srtp.proofs.LaneBits.{lane_from}
use Rattle.srtp.proofs.BitMoves.{shr_at}
use Rattle.srtp.proofs.States.{lane_below}
use Rattle.srtp.proofs.Each.{each_of_8, each_of_16}

-- ---- a word of octets, the lowest one first

word_from : List ℕ → ℕ
word_from [] = 0
word_from (b ∷ bytes) = word_from bytes * 2 ^ 8 + b

word_octet : (bytes : List ℕ) → ((j : ℕ) → get_or bytes j 0 < 256) → (j k : ℕ) → k < 8
    → bit_at (word_from bytes) (8 * j + k) ≡ bit_at (get_or bytes j 0) k
unfolding word_from
word_octet [] octets j k lt = bit_at-zero (8 * j + k) ∙ sym (bit_at-zero k)
word_octet (b ∷ bytes) octets zero k lt =
    let e : 8 * 0 + k ≡ k = omega arith in
    bit_at_cat_low (word_from bytes) 8 b (8 * 0 + k) (omega arith) ∙ ap (bit_at b) e
word_octet (b ∷ bytes) octets (suc j) k lt =
    let e : 8 * suc j + k - 8 ≡ 8 * j + k = omega arith in
    bit_at_cat_high (word_from bytes) 8 b (8 * suc j + k) (octets 0) (omega arith)
    ∙ ap (bit_at (word_from bytes)) e ∙ word_octet bytes (λ i. octets (suc i)) j k lt

eight : (a b c d e f g h : ℕ)
    → from_le_bytes w64 (a ∷ b ∷ c ∷ d ∷ e ∷ f ∷ g ∷ h ∷ []) ≡ word_from (a ∷ b ∷ c ∷ d ∷ e ∷ f ∷ g ∷ h ∷ [])
unfolding word_from
eight a b c d e f g h = omega arith

all_octets : (a b c d e f g h : ℕ) → a < 256 → b < 256 → c < 256 → d < 256 → e < 256 → f < 256 → g < 256 → h < 256
    → (j : ℕ) → get_or (a ∷ b ∷ c ∷ d ∷ e ∷ f ∷ g ∷ h ∷ []) j 0 < 256
all_octets a b c d e f g h la lb lc ld le lf lg lh j = elim (cases_lt j 8) [
  | inl below ↦ each_of_8 (λ i. get_or (a ∷ b ∷ c ∷ d ∷ e ∷ f ∷ g ∷ h ∷ []) i 0 < 256) la lb lc ld le lf lg lh j below
  | inr past ↦ omega (arith, get_or-eq_default (a ∷ b ∷ c ∷ d ∷ e ∷ f ∷ g ∷ h ∷ []) 0 {n = j} past)
]

-- the octets of two columns of a block in turn, from its octet n on
abbrev pub two_columns : List ℕ → ℕ → List ℕ
two_columns block n =
    let at : ℕ → ℕ = λ i. get_or block i 0 in
    at n ∷ at (n + 8) ∷ at (n + 1) ∷ at (n + 9) ∷ at (n + 2) ∷ at (n + 10) ∷ at (n + 3) ∷ at (n + 11) ∷ []

columns_at : (block : List ℕ) (n i : ℕ) → i < 8
    → get_or (two_columns block n) i 0 ≡ get_or block (n + i / 2 + 8 * (i % 2)) 0
columns_at block n =
    let at : ℕ → ℕ = λ i. get_or block i 0 in
    each_of_8 (λ i. get_or (two_columns block n) i 0 ≡ at (n + i / 2 + 8 * (i % 2)))
    (ap at (omega arith)) (ap at (omega arith)) (ap at (omega arith)) (ap at (omega arith))
    (ap at (omega arith)) (ap at (omega arith)) (ap at (omega arith)) (ap at (omega arith))

pub columns_are : (block : List ℕ) (c word : ℕ) → ((i : ℕ) → get_or block i 0 < 256)
    → word ≡ from_le_bytes w64 (two_columns block (4 * c))
    → (j k : ℕ) → j < 8 → k < 8 → bit_at word (8 * j + k) ≡ bit_at (get_or block (4 * c + j / 2 + 8 * (j % 2)) 0) k
columns_are block c word octets is j k lt small =
    let n : ℕ = 4 * c in
    let fits : (i : ℕ) → get_or (two_columns block n) i 0 < 256 =
    all_octets _ _ _ _ _ _ _ _ (octets n) (octets (n + 8)) (octets (n + 1)) (octets (n + 9))
    (octets (n + 2)) (octets (n + 10)) (octets (n + 3)) (octets (n + 11)) in
    rw (is, eight _ _ _ _ _ _ _ _)
    (word_octet (two_columns block n) fits j k small ∙ ap (λ b. bit_at b k) (columns_at block n j lt))

-- ---- the octets of a word

lowest_at : (w k : ℕ) → k < 8 → bit_at (w % 2 ^ 8) k ≡ bit_at w (0 + k)
lowest_at w k lt =
    let whole : w ≡ w / 2 ^ 8 * 2 ^ 8 + w % 2 ^ 8 = omega arith in
    let e : k ≡ 0 + k = omega arith in
    sym (ap (λ m. bit_at m k) whole ∙ bit_at_cat_low (w / 2 ^ 8) 8 (w % 2 ^ 8) k lt) ∙ ap (bit_at w) e

octet_at : (w n k : ℕ) → k < 8 → bit_at (w / 2 ^ n % 2 ^ 8) k ≡ bit_at w (n + k)
octet_at w n k lt =
    let whole : w / 2 ^ n ≡ w / 2 ^ n / 2 ^ 8 * 2 ^ 8 + w / 2 ^ n % 2 ^ 8 = omega arith in
    let e : k + n ≡ n + k = omega arith in
    sym (ap (λ m. bit_at m k) whole ∙ bit_at_cat_low (w / 2 ^ n / 2 ^ 8) 8 (w / 2 ^ n % 2 ^ 8) k lt) ∙ shr_at w n k
    ∙ ap (bit_at w) e

-- the octets of a block out of those of two words
abbrev pub joined : (p q : List ℕ) → List ℕ
joined p q =
    get_or p 0 0 ∷ get_or p 2 0 ∷ get_or p 4 0 ∷ get_or p 6 0
    ∷ get_or q 0 0 ∷ get_or q 2 0 ∷ get_or q 4 0 ∷ get_or q 6 0
    ∷ get_or p 1 0 ∷ get_or p 3 0 ∷ get_or p 5 0 ∷ get_or p 7 0
    ∷ get_or q 1 0 ∷ get_or q 3 0 ∷ get_or q 5 0 ∷ get_or q 7 0 ∷ []

pub block_octets : (first second : ℕ) (p q : List ℕ) → p ≡ to_le_bytes w64 first → q ≡ to_le_bytes w64 second
    → (i k : ℕ) → i < 16 → k < 8
    → bit_at (get_or (joined p q) i 0) k
    ≡ bit_at (get_or (first ∷ second ∷ []) (i / 4 % 2) 0) (8 * (2 * (i % 4) + i / 8) + k)
block_octets first second p q e f i k lt small =
    (λ m. bit_at (get_or (joined (e m) (f m)) i 0) k)
    ∙ each_of_16 (λ n.
    bit_at (get_or (joined (to_le_bytes w64 first) (to_le_bytes w64 second)) n 0) k
    ≡ bit_at (get_or (first ∷ second ∷ []) (n / 4 % 2) 0) (8 * (2 * (n % 4) + n / 8) + k))
    (lowest_at first k small) (octet_at first 16 k small) (octet_at first 32 k small) (octet_at first 48 k small)
    (lowest_at second k small) (octet_at second 16 k small) (octet_at second 32 k small) (octet_at second 48 k small)
    (octet_at first 8 k small) (octet_at first 24 k small) (octet_at first 40 k small) (octet_at first 56 k small)
    (octet_at second 8 k small) (octet_at second 24 k small) (octet_at second 40 k small) (octet_at second 56 k small)
    i lt

-- ---- a block in its lanes

pub packed : (words out block : List ℕ) (b : ℕ) → b < 4 → length block ≡ 16 → ((i : ℕ) → get_or block i 0 < 256)
    → AreTurned words out
    → ((j k : ℕ) → j < 8 → k < 8
    → bit_at (get_or words b 0) (8 * j + k) ≡ bit_at (get_or block (4 * 0 + j / 2 + 8 * (j % 2)) 0) k)
    → ((j k : ℕ) → j < 8 → k < 8
    → bit_at (get_or words (b + 4) 0) (8 * j + k) ≡ bit_at (get_or block (4 * 1 + j / 2 + 8 * (j % 2)) 0) k)
    → state_in out b ≡ block
unfolding state_in
packed words out block b four size octets turned first second =
    sym (fill_by_all (λ i. lane out (lane_of b i)) block 16 0 size
    (λ i lt. sym (lane_from out (lane_of b i) (get_or block i 0) (octets i)
    (λ k small. turned k (lane_of b i) small (lane_below b i four lt) ∙ bit i k lt small))))
  where
    bit : (i k : ℕ) → i < 16 → k < 8
        → bit_at (get_or words (lane_of b i % 8) 0) (8 * (lane_of b i / 8) + k) ≡ bit_at (get_or block i 0) k
    bit i k lt small = elim (cases_lt (i / 4 % 2) 1) [
      | inl even ↦
          let word : lane_of b i % 8 ≡ b = omega arith in
          let place : 4 * 0 + lane_of b i / 8 / 2 + 8 * (lane_of b i / 8 % 2) ≡ i = omega arith in
          rw word (first (lane_of b i / 8) k (omega arith) small ∙ ap (λ n. bit_at (get_or block n 0) k) place)
      | inr odd ↦
          let word : lane_of b i % 8 ≡ b + 4 = omega arith in
          let place : 4 * 1 + lane_of b i / 8 / 2 + 8 * (lane_of b i / 8 % 2) ≡ i = omega arith in
          rw word (second (lane_of b i / 8) k (omega arith) small ∙ ap (λ n. bit_at (get_or block n 0) k) place)
    ]

pub unpacked : (words out block : List ℕ) (b : ℕ) → b < 4 → length block ≡ 16 → ((i : ℕ) → get_or block i 0 < 256)
    → AreTurned words out
    → ((i k : ℕ) → i < 16 → k < 8 → bit_at (get_or block i 0) k
    ≡ bit_at (get_or (get_or out b 0 ∷ get_or out (b + 4) 0 ∷ []) (i / 4 % 2) 0) (8 * (2 * (i % 4) + i / 8) + k))
    → block ≡ state_in words b
unfolding state_in
unpacked words out block b four size octets turned each =
    fill_by_all (λ i. lane words (lane_of b i)) block 16 0 size
    (λ i lt. sym (lane_from words (lane_of b i) (get_or block i 0) (octets i)
    (λ k small. sym (each i k lt small ∙ bit i k lt small))))
  where
    bit : (i k : ℕ) → i < 16 → k < 8
        → bit_at (get_or (get_or out b 0 ∷ get_or out (b + 4) 0 ∷ []) (i / 4 % 2) 0) (8 * (2 * (i % 4) + i / 8) + k)
        ≡ bit_at (get_or words k 0) (lane_of b i)
    bit i k lt small =
        let m : ℕ = 8 * (2 * (i % 4) + i / 8) + k in
        let word : m % 8 ≡ k = omega arith in
        elim (cases_lt (i / 4 % 2) 1) [
          | inl even ↦
              let none : i / 4 % 2 ≡ 0 = omega arith in
              let place : 8 * (m / 8) + b ≡ lane_of b i = omega arith in
              rw none (turned b m (omega arith) (omega arith) ∙ (λ j. bit_at (get_or words (word j) 0) (place j)))
          | inr odd ↦
              let one : i / 4 % 2 ≡ 1 = omega arith in
              let place : 8 * (m / 8) + (b + 4) ≡ lane_of b i = omega arith in
              rw one (turned (b + 4) m (omega arith) (omega arith) ∙ (λ j. bit_at (get_or words (word j) 0) (place j)))
        ]
