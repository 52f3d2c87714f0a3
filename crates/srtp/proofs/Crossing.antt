-- Bits of eight words that are turned round: a word's number for a bit's place in its octet.
use Rattle.std.proofs.Common.{◌≡◌, ℕ, zero, suc, ◌+◌, ◌-◌, ◌*◌, ◌/◌, ◌%◌, ◌^◌, ◌<◌, ◌≤◌, ◌==◌, ◌&&◌, nat_lt, Bool, true, List, [], ◌∷◌, get_or, bit_xor, bit_and, refl, ap, ◌∙◌, inl, inr, arith}
use Rattle.std.proofs.lemmas.Bool.{agree_below, agree_below_at, eqb-true, ltb-true, and_parts, cases_lt}
use Rattle.std.proofs.lemmas.Nat.Bits.{bit_at-lt}
use Rattle.std.specs.Int.{bit_at}
use Rattle.srtp.specs.declared.lanes.TheConstants.{HALVES}
use Rattle.srtp.specs.Lanes.{crossed, AreCrossed, AreTurned}
use Rattle.srtp.proofs.Each.{each_of_8}
use Rattle.srtp.proofs.BitMoves.{first_taken, first_left, second_taken, second_left}

-- each mask has the places whose bit t is 0
halves_are : (t : ℕ) → t < 3 → agree_below (λ m. bit_at (get_or HALVES t 0) m == 1 - bit_at m t) (λ m. true) 64 ≡ true
halves_are zero lt = refl
halves_are (suc zero) lt = refl
halves_are (suc (suc zero)) lt = refl
halves_are (suc (suc (suc t))) lt = absurd (omega arith)

half_at : (t m : ℕ) → t < 3 → m < 64 → bit_at (get_or HALVES t 0) m ≡ 1 - bit_at m t
half_at t m lt below =
    eqb-true _ _ (agree_below_at (λ n. bit_at (get_or HALVES t 0) n == 1 - bit_at n t) (λ n. true) 64 m
    (halves_are t lt) below)

-- a place that has bit t, and the one without it
above : (t m : ℕ) → t < 3 → bit_at m t ≡ 1 → (2 ^ t ≤ m) × (bit_at (m - 2 ^ t) t ≡ 0)
above zero m lt e = (omega arith, omega arith)
above (suc zero) m lt e = (omega arith, omega arith)
above (suc (suc zero)) m lt e = (omega arith, omega arith)
above (suc (suc (suc t))) m lt e = absurd (omega arith)

under : (t m : ℕ) → t < 3 → bit_at m t ≡ 0 → 2 ^ t ≤ m → bit_at (m - 2 ^ t) t ≡ 1
under zero m lt e le = omega arith
under (suc zero) m lt e le = omega arith
under (suc (suc zero)) m lt e le = omega arith
under (suc (suc (suc t))) m lt e le = absurd (omega arith)

-- Two words that exchange bits: which word a bit is of is told by bit t of its place, and its place there by the word
-- it comes to.
pub exchanged : (t a b i m : ℕ) → t < 3 → i < 2 → m < 64
    → let moved = bit_and (bit_xor (a / 2 ^ (2 ^ t)) b) (get_or HALVES t 0) in
    bit_at (get_or (bit_xor a (moved * 2 ^ (2 ^ t) % 2 ^ 64) ∷ bit_xor b moved ∷ []) i 0) m
    ≡ bit_at (get_or (a ∷ b ∷ []) (bit_at m t) 0) (m - bit_at m t * 2 ^ t + i * 2 ^ t)
exchanged t a b zero m lt two below = elim (cases_lt (bit_at m t) 1) [
  | inl none ↦
      let e : bit_at m t ≡ 0 = omega arith in
      let place : m - 0 * 2 ^ t + 0 * 2 ^ t ≡ m = omega arith in
      rw (e, place) (first_left a b (2 ^ t) (get_or HALVES t 0) m below (λ le.
      let f : bit_at (get_or HALVES t 0) (m - 2 ^ t) ≡ 1 - bit_at (m - 2 ^ t) t =
      half_at t (m - 2 ^ t) lt (omega arith) in
      omega (arith, f, under t m lt e le)))
  | inr some ↦
      let e : bit_at m t ≡ 1 = omega (arith, bit_at-lt m t) in
      let place : m - 1 * 2 ^ t + 0 * 2 ^ t ≡ m - 2 ^ t = omega arith in
      let p = above t m lt e in
      let f : bit_at (get_or HALVES t 0) (m - 2 ^ t) ≡ 1 - bit_at (m - 2 ^ t) t =
      half_at t (m - 2 ^ t) lt (omega arith) in
      rw (e, place) (first_taken a b (2 ^ t) (get_or HALVES t 0) m below p.0 (omega (arith, f, p.1)))
]
exchanged t a b (suc zero) m lt two below = elim (cases_lt (bit_at m t) 1) [
  | inl none ↦
      let e : bit_at m t ≡ 0 = omega arith in
      let place : m - 0 * 2 ^ t + 1 * 2 ^ t ≡ m + 2 ^ t = omega arith in
      let f : bit_at (get_or HALVES t 0) m ≡ 1 - bit_at m t = half_at t m lt below in
      rw (e, place) (second_taken a b (2 ^ t) (get_or HALVES t 0) m (omega (arith, f, e)))
  | inr some ↦
      let e : bit_at m t ≡ 1 = omega (arith, bit_at-lt m t) in
      let p = above t m lt e in
      let place : m - 1 * 2 ^ t + 1 * 2 ^ t ≡ m = omega (arith, p.0) in
      let f : bit_at (get_or HALVES t 0) m ≡ 1 - bit_at m t = half_at t m lt below in
      rw (e, place) (second_left a b (2 ^ t) (get_or HALVES t 0) m (omega (arith, f, e)))
]
exchanged t a b (suc (suc i)) m lt two below = absurd (omega arith)

-- the step is written as the code computes it
pub exchanged_by : (t by a b i m : ℕ) → by ≡ 2 ^ t → t < 3 → i < 2 → m < 64
    → let moved = bit_and (bit_xor (a / 2 ^ by) b) (get_or HALVES t 0) in
    bit_at (get_or (bit_xor a (moved * 2 ^ by % 2 ^ 64) ∷ bit_xor b moved ∷ []) i 0) m
    ≡ bit_at (get_or (a ∷ b ∷ []) (bit_at m t) 0) (m - bit_at m t * 2 ^ t + i * 2 ^ t)
exchanged_by t by a b i m e lt two below = rw e (exchanged t a b i m lt two below)

pub step_below : (t : ℕ) → t < 3 → 1 * 2 ^ t % 2 ^ 32 < 64
step_below zero lt = omega arith
step_below (suc zero) lt = omega arith
step_below (suc (suc zero)) lt = omega arith
step_below (suc (suc (suc t))) lt = absurd (omega arith)

pick : (words : List ℕ) (i by v : ℕ) → v < 2
    → get_or (get_or words i 0 ∷ get_or words (i + by) 0 ∷ []) v 0 ≡ get_or words (i + v * by) 0
pick words i by zero lt = ap (λ k. get_or words k 0) (omega arith)
pick words i by (suc zero) lt = ap (λ k. get_or words k 0) (omega arith)
pick words i by (suc (suc v)) lt = absurd (omega arith)

-- a bit that comes from one of two words of the eight, which lie 2^t apart
pub picked : (words : List ℕ) (t i m place r : ℕ)
    → r ≡ bit_at (get_or (get_or words i 0 ∷ get_or words (i + 2 ^ t) 0 ∷ []) (bit_at m t) 0) place
    → r ≡ bit_at (get_or words (i + bit_at m t * 2 ^ t) 0) place
picked words t i m place r e = e ∙ ap (λ w. bit_at w place) (pick words i (2 ^ t) (bit_at m t) (bit_at-lt m t))

-- Bit m of the word that comes out as word i, where bit t was crossed.
abbrev pub IsCrossed : (t : ℕ) (words : List ℕ) (m i out : ℕ) → Type 0
IsCrossed t words m i out = bit_at out m ≡ bit_at (get_or words (crossed t i m) 0) (crossed t m i)

pub all_crossed : (t : ℕ) (words : List ℕ) (m a b c d e f g h : ℕ)
    → IsCrossed t words m 0 a → IsCrossed t words m 1 b → IsCrossed t words m 2 c → IsCrossed t words m 3 d
    → IsCrossed t words m 4 e → IsCrossed t words m 5 f → IsCrossed t words m 6 g → IsCrossed t words m 7 h
    → (i : ℕ) → i < 8 → IsCrossed t words m i (get_or (a ∷ b ∷ c ∷ d ∷ e ∷ f ∷ g ∷ h ∷ []) i 0)
all_crossed t words m a b c d e f g h =
    each_of_8 (λ i. IsCrossed t words m i (get_or (a ∷ b ∷ c ∷ d ∷ e ∷ f ∷ g ∷ h ∷ []) i 0))

-- ---- all three bits crossed

-- where bit m of word i comes from: a word's number and a place, step by step
turns : ℕ → ℕ → Bool
turns i m =
    let i2 = crossed 2 i m in
    let m2 = crossed 2 m i in
    let i1 = crossed 1 i2 m2 in
    let m1 = crossed 1 m2 i2 in
    nat_lt i2 8 && nat_lt m2 64 && nat_lt i1 8 && nat_lt m1 64
    && (crossed 0 i1 m1 == m % 8)
    && (crossed 0 m1 i1 == 8 * (m / 8) + i)

all_turn : agree_below (λ n. turns (n / 64) (n % 64)) (λ n. true) 512 ≡ true
unfolding turns
all_turn = refl

turns_at : (i m : ℕ) → i < 8 → m < 64 → turns i m ≡ true
turns_at i m lt below =
    let row : (i * 64 + m) / 64 ≡ i = omega arith in
    let column : (i * 64 + m) % 64 ≡ m = omega arith in
    let h : turns ((i * 64 + m) / 64) ((i * 64 + m) % 64) ≡ true =
    agree_below_at (λ n. turns (n / 64) (n % 64)) (λ n. true) 512 (i * 64 + m) all_turn (omega arith) in
    rw (row, column) at h

pub turned : (words first second out : List ℕ)
    → AreCrossed 0 words first → AreCrossed 1 first second → AreCrossed 2 second out → AreTurned words out
unfolding turns
turned words first second out a b c i m lt below =
    let p = and_parts _ _ (turns_at i m lt below) in
    let q = and_parts _ _ p.0 in
    let r = and_parts _ _ q.0 in
    let s = and_parts _ _ r.0 in
    let u = and_parts _ _ s.0 in
    c i m lt below
    ∙ b _ _ (ltb-true _ _ u.0) (ltb-true _ _ u.1)
    ∙ a _ _ (ltb-true _ _ s.1) (ltb-true _ _ r.1)
    ∙ (λ j. bit_at (get_or words (eqb-true _ _ q.1 j) 0) (eqb-true _ _ p.1 j))
