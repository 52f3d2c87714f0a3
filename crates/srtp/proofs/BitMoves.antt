-- Where the bits of a word go.
use Rattle.std.proofs.Common.{◌≡◌, ℕ, ◌+◌, ◌-◌, ◌*◌, ◌/◌, ◌%◌, ◌^◌, ◌<◌, ◌≤◌, ◌==◌, ◌&&◌, nat_le, false, if◌then◌else◌, bit_xor, bit_and, refl, sym, ap, ◌∙◌, inl, inr, arith}
use Rattle.std.proofs.lemmas.Bool.{cases_lt, cond_both, eqb-true, eqb-false, leb-true, leb-false, and_parts, and_cases}
use Rattle.std.proofs.lemmas.Nat.{shr-shr, and_mask, xor_lt, xor_comm, pow_pos}
use Rattle.std.proofs.Math.Nat.{mod-eq_of_lt}
use Rattle.std.proofs.lemmas.Nat.Bits.{bit_at-lt, bit_at_cat_low, bit_at_cat_high, bit_at-zero, bit_at_or, bit_at_above}
use Rattle.std.specs.Int.{bit_at, w64, rotate_right}
use Rattle.std.specs.Int.Bits.{xor_self, xor_assoc, xor_zero_r, xor_zero_l, and_zero_r}
use Rattle.srtp.specs.Lanes.{swapped}
use Rattle.srtp.proofs.LaneBits.{xor_at, and_at}

pub shr_at : (n k l : ℕ) → bit_at (n / 2 ^ k) l ≡ bit_at n (l + k)
shr_at n k l =
    let e : k + l ≡ l + k = omega arith in
    ap (λ m. m % 2) (shr-shr n k l ∙ ap (λ i. n / 2 ^ i) e)

-- what falls out at the top has no part in the bits below
low_at : (n l : ℕ) → l < 64 → bit_at (n % 2 ^ 64) l ≡ bit_at n l
low_at n l lt =
    let whole : n ≡ n / 2 ^ 64 * 2 ^ 64 + n % 2 ^ 64 = omega arith in
    sym (ap (λ m. bit_at m l) whole ∙ bit_at_cat_low (n / 2 ^ 64) 64 (n % 2 ^ 64) l lt)

pub shl_below : (n k l : ℕ) → l < 64 → l < k → bit_at (n * 2 ^ k % 2 ^ 64) l ≡ 0
shl_below n k l lt below =
    let e : n * 2 ^ k ≡ n * 2 ^ k + 0 = omega arith in
    low_at (n * 2 ^ k) l lt ∙ ap (λ m. bit_at m l) e ∙ bit_at_cat_low n k 0 l below ∙ bit_at-zero l

pub shl_from : (n k l : ℕ) → l < 64 → k ≤ l → bit_at (n * 2 ^ k % 2 ^ 64) l ≡ bit_at n (l - k)
shl_from n k l lt le =
    let e : n * 2 ^ k ≡ n * 2 ^ k + 0 = omega arith in
    low_at (n * 2 ^ k) l lt ∙ ap (λ m. bit_at m l) e ∙ bit_at_cat_high n k 0 l (pow_pos k) le

-- what a mask brings in of a difference: all, or nothing
taken : (x y m : ℕ) → x < 2 → y < 2 → m ≡ 1 → bit_xor x (bit_and (bit_xor y x) m) ≡ y
taken x y m lx ly e =
    let small : bit_xor y x % 2 ^ 1 ≡ bit_xor y x = mod-eq_of_lt (xor_lt 1 y x ly lx) in
    rw (e, and_mask (bit_xor y x) 1, small, xor_comm y x, ← xor_assoc x x y, xor_self x) (xor_zero_l y)

left : (x y m : ℕ) → m ≡ 0 → bit_xor x (bit_and y m) ≡ x
left x y m e = rw (e, and_zero_r y) (xor_zero_r x)

-- ---- bits of a mask in one word for those `by` above them in another

moved_at : (a b by mask m : ℕ)
    → bit_at (bit_and (bit_xor (a / 2 ^ by) b) mask) m
    ≡ bit_and (bit_xor (bit_at a (m + by)) (bit_at b m)) (bit_at mask m)
moved_at a b by mask m = rw (and_at (bit_xor (a / 2 ^ by) b) mask m, xor_at (a / 2 ^ by) b m, shr_at a by m) refl

-- where the mask brings a bit in, and where it brings none in: of the second word
pub second_taken : (a b by mask m : ℕ) → bit_at mask m ≡ 1
    → bit_at (bit_xor b (bit_and (bit_xor (a / 2 ^ by) b) mask)) m ≡ bit_at a (m + by)
second_taken a b by mask m one =
    rw (xor_at b (bit_and (bit_xor (a / 2 ^ by) b) mask) m, moved_at a b by mask m)
    (taken (bit_at b m) (bit_at a (m + by)) (bit_at mask m) (bit_at-lt b m) (bit_at-lt a (m + by)) one)

pub second_left : (a b by mask m : ℕ) → bit_at mask m ≡ 0
    → bit_at (bit_xor b (bit_and (bit_xor (a / 2 ^ by) b) mask)) m ≡ bit_at b m
second_left a b by mask m none =
    rw (xor_at b (bit_and (bit_xor (a / 2 ^ by) b) mask) m, moved_at a b by mask m)
    (left (bit_at b m) _ (bit_at mask m) none)

-- and of the first
pub first_taken : (a b by mask m : ℕ) → m < 64 → by ≤ m → bit_at mask (m - by) ≡ 1
    → bit_at (bit_xor a (bit_and (bit_xor (a / 2 ^ by) b) mask * 2 ^ by % 2 ^ 64)) m ≡ bit_at b (m - by)
first_taken a b by mask m lt le one =
    let there : m - by + by ≡ m = omega arith in
    rw (
      xor_at a (bit_and (bit_xor (a / 2 ^ by) b) mask * 2 ^ by % 2 ^ 64) m,
      shl_from (bit_and (bit_xor (a / 2 ^ by) b) mask) by m lt le,
      moved_at a b by mask (m - by),
      there,
      xor_comm (bit_at a m) (bit_at b (m - by)),
    )
    (taken (bit_at a m) (bit_at b (m - by)) (bit_at mask (m - by)) (bit_at-lt a m) (bit_at-lt b (m - by)) one)

shifted_none : (a b by mask m : ℕ) → m < 64 → (by ≤ m → bit_at mask (m - by) ≡ 0)
    → bit_at (bit_and (bit_xor (a / 2 ^ by) b) mask * 2 ^ by % 2 ^ 64) m ≡ 0
shifted_none a b by mask m lt none = elim (cases_lt m by) [
  | inl below ↦ shl_below (bit_and (bit_xor (a / 2 ^ by) b) mask) by m lt below
  | inr le ↦
      shl_from (bit_and (bit_xor (a / 2 ^ by) b) mask) by m lt le
      ∙ moved_at a b by mask (m - by) ∙ rw (none le) (and_zero_r (bit_xor (bit_at a (m - by + by)) (bit_at b (m - by))))
]

pub first_left : (a b by mask m : ℕ) → m < 64 → (by ≤ m → bit_at mask (m - by) ≡ 0)
    → bit_at (bit_xor a (bit_and (bit_xor (a / 2 ^ by) b) mask * 2 ^ by % 2 ^ 64)) m ≡ bit_at a m
first_left a b by mask m lt none =
    xor_at a (bit_and (bit_xor (a / 2 ^ by) b) mask * 2 ^ by % 2 ^ 64) m
    ∙ rw (shifted_none a b by mask m lt none) (xor_zero_r (bit_at a m))

-- ---- bits of a mask and those `by` above them in one word

not_one : (n l : ℕ) → (bit_at n l ≡ 1 → ⊥) → bit_at n l ≡ 0
not_one n l h = omega (arith, bit_at-lt n l, h)

-- a mask that shares no bit with what lies `by` above it
apart_at : (mask by m : ℕ) → m < 64 → bit_and mask (mask * 2 ^ by % 2 ^ 64) ≡ 0 → bit_at mask m ≡ 1 → by ≤ m
    → bit_at mask (m - by) ≡ 0
apart_at mask by m lt none one le = not_one mask (m - by) (λ e.
    let both : bit_and (bit_at mask m) (bit_at (mask * 2 ^ by % 2 ^ 64) m) ≡ 0 =
    sym (and_at mask (mask * 2 ^ by % 2 ^ 64) m) ∙ ap (λ n. bit_at n m) none ∙ bit_at-zero m in
    let h : bit_and 1 1 ≡ 0 = rw (one, shl_from mask by m lt le, e) at both in
    absurd (omega (arith, h)))

pub swap_at : (word mask by m : ℕ) → m < 64 → bit_and mask (mask * 2 ^ by % 2 ^ 64) ≡ 0
    → let moved = bit_and (bit_xor (word / 2 ^ by) word) mask in
    bit_at (bit_xor (bit_xor word moved) (moved * 2 ^ by % 2 ^ 64)) m ≡ bit_at word (swapped mask by m)
swap_at word mask by m lt none =
    xor_at (bit_xor word moved) (moved * 2 ^ by % 2 ^ 64) m
    ∙ cond_both (bit_at mask m == 1) (m + by) (if nat_le by m && (bit_at mask (m - by) == 1) then m - by else m)
    (λ v. bit_xor (bit_at (bit_xor word moved) m) (bit_at (moved * 2 ^ by % 2 ^ 64) m) ≡ bit_at word v)
    (λ e.
    let one : bit_at mask m ≡ 1 = eqb-true _ _ e in
    rw (second_taken word word by mask m one, shifted_none word word by mask m lt (apart_at mask by m lt none one))
    (xor_zero_r (bit_at word (m + by))))
    (λ e. rw (second_left word word by mask m (not_one mask m (eqb-false _ _ e))) (first e))
  where
    moved : ℕ
    moved = bit_and (bit_xor (word / 2 ^ by) word) mask

    above : (nat_le by m && (bit_at mask (m - by) == 1)) ≡ false → by ≤ m → bit_at mask (m - by) ≡ 0
    above e le = elim (and_cases _ _ e) [
      | inl past ↦ absurd (omega (arith, leb-false by m past))
      | inr not ↦ not_one mask (m - by) (eqb-false _ _ not)
    ]

    first : (bit_at mask m == 1) ≡ false
        → bit_xor (bit_at word m) (bit_at (moved * 2 ^ by % 2 ^ 64) m)
        ≡ bit_at word (if nat_le by m && (bit_at mask (m - by) == 1) then m - by else m)
    first e =
        sym (xor_at word (moved * 2 ^ by % 2 ^ 64) m)
        ∙ cond_both (nat_le by m && (bit_at mask (m - by) == 1)) (m - by) m
        (λ v. bit_at (bit_xor word (moved * 2 ^ by % 2 ^ 64)) m ≡ bit_at word v)
        (λ f. let p = and_parts _ _ f in first_taken word word by mask m lt (leb-true by m p.0) (eqb-true _ _ p.1))
        (λ f. first_left word word by mask m lt (above f))

-- ---- a rotation

pub turn_at : (word by m : ℕ) → word < 2 ^ 64 → 0 < by → by < 64 → m < 64
    → bit_at (rotate_right w64 word by) m ≡ bit_at word ((m + by) % 64)
turn_at word by m fits some short lt =
    let same : by % 64 ≡ by = omega arith in
    let rest : (64 - by) % 64 ≡ 64 - by = omega arith in
    rw (same, rest) (bit_at_or (word / 2 ^ by) (word * 2 ^ (64 - by) % 2 ^ 64) m ∙ elim (cases_lt (m + by) 64) [
      | inl below ↦
          let there : (m + by) % 64 ≡ m + by = omega arith in
          rw (there, shr_at word by m, shl_below word (64 - by) m lt (omega arith)) (omega arith)
      | inr past ↦
          let there : (m + by) % 64 ≡ m - (64 - by) = omega arith in
          let back : 64 - by ≤ m = omega arith in
          rw (there, shr_at word by m, bit_at_above word 64 (m + by) fits past, shl_from word (64 - by) m lt back)
          (omega arith)
    ])
