-- The bits of a run, within one word and across words.
use Rattle.std.proofs.Common.{◌≡◌, ◌≢◌, ℕ, zero, suc, ◌+◌, ◌-◌, ◌*◌, ◌/◌, ◌%◌, ◌^◌, ◌<◌, ◌≤◌, ◌==◌, Bool, true, false, List, length, get_or, slice_set, cond, min, max, nat_lt, ap, sym, ◌∙◌, refl, arith, w64, bit_and, bit_or, count_ones, ltb-true, ltb-false}
use Rattle.std.specs.Prelude.{if◌then◌else◌}
use Rattle.std.specs.Int.{bit_at, bit_not}
use Rattle.std.proofs.lemmas.Bool.{cond_both, eqb-true, eqb-false}
use Rattle.std.proofs.lemmas.Bool.Decides.{nat_tests}
use Rattle.std.proofs.lemmas.List.{get_or-set_same, get_or-set_other, get_or_read}
use Rattle.std.proofs.lemmas.Nat.{and_le_r}
use native.Mathlib.Nat.{pow-suc}
use Rattle.std.proofs.lemmas.Nat.Bits.{bit_at-suc, bit_at_lowest, bit_at_and, bit_at_or, bit_at_not, bit_at-lt, bit_at_ones, bit_at_ones_above, bit_at_mask_inside, bit_at_mask_below, ones_shl, ones_shr}
use lib.Count.{ones_step, ones-le}
use Rattle.stores.specs.Bits.{is_set, bits_of, is_between, set_from}
use Rattle.stores.proofs.Passing.{passing}
use Rattle.stores.proofs.Tallies.{weight, one_more, same_tally, two_tallies, no_tally}

-- where a number lies to a run
pub by_run : (P : Type 0) (a b n : ℕ) → (n < a → P) → (a ≤ n → n < b → P) → (b ≤ n → P) → P
by_run P a b n below within above =
    cond_both (nat_lt n a) true false (λ _. P) (λ e. below (ltb-true _ _ e))
    (λ e. cond_both (nat_lt n b) true false (λ _. P) (λ f. within (ltb-false _ _ e) (ltb-true _ _ f)) (λ f. above (ltb-false _ _ f)))

pub between : (a b n : ℕ) → a ≤ n → n < b → is_between a b n ≡ true
between a b n l u = grind (arith, nat_tests)

pub before : (a b n : ℕ) → n < a → is_between a b n ≡ false
before a b n l = grind (arith, nat_tests)

pub behind : (a b n : ℕ) → b ≤ n → is_between a b n ≡ false
behind a b n u = grind (arith, nat_tests)

-- the mask

mask_value : (low high m : ℕ) → low < high → high ≤ 64 → m ≡ bit_and ((2 ^ 64 - 1) * 2 ^ low % 2 ^ 64) ((2 ^ 64 - 1) / 2 ^ (64 - high)) → m ≡ bit_and (2 ^ 64 - 2 ^ low) (2 ^ high - 1)
mask_value low high m some limit is =
    let left = ones_shl 64 low (omega arith) in
    let right = ones_shr 64 (64 - high) (omega arith) in
    let back : 64 - (64 - high) ≡ high = omega arith in
    is ∙ ap (λ x. bit_and x ((2 ^ 64 - 1) / 2 ^ (64 - high))) left ∙ ap (λ x. bit_and (2 ^ 64 - 2 ^ low) x) (right ∙ ap (λ k. 2 ^ k - 1) back)

pub mask_bit : (low high m k : ℕ) → low < high → high ≤ 64 → k < 64 → m ≡ bit_and ((2 ^ 64 - 1) * 2 ^ low % 2 ^ 64) ((2 ^ 64 - 1) / 2 ^ (64 - high)) →
    bit_at m k ≡ (if is_between low high k then 1 else 0)
mask_bit low high m k some limit small is =
    let both : bit_at m k ≡ min (bit_at (2 ^ 64 - 2 ^ low) k) (bit_at (2 ^ high - 1) k) = ap (λ x. bit_at x k) (mask_value low high m some limit is) ∙ bit_at_and (2 ^ 64 - 2 ^ low) (2 ^ high - 1) k in
    by_run (bit_at m k ≡ (if is_between low high k then 1 else 0)) low high k
    (λ l. let none : min 0 (bit_at (2 ^ high - 1) k) ≡ 0 = omega arith in
    both ∙ ap (λ x. min x (bit_at (2 ^ high - 1) k)) (bit_at_mask_below low 64 k l) ∙ none ∙ sym (ap (λ b. cond b 1 0) (before low high k l)))
    (λ l u. both ∙ ap (λ x. min x (bit_at (2 ^ high - 1) k)) (bit_at_mask_inside low 64 k l small) ∙ ap (λ x. min 1 x) (bit_at_ones high k u) ∙ sym (ap (λ b. cond b 1 0) (between low high k l u)))
    (λ u. let none : min (bit_at (2 ^ 64 - 2 ^ low) k) 0 ≡ 0 = omega arith in
    both ∙ ap (λ x. min (bit_at (2 ^ 64 - 2 ^ low) k) x) (bit_at_ones_above high k u) ∙ none ∙ sym (ap (λ b. cond b 1 0) (behind low high k u)))

-- how many bits of a word are set

bit_weight : (x : ℕ) → x < 2 → weight (x == 1) ≡ x
unfolding weight
bit_weight zero small = refl
bit_weight (suc zero) small = refl
bit_weight (suc (suc x)) small = absurd (omega arith)

first_bit : (n : ℕ) → weight (bit_at n 0 == 1) ≡ n % 2
first_bit n = bit_weight (bit_at n 0) (bit_at-lt n 0) ∙ bit_at_lowest n

pub ones_tally : (d n : ℕ) → n < 2 ^ d → count_ones n ≡ length (passing (λ k. bit_at n k == 1) 0 d)
ones_tally zero n l = omega (arith, ones-le 0 n l)
ones_tally (suc d) n l =
    let double = pow-suc 2 d in
    let step = ones_step n in
    let rest = ones_tally d (n / 2) (omega arith) in
    let one = one_more (λ k. bit_at n k == 1) 0 d in
    let low = first_bit n in
    let moved = same_tally (λ k. bit_at (n / 2) k == 1) (λ k. bit_at n k == 1) 0 1 d (λ i l. let up : 1 + i ≡ suc i = omega arith in let same : 0 + i ≡ i = omega arith in
    ap (λ k. bit_at n k == 1) up ∙ ap (λ x. x == 1) (bit_at-suc n i) ∙ ap (λ k. bit_at (n / 2) k == 1) (sym same)) in
    omega arith

masked : (t : Bool) (x y : ℕ) → x < 2 → y ≡ (if t then 1 else 0) → min x y ≡ (if t then x else 0)
masked true x y small e = omega arith
masked false x y small e = omega arith

-- a word of which a run was set or cleared

tested : (t : Bool) (v o : ℕ) (c : Bool) → (v == 1) ≡ c → ((if t then v else o) == 1) ≡ (if t then c else (o == 1))
tested true v o c e = e
tested false v o c e = refl

same_run : (i low high b : ℕ) → b / 64 ≡ i → is_between (64 * i + low) (64 * i + high) b ≡ is_between low high (b % 64)
same_run i low high b at =
    by_run (is_between (64 * i + low) (64 * i + high) b ≡ is_between low high (b % 64)) low high (b % 64)
    (λ l. before (64 * i + low) (64 * i + high) b (omega arith) ∙ sym (before low high (b % 64) l))
    (λ l u. between (64 * i + low) (64 * i + high) b (omega arith) (omega arith) ∙ sym (between low high (b % 64) l u))
    (λ u. behind (64 * i + low) (64 * i + high) b (omega arith) ∙ sym (behind low high (b % 64) u))

other_word : (i low high b : ℕ) → high ≤ 64 → b / 64 ≢ i → is_between (64 * i + low) (64 * i + high) b ≡ false
other_word i low high b limit apart =
    by_run (is_between (64 * i + low) (64 * i + high) b ≡ false) (64 * i + low) (64 * i + high) b
    (λ l. before (64 * i + low) (64 * i + high) b l)
    (λ l u. absurd (apart (omega arith)))
    (λ u. behind (64 * i + low) (64 * i + high) b u)

run_of_word : (words : List ℕ) (i low high word b v : ℕ) (c : Bool) → i < length words → high ≤ 64 → (v == 1) ≡ c →
    ((k : ℕ) → k < 64 → bit_at word k ≡ (if is_between low high k then v else bit_at (get_or words i 0) k)) →
    is_set (slice_set words i word) b ≡ (if is_between (64 * i + low) (64 * i + high) b then c else is_set words b)
run_of_word words i low high word b v c within limit value each =
    cond_both (b / 64 == i) true false (λ _. is_set (slice_set words i word) b ≡ (if is_between (64 * i + low) (64 * i + high) b then c else is_set words b))
    (λ e. let at : b / 64 ≡ i = eqb-true _ _ e in
    let got : get_or (slice_set words i word) (b / 64) 0 ≡ word = ap (λ j. get_or (slice_set words i word) j 0) at ∙ get_or-set_same words i word 0 within in
    let old : get_or words i 0 ≡ get_or words (b / 64) 0 = ap (λ j. get_or words j 0) (sym at) in
    ap (λ w. bit_at w (b % 64) == 1) got ∙ ap (λ n. n == 1) (each (b % 64) (omega arith)) ∙ tested (is_between low high (b % 64)) v (bit_at (get_or words i 0) (b % 64)) c value
    ∙ ap (λ w. if is_between low high (b % 64) then c else (bit_at w (b % 64) == 1)) old
    ∙ ap (λ t. if t then c else is_set words b) (sym (same_run i low high b at)))
    (λ e. let apart : b / 64 ≢ i = eqb-false _ _ e in
    ap (λ w. bit_at w (b % 64) == 1) (get_or-set_other words i (b / 64) word 0 apart) ∙ sym (ap (λ t. if t then c else is_set words b) (other_word i low high b limit apart)))

or_mask : (t : Bool) (x y : ℕ) → x < 2 → y ≡ (if t then 1 else 0) → max x y ≡ (if t then 1 else x)
or_mask true x y small e = omega arith
or_mask false x y small e = omega arith

and_not_mask : (t : Bool) (x y : ℕ) → x < 2 → y ≡ (if t then 1 else 0) → min x (1 - y) ≡ (if t then 0 else x)
and_not_mask true x y small e = omega arith
and_not_mask false x y small e = omega arith

module _ (words : List ℕ) (from end word mask : ℕ) (some : from < end) (within : end ≤ bits_of words) (one : end ≤ 64 * (from / 64) + 64) (is : word ≡ get_or words (from / 64) word)
    (bits : (k : ℕ) → k < 64 → bit_at mask k ≡ (if is_between (from % 64) (end - 64 * (from / 64)) k then 1 else 0)) where
  there : word ≡ get_or words (from / 64) 0
  there = get_or_read words (from / 64) word (omega arith) is 0

  ends : (b : ℕ) → is_between (64 * (from / 64) + from % 64) (64 * (from / 64) + (end - 64 * (from / 64))) b ≡ is_between from end b
  ends b =
      let first : 64 * (from / 64) + from % 64 ≡ from = omega arith in
      let last : 64 * (from / 64) + (end - 64 * (from / 64)) ≡ end = omega arith in
      ap (λ x. is_between x (64 * (from / 64) + (end - 64 * (from / 64))) b) first ∙ ap (λ x. is_between from x b) last

  pub run_set : (b : ℕ) → is_set (slice_set words (from / 64) (bit_or word mask)) b ≡ (if is_between from end b then true else is_set words b)
  run_set b =
      run_of_word words (from / 64) (from % 64) (end - 64 * (from / 64)) (bit_or word mask) b 1 true (omega arith) (omega arith) refl
      (λ k small. bit_at_or word mask k ∙ or_mask (is_between (from % 64) (end - 64 * (from / 64)) k) (bit_at word k) (bit_at mask k) (bit_at-lt word k) (bits k small)
      ∙ ap (λ w. if is_between (from % 64) (end - 64 * (from / 64)) k then 1 else bit_at w k) there)
      ∙ ap (λ t. if t then true else is_set words b) (ends b)

  pub run_clear : mask < 2 ^ 64 → (b : ℕ) → is_set (slice_set words (from / 64) (bit_and word (bit_not w64 mask))) b ≡ (if is_between from end b then false else is_set words b)
  run_clear fits b =
      run_of_word words (from / 64) (from % 64) (end - 64 * (from / 64)) (bit_and word (bit_not w64 mask)) b 0 false (omega arith) (omega arith) refl
      (λ k small. bit_at_and word (bit_not w64 mask) k ∙ ap (λ x. min (bit_at word k) x) (bit_at_not w64 mask k fits small)
      ∙ and_not_mask (is_between (from % 64) (end - 64 * (from / 64)) k) (bit_at word k) (bit_at mask k) (bit_at-lt word k) (bits k small)
      ∙ ap (λ w. if is_between (from % 64) (end - 64 * (from / 64)) k then 0 else bit_at w k) there)
      ∙ ap (λ t. if t then false else is_set words b) (ends b)

  masked_bit : (k : ℕ) → k < 64 → bit_at (bit_and word mask) k ≡ (if is_between (from % 64) (end - 64 * (from / 64)) k then bit_at word k else 0)
  masked_bit k small = bit_at_and word mask k ∙ masked (is_between (from % 64) (end - 64 * (from / 64)) k) (bit_at word k) (bit_at mask k) (bit_at-lt word k) (bits k small)

  unset : (k : ℕ) → k < 64 → is_between (from % 64) (end - 64 * (from / 64)) k ≡ false → (bit_at (bit_and word mask) k == 1) ≡ false
  unset k small out = ap (λ x. x == 1) (masked_bit k small) ∙ ap (λ t. (if t then bit_at word k else 0) == 1) out

  kept : (i : ℕ) → i < end - from → is_set words (from + i) ≡ (bit_at (bit_and word mask) (from % 64 + i) == 1)
  kept i l =
      let at : (from + i) / 64 ≡ from / 64 = omega arith in
      let low : (from + i) % 64 ≡ from % 64 + i = omega arith in
      let inside = between (from % 64) (end - 64 * (from / 64)) (from % 64 + i) (omega arith) (omega arith) in
      ap (λ j. bit_at (get_or words j 0) ((from + i) % 64) == 1) at ∙ ap (λ k. bit_at (get_or words (from / 64) 0) k == 1) low ∙ ap (λ w. bit_at w (from % 64 + i) == 1) (sym there)
      ∙ sym (ap (λ x. x == 1) (masked_bit (from % 64 + i) (omega arith)) ∙ ap (λ t. (if t then bit_at word (from % 64 + i) else 0) == 1) inside)

  pub run_count : mask < 2 ^ 64 → count_ones (bit_and word mask) ≡ set_from words from (end - from)
  run_count small =
      let f : ℕ → Bool = λ k. bit_at (bit_and word mask) k == 1 in
      let low : ℕ = from % 64 in
      let high : ℕ = end - 64 * (from / 64) in
      let whole : low + ((end - from) + (64 - high)) ≡ 64 = omega arith in
      let fits : bit_and word mask < 2 ^ 64 = omega (arith, and_le_r word mask) in
      let all = ones_tally 64 (bit_and word mask) fits in
      let sized = ap (λ n. length (passing f 0 n)) whole in
      let cut = two_tallies f 0 low ((end - from) + (64 - high)) in
      let again = two_tallies f (0 + low) (end - from) (64 - high) in
      let under = no_tally f 0 low (λ i l. unset (0 + i) (omega arith) (before low high (0 + i) (omega arith))) in
      let over = no_tally f (0 + low + (end - from)) (64 - high) (λ i l. unset (0 + low + (end - from) + i) (omega arith) (behind low high (0 + low + (end - from) + i) (omega arith))) in
      let here = same_tally f (is_set words) (0 + low) from (end - from) (λ i l. kept i l ∙ (let same : from % 64 + i ≡ 0 + low + i = omega arith in ap f same)) in
      omega arith

-- a run that was done so far, and the part of it that is next
run_on : (from bit next b : ℕ) (c o : Bool) → from ≤ bit → bit ≤ next → (if is_between bit next b then c else (if is_between from bit b then c else o)) ≡ (if is_between from next b then c else o)
run_on from bit next b c o l u = grind (arith, nat_tests)

pub run_more : (initial old new : List ℕ) (from bit next : ℕ) (c : Bool) → from ≤ bit → bit ≤ next →
    ((b : ℕ) → is_set old b ≡ (if is_between from bit b then c else is_set initial b)) → ((b : ℕ) → is_set new b ≡ (if is_between bit next b then c else is_set old b)) →
    (b : ℕ) → is_set new b ≡ (if is_between from next b then c else is_set initial b)
run_more initial old new from bit next c l u done step b =
    step b ∙ ap (λ o. if is_between bit next b then c else o) (done b) ∙ run_on from bit next b c (is_set initial b) l u

pub count_more : (initial old : List ℕ) (from bit next : ℕ) → from ≤ bit → bit ≤ next → ((b : ℕ) → is_set old b ≡ (if is_between from bit b then false else is_set initial b)) →
    set_from initial from (bit - from) + set_from old bit (next - bit) ≡ set_from initial from (next - from)
count_more initial old from bit next l u done =
    let here = same_tally (is_set initial) (is_set old) bit bit (next - bit) (λ i s. done (bit + i) ∙ ap (λ t. if t then false else is_set initial (bit + i)) (behind from bit (bit + i) (omega arith))) in
    let cut = two_tallies (is_set initial) from (bit - from) (next - bit) in
    let start : from + (bit - from) ≡ bit = omega arith in
    let whole : (bit - from) + (next - bit) ≡ next - from = omega arith in
    let at = ap (λ b. length (passing (is_set initial) b (next - bit))) start in
    let all = ap (λ n. length (passing (is_set initial) from n)) whole in
    omega arith
