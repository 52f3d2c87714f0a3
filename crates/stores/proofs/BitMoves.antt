-- The positions of a set of bits when a run of them is set or cleared, and when all move down.
use Rattle.std.proofs.Common.{◌≡◌, ℕ, ◌+◌, ◌-◌, ◌*◌, ◌<◌, ◌≤◌, Bool, true, false, List, length, min, nat_lt, ap, sym, ◌∙◌, refl, arith, ltb-true, ltb-false}
use Rattle.std.specs.Prelude.{if◌then◌else◌}
use Rattle.std.proofs.lemmas.Bool.{cond_both}
use Rattle.std.proofs.lemmas.Bool.Decides.{nat_tests}
use Rattle.stores.specs.Bits.{is_set, bits_of, turned, is_member, size_of, is_between, set_from, members_below}
use Rattle.stores.proofs.Passing.{passing}
use Rattle.stores.proofs.Tallies.{same_tally, two_tallies, no_tally, full_tally}
use Rattle.stores.proofs.BitRanges.{by_run, between, before, behind}

-- where a position's bit is

turned_low : (bound front p : ℕ) → front + p < bound → turned bound front p ≡ front + p
turned_low bound front p l = grind (arith, nat_tests)

turned_high : (bound front p : ℕ) → bound ≤ front + p → turned bound front p ≡ front + p - bound
turned_high bound front p u = grind (arith, nat_tests)

chosen : (t : Bool) (c : Bool) → (if t then c else c) ≡ c
chosen true c = refl
chosen false c = refl

-- the runs of bits that stand for a run of positions
module _ (bound front from count a b low high : ℕ) (inside : front < bound) (fits : from + count ≤ bound)
    (a_is : a ≡ min (front + from) bound) (b_is : b ≡ min (front + from + count) bound) (low_is : low ≡ front + from - bound) (high_is : high ≡ front + from + count - bound) where
  run_upper : (p : ℕ) (c o : Bool) → front + p < bound →
      (if is_between low high (front + p) then c else (if is_between a b (front + p) then c else o)) ≡ (if is_between from (from + count) p then c else o)
  run_upper p c o l =
      by_run ((if is_between low high (front + p) then c else (if is_between a b (front + p) then c else o)) ≡ (if is_between from (from + count) p then c else o)) from (from + count) p
      (λ under. ap (λ t. if t then c else (if is_between a b (front + p) then c else o)) (behind low high (front + p) (omega arith)) ∙ ap (λ t. if t then c else o) (before a b (front + p) (omega arith))
      ∙ sym (ap (λ t. if t then c else o) (before from (from + count) p under)))
      (λ i j. ap (λ t. if is_between low high (front + p) then c else (if t then c else o)) (between a b (front + p) (omega arith) (omega arith)) ∙ chosen (is_between low high (front + p)) c
      ∙ sym (ap (λ t. if t then c else o) (between from (from + count) p i j)))
      (λ over. ap (λ t. if t then c else (if is_between a b (front + p) then c else o)) (behind low high (front + p) (omega arith)) ∙ ap (λ t. if t then c else o) (behind a b (front + p) (omega arith))
      ∙ sym (ap (λ t. if t then c else o) (behind from (from + count) p over)))

  run_lower : (p : ℕ) (c o : Bool) → bound ≤ front + p → p < bound →
      (if is_between low high (front + p - bound) then c else (if is_between a b (front + p - bound) then c else o)) ≡ (if is_between from (from + count) p then c else o)
  run_lower p c o u l =
      by_run ((if is_between low high (front + p - bound) then c else (if is_between a b (front + p - bound) then c else o)) ≡ (if is_between from (from + count) p then c else o)) from (from + count) p
      (λ under. ap (λ t. if t then c else (if is_between a b (front + p - bound) then c else o)) (before low high (front + p - bound) (omega arith)) ∙ ap (λ t. if t then c else o) (before a b (front + p - bound) (omega arith))
      ∙ sym (ap (λ t. if t then c else o) (before from (from + count) p under)))
      (λ i j. ap (λ t. if t then c else (if is_between a b (front + p - bound) then c else o)) (between low high (front + p - bound) (omega arith) (omega arith))
      ∙ sym (ap (λ t. if t then c else o) (between from (from + count) p i j)))
      (λ over. ap (λ t. if t then c else (if is_between a b (front + p - bound) then c else o)) (behind low high (front + p - bound) (omega arith)) ∙ ap (λ t. if t then c else o) (before a b (front + p - bound) (omega arith))
      ∙ sym (ap (λ t. if t then c else o) (behind from (from + count) p over)))

  run_turned : (p : ℕ) (c : Bool) (o : ℕ → Bool) → p < bound →
      (if is_between low high (turned bound front p) then c else (if is_between a b (turned bound front p) then c else o (turned bound front p))) ≡ (if is_between from (from + count) p then c else o (turned bound front p))
  run_turned p c o l =
      cond_both (nat_lt (front + p) bound) true false
      (λ _. (if is_between low high (turned bound front p) then c else (if is_between a b (turned bound front p) then c else o (turned bound front p))) ≡ (if is_between from (from + count) p then c else o (turned bound front p)))
      (λ e. let at = turned_low bound front p (ltb-true _ _ e) in
      ap (λ n. if is_between low high n then c else (if is_between a b n then c else o (turned bound front p))) at ∙ run_upper p c (o (turned bound front p)) (ltb-true _ _ e))
      (λ e. let at = turned_high bound front p (ltb-false _ _ e) in
      ap (λ n. if is_between low high n then c else (if is_between a b n then c else o (turned bound front p))) at ∙ run_lower p c (o (turned bound front p)) (ltb-false _ _ e) l)

  -- a run of positions was set or cleared, in two runs of bits
  pub run_members : (old mid new : List ℕ) (c : Bool) → bound ≡ bits_of old → length new ≡ length old → ((n : ℕ) → is_set mid n ≡ (if is_between a b n then c else is_set old n)) →
      ((n : ℕ) → is_set new n ≡ (if is_between low high n then c else is_set mid n)) → (p : ℕ) → p < bound →
      is_member new front p ≡ (if is_between from (from + count) p then c else is_member old front p)
  run_members old mid new c size long first second p l =
      let same : bits_of new ≡ bound = ap (λ n. 64 * n) long ∙ sym size in
      ap (λ n. is_set new (turned n front p)) same ∙ second (turned bound front p) ∙ ap (λ o. if is_between low high (turned bound front p) then c else o) (first (turned bound front p))
      ∙ run_turned p c (is_set old) l ∙ ap (λ n. if is_between from (from + count) p then c else is_set old (turned n front p)) size

-- how many positions there are, by their bits

-- of the first positions
pub members_of_bits : (words : List ℕ) (front count n m : ℕ) → front < bits_of words → count ≤ bits_of words → n ≡ min (front + count) (bits_of words) - front → m ≡ front + count - bits_of words →
    members_below words front count ≡ set_from words front n + set_from words 0 m
members_of_bits words front count n m inside fits n_is m_is =
    let f : ℕ → Bool = is_member words front in
    let whole : n + m ≡ count = omega arith in
    let all = ap (λ k. length (passing f 0 k)) whole in
    let cut = two_tallies f 0 n m in
    let upper = same_tally f (is_set words) 0 front n (λ i l. sym (let same : 0 + i ≡ i = omega arith in ap f same ∙ ap (is_set words) (turned_low (bits_of words) front i (omega arith)))) in
    let lower = same_tally f (is_set words) (0 + n) 0 m (λ i l. sym (let same : front + (0 + n + i) - bits_of words ≡ 0 + i = omega arith in ap (is_set words) (turned_high (bits_of words) front (0 + n + i) (omega arith) ∙ same))) in
    omega arith

-- of all
pub members_are_bits : (words : List ℕ) (front : ℕ) → front < bits_of words → members_below words front (bits_of words) ≡ size_of words
unfolding size_of
members_are_bits words front inside =
    let is = members_of_bits words front (bits_of words) (bits_of words - front) front inside (omega arith) (omega arith) (omega arith) in
    let cut = two_tallies (is_set words) 0 front (bits_of words - front) in
    let whole : front + (bits_of words - front) ≡ bits_of words = omega arith in
    let all = ap (λ k. length (passing (is_set words) 0 k)) whole in
    let start : 0 + front ≡ front = omega arith in
    let moved = ap (λ k. length (passing (is_set words) k (bits_of words - front))) start in
    omega arith

-- a run of positions that the set had not is in it
pub size_after_range : (old new : List ℕ) (front after from count : ℕ) → length new ≡ length old → front < bits_of old → after < bits_of new → from + count ≤ bits_of old →
    ((p : ℕ) → from ≤ p → p < from + count → is_member old front p ≡ false) →
    ((p : ℕ) → p < bits_of old → is_member new after p ≡ (if is_between from (from + count) p then true else is_member old front p)) → size_of new ≡ size_of old + count
size_after_range old new front after from count long inside inside₂ fits none members =
    let f : ℕ → Bool = is_member old front in
    let g : ℕ → Bool = is_member new after in
    let rest : ℕ = bits_of old - (from + count) in
    let whole : from + (count + rest) ≡ bits_of old = omega arith in
    let before_all = sym (members_are_bits old front inside) ∙ sym (ap (λ k. length (passing f 0 k)) whole) in
    let after_all = sym (members_are_bits new after inside₂) ∙ ap (λ k. members_below new after (64 * k)) long ∙ sym (ap (λ k. length (passing g 0 k)) whole) in
    let f₁ = two_tallies f 0 from (count + rest) in
    let f₂ = two_tallies f (0 + from) count rest in
    let g₁ = two_tallies g 0 from (count + rest) in
    let g₂ = two_tallies g (0 + from) count rest in
    let low = same_tally f g 0 0 from (λ i l. members (0 + i) (omega arith) ∙ ap (λ t. if t then true else f (0 + i)) (before from (from + count) (0 + i) (omega arith))) in
    let was = no_tally f (0 + from) count (λ i l. none (0 + from + i) (omega arith) (omega arith)) in
    let is = full_tally g (0 + from) count (λ i l. members (0 + from + i) (omega arith) ∙ ap (λ t. if t then true else f (0 + from + i)) (between from (from + count) (0 + from + i) (omega arith) (omega arith))) in
    let high = same_tally f g (0 + from + count) (0 + from + count) rest (λ i l. members (0 + from + count + i) (omega arith) ∙ ap (λ t. if t then true else f (0 + from + count + i)) (behind from (from + count) (0 + from + count + i) (omega arith))) in
    omega arith

-- the first positions went, and the others moved down

pub moved_bit : (bound front count after p : ℕ) → front < bound → count ≤ bound → after ≡ (if nat_lt (front + count) bound then front + count else front + count - bound) → p < bound →
    turned bound after p ≡ turned bound front (if nat_lt (p + count) bound then p + count else p + count - bound)
moved_bit bound front count after p inside fits is l = grind (arith, nat_tests)

module _ (old cleared : List ℕ) (front after count : ℕ) (long : length cleared ≡ length old) (inside : front < bits_of old) (fits : count ≤ bits_of old)
    (is : after ≡ (if nat_lt (front + count) (bits_of old) then front + count else front + count - bits_of old))
    (members : (p : ℕ) → p < bits_of old → is_member cleared front p ≡ (if is_between 0 (0 + count) p then false else is_member old front p)) where
  moved : (p q : ℕ) → p < bits_of old → q ≡ (if nat_lt (p + count) (bits_of old) then p + count else p + count - bits_of old) → is_member cleared after p ≡ is_member cleared front q
  moved p q l q_is =
      ap (λ n. is_set cleared (turned (64 * n) after p)) long ∙ ap (is_set cleared) (moved_bit (bits_of old) front count after p inside fits is l)
      ∙ ap (λ n. is_set cleared (turned (bits_of old) front n)) (sym q_is) ∙ sym (ap (λ n. is_set cleared (turned (64 * n) front q)) long)

  moved_down : (p : ℕ) → p + count < bits_of old → is_member cleared after p ≡ is_member old front (p + count)
  moved_down p l =
      moved p (p + count) (omega arith) (grind (arith, nat_tests)) ∙ members (p + count) l ∙ ap (λ t. if t then false else is_member old front (p + count)) (behind 0 (0 + count) (p + count) (omega arith))

  moved_out : (p : ℕ) → p < bits_of old → bits_of old ≤ p + count → is_member cleared after p ≡ false
  moved_out p l u =
      moved p (p + count - bits_of old) l (grind (arith, nat_tests)) ∙ members (p + count - bits_of old) (omega arith)
      ∙ ap (λ t. if t then false else is_member old front (p + count - bits_of old)) (between 0 (0 + count) (p + count - bits_of old) (omega arith) (omega arith))

  pub shifted_members : (p : ℕ) → p < bits_of old → is_member cleared after p ≡ (if nat_lt (p + count) (bits_of old) then is_member old front (p + count) else false)
  shifted_members p l =
      cond_both (nat_lt (p + count) (bits_of old)) true false (λ _. is_member cleared after p ≡ (if nat_lt (p + count) (bits_of old) then is_member old front (p + count) else false))
      (λ e. moved_down p (ltb-true _ _ e) ∙ sym (ap (λ t. if t then is_member old front (p + count) else false) e))
      (λ e. moved_out p l (ltb-false _ _ e) ∙ sym (ap (λ t. if t then is_member old front (p + count) else false) e))

  pub shifted_size : after < bits_of cleared → size_of cleared + members_below old front count ≡ size_of old
  shifted_size inside₂ =
      let f : ℕ → Bool = is_member old front in
      let g : ℕ → Bool = is_member cleared after in
      let rest : ℕ = bits_of old - count in
      let f_whole : count + rest ≡ bits_of old = omega arith in
      let g_whole : rest + count ≡ bits_of old = omega arith in
      let before_all = sym (members_are_bits old front inside) ∙ sym (ap (λ k. length (passing f 0 k)) f_whole) in
      let after_all = sym (members_are_bits cleared after inside₂) ∙ ap (λ k. members_below cleared after (64 * k)) long ∙ sym (ap (λ k. length (passing g 0 k)) g_whole) in
      let f₁ = two_tallies f 0 count rest in
      let g₁ = two_tallies g 0 rest count in
      let down = same_tally f g (0 + count) 0 rest (λ i l. moved_down (0 + i) (omega arith) ∙ (let same : 0 + i + count ≡ 0 + count + i = omega arith in ap f same)) in
      let out = no_tally g (0 + rest) count (λ i l. moved_out (0 + rest + i) (omega arith) (omega arith)) in
      omega arith

-- how many of the first positions there were, counted in two runs of bits, of which the first was cleared before the second was counted
pub cleared_members : (old mid : List ℕ) (front count b high upper lower : ℕ) → front < bits_of old → count ≤ bits_of old → b ≡ min (front + count) (bits_of old) → high ≡ front + count - bits_of old →
    ((n : ℕ) → is_set mid n ≡ (if is_between front b n then false else is_set old n)) → upper ≡ set_from old front (b - front) → lower ≡ set_from mid 0 (high - 0) → upper + lower ≡ members_below old front count
cleared_members old mid front count b high upper lower inside fits b_is high_is cleared upper_is lower_is =
    let all = members_of_bits old front count (b - front) high inside fits (omega arith) high_is in
    let kept = same_tally (is_set old) (is_set mid) 0 0 high (λ i l. cleared (0 + i) ∙ ap (λ t. if t then false else is_set old (0 + i)) (before front b (0 + i) (omega arith))) in
    let whole : high - 0 ≡ high = omega arith in
    let low = lower_is ∙ ap (λ n. set_from mid 0 n) whole in
    omega arith

-- the first positions went, as the code takes them out
pub record IsShifted (old new : List ℕ) (front after count cleared : ℕ) : Type 0 where
  pub members : (p : ℕ) → p < bits_of old → is_member new after p ≡ (if nat_lt (p + count) (bits_of old) then is_member old front (p + count) else false)
  pub size : size_of new + members_below old front count ≡ size_of old
  pub counted : cleared ≡ members_below old front count

pub shifted : (old mid new : List ℕ) (front after count b high upper lower : ℕ) → front < bits_of old → after < bits_of old → count ≤ bits_of old → after ≡ turned (bits_of old) front count →
    b ≡ min (front + count) (bits_of old) → high ≡ front + count - bits_of old → length mid ≡ length old → length new ≡ length mid →
    ((n : ℕ) → is_set mid n ≡ (if is_between front b n then false else is_set old n)) → ((n : ℕ) → is_set new n ≡ (if is_between 0 high n then false else is_set mid n)) →
    upper ≡ set_from old front (b - front) → lower ≡ set_from mid 0 (high - 0) → IsShifted old new front after count (upper + lower)
shifted old mid new front after count b high upper lower inside inside₂ fits is b_is high_is mid_long new_long first second upper_is lower_is =
    let long = new_long ∙ mid_long in
    let cleared = run_members (bits_of old) front 0 count front b 0 high inside (omega arith) (omega arith) (omega arith) (omega arith) (omega arith) old mid new false refl long first second in
    record {
      members = shifted_members old new front after count long inside fits is cleared;
      size = shifted_size old new front after count long inside fits is cleared (omega arith);
      counted = cleared_members old mid front count b high upper lower inside fits b_is high_is first upper_is lower_is;
    }
