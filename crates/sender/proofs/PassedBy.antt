-- Pairs of which the history has nothing: each number that one names is unknown, and there is nothing to mark. And pairs one after another.
use Rattle.std.proofs.Common.{◌≡◌, ℕ, zero, suc, ◌+◌, ◌%◌, ◌^◌, ◌<◌, ◌≤◌, ◌==◌, ◌||◌, Bool, true, false, cond, List, [], ◌∷◌, ◌++◌, map, filter, length, count_by, Option, Some, None, refl, sym, ap, subst, ◌∙◌, arith, eq-eqb, append-nil, inl, inr}
use Rattle.std.specs.Prelude.{IsSome}
use Rattle.std.proofs.lemmas.Bool.{eqb-true, cases_Bool}
use Rattle.std.proofs.lemmas.Grind.{flat_map-append}
use Rattle.std.proofs.lemmas.List.Sums.{sum_by-append}
use Rattle.places.specs.Among.{is_among}
use Rattle.places.specs.Place.{number}
use Rattle.fbwire.specs.declared.nack.Pair.{Pair}
use Rattle.fbwire.specs.Nack.{has_bit, up_from, mask_bits, masked_numbers, pair_numbers, numbers_of}
use Rattle.stores.specs.declared.entry.HistoryEntry.{HistoryEntry}
use Rattle.stores.specs.Past.{Past, entry_at, numbered}
use Rattle.stores.specs.PastByPlace.{Finds}
use Rattle.sender.specs.declared.answer.Shared.{Shared}
use Rattle.sender.specs.Marking.{marked_if, MarksNumbers}
use Rattle.sender.specs.Counting.{entry_found, is_absent, is_spent, is_unknown, is_exhausted, CountsNumbers}
use Rattle.sender.proofs.MarkedNumbers.{marks_nothing}

-- the numbers of one pair more
pub pairs_more : (pairs : List Pair) (pair : Pair) → numbers_of (pairs ++ pair ∷ []) ≡ numbers_of pairs ++ pair_numbers pair
pairs_more pairs pair = flat_map-append pair_numbers pairs (pair ∷ []) ∙ ap (λ (last : List ℕ). numbers_of pairs ++ last) (append-nil (pair_numbers pair))

-- What holds of each of the 17 numbers from a PID on holds of each that the pair names.
module _ (holds : ℕ → Type 0) where
  head_or_tail : (m n : ℕ) (rest : Bool) → holds m → (rest ≡ true → holds n) → ((m == n) || rest) ≡ true → holds n
  head_or_tail m n rest head tail among = elim (cases_Bool (m == n)) [
    | inl same ↦ subst holds (eqb-true _ _ same) head
    | inr other ↦ tail (ap (λ b. b || rest) (sym other) ∙ among)
  ]

  masked_hold : (f : ℕ → Bool) (pid first count : ℕ) → first + count ≤ 17 → ((i : ℕ) → i ≤ 16 → holds ((pid + i) % 65536)) →
      (n : ℕ) → is_among (map (λ i. (pid + i) % 65536) (filter f (up_from first count))) n ≡ true → holds n
  masked_hold f pid first zero within each n among = absurd (let never : false ≡ true = among in cc)
  masked_hold f pid first (suc count) within each n among = by (masked_hold f pid (suc first) count (omega arith) each n) (f first) among
    where
      by : (is_among (map (λ i. (pid + i) % 65536) (filter f (up_from (suc first) count))) n ≡ true → holds n) → (b : Bool) → is_among (map (λ i. (pid + i) % 65536) (cond b (first ∷ filter f (up_from (suc first) count)) (filter f (up_from (suc first) count)))) n ≡ true → holds n
      by later true among = head_or_tail ((pid + first) % 65536) n _ (each first (omega arith)) later among
      by later false among = later among

  pair_holds : (pair : Pair) → pair.pid < 65536 → ((i : ℕ) → i ≤ 16 → holds ((pair.pid + i) % 65536)) → (n : ℕ) → is_among (pair_numbers pair) n ≡ true → holds n
  unfolding mask_bits
  pair_holds pair small each n among =
      let first : (pair.pid + 0) % 65536 ≡ pair.pid = omega arith in
      head_or_tail pair.pid n (is_among (masked_numbers pair.pid pair.blp) n) (subst holds first (each 0 (omega arith)))
      (masked_hold (has_bit pair.blp) pair.pid 1 16 (omega arith) each n) among

-- All of some numbers are counted, or none.

or_right : (a b : Bool) → b ≡ true → (a || b) ≡ true
or_right true b is = refl
or_right false b is = is

among_first : (n : ℕ) (numbers : List ℕ) → is_among (n ∷ numbers) n ≡ true
among_first n numbers = ap (λ b. b || is_among numbers n) (eq-eqb n n refl)

count_first : (test : ℕ → Bool) (n : ℕ) (numbers : List ℕ) → count_by test (n ∷ numbers) ≡ 0 + cond (test n) 1 0 + count_by test numbers
count_first test n numbers = sum_by-append (λ m. cond (test m) 1 0) (n ∷ []) numbers

all_counted : (test : ℕ → Bool) (numbers : List ℕ) → ((n : ℕ) → is_among numbers n ≡ true → test n ≡ true) → count_by test numbers ≡ length numbers
all_counted test [] all = refl
all_counted test (n ∷ numbers) all =
    let here : ◌≡◌ {A = ℕ} (cond (test n) 1 0) 1 = ap (λ b. cond b 1 0) (all n (among_first n numbers)) in
    let others = all_counted test numbers (λ m among. all m (or_right (n == m) _ among)) in
    let split = count_first test n numbers in
    omega (arith, here, others, split)

none_counted : (test : ℕ → Bool) (numbers : List ℕ) → ((n : ℕ) → is_among numbers n ≡ true → test n ≡ false) → count_by test numbers ≡ 0
none_counted test [] none = refl
none_counted test (n ∷ numbers) none =
    let here : ◌≡◌ {A = ℕ} (cond (test n) 1 0) 0 = ap (λ b. cond b 1 0) (none n (among_first n numbers)) in
    let others = none_counted test numbers (λ m among. none m (or_right (n == m) _ among)) in
    let split = count_first test n numbers in
    omega (arith, here, others, split)

module _ (repeats : ℕ) (h : Past) (pair : Pair) (small : pair.pid < 65536) (none : (i : ℕ) → i ≤ 16 → numbered h ((pair.pid + i) % 65536) ≡ None) where
  not_found : (n : ℕ) → is_among (pair_numbers pair) n ≡ true → numbered h n ≡ None
  not_found = pair_holds (λ n. numbered h n ≡ None) pair small none

  pub all_unknown : (count : ℕ) (shared : Shared) → count < 2 ^ 32 → count ≡ length (pair_numbers pair) →
      shared ≡ record { places = 0; nacks = 0; others = 0; numbers = count; unknown = count; exhausted = 0 } → CountsNumbers repeats h (pair_numbers pair) shared
  all_unknown count shared fits counted is =
      let unknown = all_counted (is_unknown h) (pair_numbers pair) (λ n among. ap (λ (o : Option ℕ). is_absent (entry_found h o)) (not_found n among)) in
      let exhausted = none_counted (is_exhausted repeats h) (pair_numbers pair) (λ n among. ap (λ (o : Option ℕ). is_spent repeats (entry_found h o)) (not_found n among)) in
      subst (CountsNumbers repeats h (pair_numbers pair)) (sym is)
      (record { places = refl; nacks = refl; others = refl; numbers = omega arith; unknown = omega arith; exhausted = omega arith })

  pub nothing_marked : ((n : ℕ) → Finds h n) → MarksNumbers repeats (pair_numbers pair) h 0 h
  nothing_marked finds = marks_nothing repeats (pair_numbers pair) h (λ q among.
      let found = finds (number q) in
      let never = rw (not_found (number q) among) at found in
      by q (entry_at h q) refl (λ some. never q some refl))
    where
      by : (q : ℕ) (o : Option HistoryEntry) → entry_at h q ≡ o → (IsSome (entry_at h q) → ⊥) → marked_if true repeats o ≡ o
      by q None at never = refl
      by q (Some entry) at never = absurd (never (subst IsSome (sym at) refl))
