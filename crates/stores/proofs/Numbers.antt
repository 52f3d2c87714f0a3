-- Numbers of which each stands once, as one comes and as they change places.
use Rattle.std.proofs.Common.{◌≡◌, ℕ, zero, suc, ◌+◌, ◌<◌, ◌≤◌, ◌++◌, List, [], ◌∷◌, length, drop, get_or, slice_get, nat_lt, Some, ap, ◌∙◌, refl, arith, length-append}
use Rattle.std.specs.Prelude.{if◌then◌else◌}
use Rattle.std.proofs.lemmas.Bool.Decides.{nat_tests}
use Rattle.std.proofs.lemmas.Option.{same_Some}
use Rattle.stores.specs.Numbers.{times, AreNumbers}

pub times_append : (n : ℕ) (xs ys : List ℕ) → times n (xs ++ ys) ≡ times n xs + times n ys
unfolding times
times_append n [] ys = omega arith
times_append n (x ∷ xs) ys = omega (arith, times_append n xs ys)

pub times_item : (xs : List ℕ) (i : ℕ) → i < length xs → 0 < times (get_or xs i 0) xs
unfolding times
times_item [] i within = absurd (omega arith)
times_item (x ∷ xs) zero within = grind (arith, nat_tests)
times_item (x ∷ xs) (suc i) within = let rest = times_item xs i (omega arith) in omega arith

pub times_found : (xs : List ℕ) (i n : ℕ) → slice_get xs i ≡ Some n → 0 < times n xs
unfolding times
times_found [] i n found = absurd cc
times_found (x ∷ xs) zero n found = let same : x ≡ n = cc in grind (arith, nat_tests)
times_found (x ∷ xs) (suc i) n found = let rest = times_found xs i n found in omega arith

pub times_self : (n : ℕ) → times n (n ∷ []) ≡ 1
unfolding times
times_self n = grind (arith, nat_tests)

below_some : (n k : ℕ) → 0 < (if nat_lt n k then 1 else 0) → n < k
below_some n k some = grind (arith, nat_tests)

below_one : (n k : ℕ) → (if nat_lt n k then 1 else 0) ≤ 1
below_one n k = grind (arith, nat_tests)

below_more : (n k : ℕ) → (if nat_lt n (k + 1) then 1 else 0) ≡ (if nat_lt n k then 1 else 0) + times n (k ∷ [])
unfolding times
below_more n k = grind (arith, nat_tests)

-- one that is among them is the number of an item
pub number_below : (numbers : List ℕ) (count n : ℕ) → AreNumbers numbers count → 0 < times n numbers → n < count
number_below numbers count n are some = let once = are.once n in below_some n count (omega arith)

-- none is among them twice
pub number_once : (numbers : List ℕ) (count n : ℕ) → AreNumbers numbers count → times n numbers ≤ 1
number_once numbers count n are =
    let once = are.once n in
    let most = below_one n count in
    omega arith

-- the last one is that of an item, and none before is the same
pub last_below : (numbers : List ℕ) (n count : ℕ) → AreNumbers (numbers ++ n ∷ []) count → n < count
last_below numbers n count are =
    let joined = times_append n numbers (n ∷ []) in
    let self = times_self n in
    number_below (numbers ++ n ∷ []) count n are (omega arith)

pub last_alone : (numbers : List ℕ) (n count : ℕ) → AreNumbers (numbers ++ n ∷ []) count → times n numbers ≡ 0
last_alone numbers n count are =
    let joined = times_append n numbers (n ∷ []) in
    let self = times_self n in
    let once = number_once (numbers ++ n ∷ []) count n are in
    omega arith

pub no_numbers : AreNumbers [] 0
unfolding times
no_numbers = record { once = λ n. grind (arith, nat_tests); all = refl }

-- an item more has the next number
pub numbers_more : (numbers : List ℕ) (count : ℕ) → AreNumbers numbers count → AreNumbers (numbers ++ count ∷ []) (count + 1)
numbers_more numbers count are = record {
  once = λ n.
      let before = are.once n in
      let joined = times_append n numbers (count ∷ []) in
      let more = below_more n count in
      omega (arith, before, joined, more);
  all =
      let before = are.all in
      let joined = length-append numbers (count ∷ []) in
      omega arith;
}

-- the same numbers in another order
pub numbers_moved : (numbers moved : List ℕ) (count : ℕ) → ((n : ℕ) → times n moved ≡ times n numbers) → length moved ≡ length numbers → AreNumbers numbers count → AreNumbers moved count
numbers_moved numbers moved count same long are = record { once = λ n. same n ∙ are.once n; all = long ∙ are.all }

-- the first one goes to the end
pub numbers_turned : (n : ℕ) (numbers : List ℕ) (count : ℕ) → slice_get numbers 0 ≡ Some n → AreNumbers numbers count → AreNumbers (drop 1 numbers ++ n ∷ []) count
unfolding times
numbers_turned n [] count first are = absurd cc
numbers_turned n (m ∷ numbers) count first are =
    let same : m ≡ n = same_Some m n first in
    let long = length-append numbers (n ∷ []) in
    numbers_moved (m ∷ numbers) (numbers ++ n ∷ []) count
    (λ k.
    let joined = times_append k numbers (n ∷ []) in
    let one = ap (λ j. times k (j ∷ [])) same in
    omega (arith, joined, one))
    (omega arith)
    are
