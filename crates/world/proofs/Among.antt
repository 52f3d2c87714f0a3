-- Which places are among some.
use Rattle.std.proofs.Common.{◌≡◌, ℕ, zero, suc, true, Bool, ◌<◌, List, [], ◌∷◌, take, map, refl, ap, ⊎_elim, arith}
use Rattle.std.specs.Prelude.{◌||◌, ◌==◌, Contains}
use Rattle.std.proofs.lemmas.Bool.{or_cases, eqb-true}
use Rattle.std.proofs.lemmas.Bool.Decides.{nat_tests}
use Rattle.places.specs.Among.{is_among}
use Rattle.places.specs.Place.{number}

here_among : (n : ℕ) (b : Bool) → (n == n || b) ≡ true
here_among n b = grind (arith, nat_tests)

later_among : (a b : Bool) → b ≡ true → (a || b) ≡ true
later_among a b e = grind (arith, nat_tests)

-- the first so many of some places are none only where all are
pub none_of_few : (most : ℕ) (xs : List ℕ) → 0 < most → take most xs ≡ [] → xs ≡ []
none_of_few zero xs some none = absurd (omega arith)
none_of_few (suc most) [] some none = refl
none_of_few (suc most) (x ∷ xs) some none = absurd cc

-- what is among the first ones is among all
pub among_take : (n : ℕ) (xs : List ℕ) (k : ℕ) → is_among (take n xs) k ≡ true → is_among xs k ≡ true
among_take zero xs k e = absurd cc
among_take (suc n) [] k e = e
among_take (suc n) (x ∷ xs) k e =
    ⊎_elim
    (λ (here : (x == k) ≡ true). ap (λ b. b || is_among xs k) here)
    (λ later. later_among (x == k) (is_among xs k) (among_take n xs k later))
    (or_cases (x == k) (is_among (take n xs) k) e)

-- the numbers of some places
pub number_among : (xs : List ℕ) (n : ℕ) → Contains (map number xs) n → (k : ℕ) × (is_among xs k ≡ true) × (number k ≡ n)
number_among [] n (i, within, at) = absurd (omega (arith, within))
number_among (x ∷ xs) n (zero, within, at) = (x, here_among x (is_among xs x), at)
number_among (x ∷ xs) n (suc i, within, at) =
    let rest = number_among xs n (i, omega (arith, within), at) in
    (rest.0, later_among (x == rest.0) (is_among xs rest.0) rest.1, rest.2)

pub among_number : (xs : List ℕ) (k : ℕ) → is_among xs k ≡ true → Contains (map number xs) (number k)
among_number [] k e = absurd cc
among_number (x ∷ xs) k e =
    ⊎_elim
    (λ (here : (x == k) ≡ true). let h : Contains (map number (x ∷ xs)) (number k) = (0, omega arith, ap number (eqb-true x k here)) in h)
    (λ later. let rest = among_number xs k later in let h : Contains (map number (x ∷ xs)) (number k) = (suc rest.0, omega (arith, rest.1), rest.2) in h)
    (or_cases (x == k) (is_among xs k) e)
