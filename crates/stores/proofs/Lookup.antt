-- `slice_get` of lists that are made of others, and the list that it determines.
use Rattle.std.proofs.Common.{◌≡◌, ◌≢◌, ℕ, zero, suc, ◌+◌, ◌<◌, List, [], ◌∷◌, ◌++◌, length, drop, replicate, slice_get, slice_set, Some, refl, arith, ap}
use Rattle.std.proofs.lemmas.Option.{same_Some}

pub slice_get-append_left : {X : Type 0} (xs ys : List X) (i : ℕ) → i < length xs → slice_get (xs ++ ys) i ≡ slice_get xs i
slice_get-append_left [] ys i l = absurd (omega arith)
slice_get-append_left (x ∷ xs) ys zero l = refl
slice_get-append_left (x ∷ xs) ys (suc i) l = slice_get-append_left xs ys i (omega arith)

pub slice_get-append_right : {X : Type 0} (xs ys : List X) (i j : ℕ) → i ≡ length xs + j → slice_get (xs ++ ys) i ≡ slice_get ys j
slice_get-append_right [] ys i j e = ap (slice_get ys) (omega arith)
slice_get-append_right (x ∷ xs) ys zero j e = absurd (omega arith)
slice_get-append_right (x ∷ xs) ys (suc i) j e = slice_get-append_right xs ys i j (omega arith)

pub slice_get-drop : {X : Type 0} (n : ℕ) (xs : List X) (i j : ℕ) → j ≡ n + i → slice_get (drop n xs) i ≡ slice_get xs j
slice_get-drop zero xs i j e = ap (slice_get xs) (omega arith)
slice_get-drop (suc n) [] i j e = refl
slice_get-drop (suc n) (x ∷ xs) i zero e = absurd (omega arith)
slice_get-drop (suc n) (x ∷ xs) i (suc j) e = slice_get-drop n xs i j (omega arith)

pub slice_get-replicate : {X : Type 0} (n : ℕ) (x : X) (i : ℕ) → i < n → slice_get (replicate n x) i ≡ Some x
slice_get-replicate zero x i l = absurd (omega arith)
slice_get-replicate (suc n) x zero l = refl
slice_get-replicate (suc n) x (suc i) l = slice_get-replicate n x i (omega arith)

pub slice_get-set_same : {X : Type 0} (xs : List X) (i : ℕ) (x : X) → i < length xs → slice_get (slice_set xs i x) i ≡ Some x
slice_get-set_same [] i x l = absurd (omega arith)
slice_get-set_same (y ∷ xs) zero x l = refl
slice_get-set_same (y ∷ xs) (suc i) x l = slice_get-set_same xs i x (omega arith)

pub slice_get-set_other : {X : Type 0} (xs : List X) (i j : ℕ) (x : X) → j ≢ i → slice_get (slice_set xs i x) j ≡ slice_get xs j
slice_get-set_other [] i j x n = refl
slice_get-set_other (y ∷ xs) zero zero x n = absurd (n refl)
slice_get-set_other (y ∷ xs) zero (suc j) x n = refl
slice_get-set_other (y ∷ xs) (suc i) zero x n = refl
slice_get-set_other (y ∷ xs) (suc i) (suc j) x n = slice_get-set_other xs i j x (λ e. n (ap suc e))

-- lists with the same element at each index are the same
pub same_lists : {X : Type 0} (xs ys : List X) → ((i : ℕ) → slice_get ys i ≡ slice_get xs i) → ys ≡ xs
same_lists [] [] e = refl
same_lists [] (y ∷ ys) e = let first = e 0 in cc
same_lists (x ∷ xs) [] e = let first = e 0 in cc
same_lists (x ∷ xs) (y ∷ ys) e =
    let first : y ≡ x = same_Some y x (e 0) in
    let rest : ys ≡ xs = same_lists xs ys (λ i. e (suc i)) in
    cc
