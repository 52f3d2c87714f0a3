-- What exclusive or makes of lists.
use Rattle.std.proofs.Common.{◌≡◌, ℕ, zero, suc, ◌<◌, ◌≤◌, List, [], ◌∷◌, ◌++◌, length, take, drop, replicate, get_or, set, bit_xor, refl, sym, ap, ◌∙◌, arith}
use Rattle.std.specs.Int.Bits.{xor_self, xor_assoc, xor_zero_r}
use Rattle.srtp.specs.Octets.{xor_octets}

pub xor_none : (xs : List ℕ) → xor_octets xs [] ≡ xs
xor_none [] = refl
xor_none (x ∷ xs) = refl

-- the octet at a place to which the second list does not reach, and those up to it
pub xor_more : (xs ys : List ℕ) (i : ℕ) → i < length xs → i < length ys
    → set (xor_octets xs (take i ys)) i (bit_xor (get_or (xor_octets xs (take i ys)) i 0) (get_or ys i 0)) ≡ xor_octets xs (take (suc i) ys)
xor_more [] ys i h k = absurd (omega arith)
xor_more (x ∷ xs) [] i h k = absurd (omega arith)
xor_more (x ∷ xs) (y ∷ ys) zero h k = ap (λ (r : List ℕ). bit_xor x y ∷ r) (sym (xor_none xs))
xor_more (x ∷ xs) (y ∷ ys) (suc i) h k = ap (λ (r : List ℕ). bit_xor x y ∷ r) (xor_more xs ys i (omega arith) (omega arith))

pub length-xor : (xs ys : List ℕ) → length (xor_octets xs ys) ≡ length xs
length-xor [] ys = refl
length-xor (x ∷ xs) [] = refl
length-xor (x ∷ xs) (y ∷ ys) = ap suc (length-xor xs ys)

-- what the second list does not reach stays
pub drop-xor : (xs ys : List ℕ) → drop (length ys) (xor_octets xs ys) ≡ drop (length ys) xs
drop-xor [] ys = refl
drop-xor (x ∷ xs) [] = refl
drop-xor (x ∷ xs) (y ∷ ys) = drop-xor xs ys

-- a second list in two pieces
pub xor_append : (xs ys zs : List ℕ) → length ys ≤ length xs
    → xor_octets xs (ys ++ zs) ≡ take (length ys) (xor_octets xs ys) ++ xor_octets (drop (length ys) xs) zs
xor_append xs [] zs h = refl
xor_append [] (y ∷ ys) zs h = absurd (omega arith)
xor_append (x ∷ xs) (y ∷ ys) zs h = ap (λ (r : List ℕ). bit_xor x y ∷ r) (xor_append xs ys zs (omega arith))

-- of the second list what lies past the first one does not count
pub xor_take : (xs ys : List ℕ) (n : ℕ) → length xs ≤ n → xor_octets xs (take n ys) ≡ xor_octets xs ys
xor_take [] ys n h = refl
xor_take (x ∷ xs) [] zero h = refl
xor_take (x ∷ xs) [] (suc n) h = refl
xor_take (x ∷ xs) (y ∷ ys) zero h = absurd (omega arith)
xor_take (x ∷ xs) (y ∷ ys) (suc n) h = ap (λ (r : List ℕ). bit_xor x y ∷ r) (xor_take xs ys n (omega arith))

-- zeros by exclusive or with a list are its beginning
pub xor_zeros : (n : ℕ) (ys : List ℕ) → n ≤ length ys → xor_octets (replicate n 0) ys ≡ take n ys
xor_zeros zero ys h = refl
xor_zeros (suc n) [] h = absurd (omega arith)
xor_zeros (suc n) (y ∷ ys) h = ap (λ (r : List ℕ). y ∷ r) (xor_zeros n ys (omega arith))

xor_back : (x y : ℕ) → bit_xor (bit_xor x y) y ≡ x
xor_back x y = xor_assoc x y y ∙ ap (bit_xor x) (xor_self y) ∙ xor_zero_r x

-- twice the same changes nothing
pub xor_twice : (xs ys : List ℕ) → xor_octets (xor_octets xs ys) ys ≡ xs
xor_twice [] ys = refl
xor_twice (x ∷ xs) [] = refl
xor_twice (x ∷ xs) (y ∷ ys) = λ i. xor_back x y i ∷ xor_twice xs ys i
