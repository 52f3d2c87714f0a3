-- When two lists have the same octets.
use Rattle.std.proofs.Common.{◌≡◌, ℕ, ◌+◌, ◌<◌, ◌==◌, ◌&&◌, Bool, true, false, List, [], ◌∷◌, ◌++◌, length, take, get_or, bit_or, bit_xor, refl, sym, ap, ◌∙◌, inl, inr, arith}
use Rattle.std.specs.Int.Bits.{xor_self, xor_assoc, xor_zero_r}
use Rattle.std.proofs.lemmas.Bool.{cases_eq, eq-eqb, ne_eqb, eqb-true, and_parts}
use Rattle.std.proofs.lemmas.List.{take_more, length-take-le}
use Rattle.std.proofs.lemmas.Nat.{le_or_l, le_or_r}
use Rattle.srtp.specs.Seal.{same_octets}

xor_zero : (x y : ℕ) → bit_xor x y ≡ 0 → x ≡ y
xor_zero x y e =
    sym (xor_zero_r x) ∙ ap (bit_xor x) (sym (xor_self y)) ∙ sym (xor_assoc x y y) ∙ ap (λ (z : ℕ). bit_xor z y) e

-- what differs so far and the next two octets come to nothing where each does
differs : (d x y : ℕ) → (bit_or d (bit_xor x y) == 0) ≡ ((d == 0) && (x == y))
differs d x y = elim (cases_eq d 0) [
  | inl none ↦ elim (cases_eq x y) [
    | inl same ↦
        let nothing : bit_or d (bit_xor x y) ≡ 0 = rw (none, same, xor_self) refl in
        eq-eqb (bit_or d (bit_xor x y)) 0 nothing ∙ sym (rw (eq-eqb d 0 none, eq-eqb x y same) refl)
    | inr other ↦
        ne_eqb (bit_or d (bit_xor x y)) 0 (λ e. other (xor_zero x y (let b = le_or_r d (bit_xor x y) in omega arith)))
        ∙ sym (rw (eq-eqb d 0 none, ne_eqb x y other) refl)
  ]
  | inr some ↦
      ne_eqb (bit_or d (bit_xor x y)) 0 (λ e. some (let b = le_or_l d (bit_xor x y) in omega arith)) ∙ sym (rw (ne_eqb d 0 some) refl)
]

and_assoc : (a b c : Bool) → ((a && b) && c) ≡ (a && (b && c))
and_assoc true b c = refl
and_assoc false b c = refl

and_true : (a : Bool) → (a && true) ≡ a
and_true true = refl
and_true false = refl

pub same_push : (xs ys : List ℕ) (x y : ℕ) → length xs ≡ length ys → same_octets (xs ++ x ∷ []) (ys ++ y ∷ []) ≡ (same_octets xs ys && (x == y))
same_push [] [] x y e = and_true (x == y)
same_push [] (b ∷ ys) x y e = absurd (omega arith)
same_push (a ∷ xs) [] x y e = absurd (omega arith)
same_push (a ∷ xs) (b ∷ ys) x y e = ap (λ (t : Bool). (a == b) && t) (same_push xs ys x y (omega arith)) ∙ sym (and_assoc (a == b) (same_octets xs ys) (x == y))

-- one octet more
pub same_more : (a b : List ℕ) (i d : ℕ) → i < length a → i < length b → (d == 0) ≡ same_octets (take i a) (take i b)
    → (bit_or d (bit_xor (get_or a i 0) (get_or b i 0)) == 0) ≡ same_octets (take (i + 1) a) (take (i + 1) b)
same_more a b i d la lb held =
    let la' : length (take i a) ≡ i = length-take-le i a (omega arith) in
    let lb' : length (take i b) ≡ i = length-take-le i b (omega arith) in
    rw (take_more a i 0 la, take_more b i 0 lb, same_push (take i a) (take i b) (get_or a i 0) (get_or b i 0) (omega arith), ← held)
    (differs d (get_or a i 0) (get_or b i 0))

pub same_itself : (xs : List ℕ) → same_octets xs xs ≡ true
same_itself [] = refl
same_itself (x ∷ xs) = rw (eq-eqb x x refl) (same_itself xs)

pub same_is : (xs ys : List ℕ) → same_octets xs ys ≡ true → xs ≡ ys
same_is [] [] e = refl
same_is [] (y ∷ ys) e = cc
same_is (x ∷ xs) [] e = cc
same_is (x ∷ xs) (y ∷ ys) e =
    let parts = and_parts (x == y) (same_octets xs ys) e in
    λ i. eqb-true x y parts.0 i ∷ same_is xs ys parts.1 i
