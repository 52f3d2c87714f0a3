-- Hexadecimal digits of octets that lie one after another.
use Rattle.std.proofs.Common.{◌≡◌, ℕ, ◌/◌, ◌%◌, List, [], ◌∷◌, ◌++◌, get_or, codes, refl, ap, ◌∙◌, sym, append_assoc}
use Rattle.std.specs.List.{slice_index}
use Rattle.hex.specs.Hex.{encode_with, encode_lower, lower_digits}

pub no_digits : encode_lower [] ≡ []
unfolding encode_with
no_digits = refl

pub digits_append : (xs ys : List ℕ) → encode_lower (xs ++ ys) ≡ encode_lower xs ++ encode_lower ys
unfolding encode_with
digits_append [] ys = refl
digits_append (x ∷ xs) ys =
    ap (λ (l : List ℕ). slice_index lower_digits (x / 16) ∷ slice_index lower_digits (x % 16) ∷ l) (digits_append xs ys)

-- a piece of octets, between those before it and those after it
pub octets_around : (octets done left piece rest : List ℕ) → octets ≡ done ++ left → left ≡ piece ++ rest → octets ≡ (done ++ piece) ++ rest
octets_around octets done left piece rest whole cut = whole ∙ ap (λ (x : List ℕ). done ++ x) cut ∙ sym (append_assoc done piece rest)

pub digits_around : (octets done left piece rest : List ℕ) → octets ≡ done ++ left → left ≡ piece ++ rest
    → encode_lower octets ≡ encode_lower done ++ encode_lower piece ++ encode_lower rest
digits_around octets done left piece rest whole cut =
    ap encode_lower (octets_around octets done left piece rest whole cut) ∙ digits_append (done ++ piece) rest
    ∙ ap (λ (x : List ℕ). x ++ encode_lower rest) (digits_append done piece)

-- the digits of a pair's two numbers, and what stands between them
pub pair_digits : (a b c d : ℕ) (digits : List ℕ) → digits ≡ encode_lower (a ∷ b ∷ c ∷ d ∷ [])
    → get_or digits 0 0 ∷ get_or digits 1 0 ∷ get_or digits 2 0 ∷ get_or digits 3 0 ∷ 58 ∷ get_or digits 4 0 ∷ get_or digits 5 0 ∷ get_or digits 6 0 ∷ get_or digits 7 0 ∷ []
    ≡ encode_lower (a ∷ b ∷ []) ++ codes ":" ++ encode_lower (c ∷ d ∷ [])
unfolding encode_with
pair_digits a b c d digits e = rw e refl
