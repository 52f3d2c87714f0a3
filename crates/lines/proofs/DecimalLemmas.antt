-- What `parse` reads of a decimal.
use Rattle.std.proofs.Common.{inl, inr, ◌≡◌, ℕ, ◌<◌, ◌≤◌, ◌^◌, List, [], ◌∷◌, length, refl, arith, rules, true, None, Err}
use Rattle.std.specs.List.{list_all}
use Rattle.std.specs.Char.{is_ascii_digit}
use Rattle.std.specs.Str.{IsUtf8}
use Rattle.std.specs.Str.Parse.{digits_value, ParsesUnsigned}
use Rattle.std.proofs.lemmas.Str.Parse.{IsNumeralModel, numerals_by_value, parse_digits, IsDigitsTest}
use Rattle.std.proofs.lemmas.Str.{IsUtf8-from_ascii}
use Rattle.std.proofs.lemmas.Bool.Decides.{leb_tells}
use Rattle.std.proofs.lemmas.Fmt.{IsAscii-from_digits}
use Rattle.lines.specs.Decimal.{is_decimal, decimal_up_to}

abbrev IsDigits : List ℕ → Type 0
IsDigits ds = list_all is_ascii_digit ds ≡ true

tells : IsDigitsTest IsDigits
tells = search rules

own : IsNumeralModel IsDigits (digits_value 10)
own = numerals_by_value IsDigits tells

pub digits_of_decimal : (word : List ℕ) → is_decimal word ≡ true → IsDigits word
digits_of_decimal [] h = refl
digits_of_decimal (c ∷ []) h = search rules
digits_of_decimal (c ∷ d ∷ more) h = search rules

pub utf8_of_decimal : (word : List ℕ) → is_decimal word ≡ true → IsUtf8 word
utf8_of_decimal word h = IsUtf8-from_ascii word (IsAscii-from_digits word (own.to word (digits_of_decimal word h)))

length_of_decimal : (word : List ℕ) → is_decimal word ≡ true → 0 < length word
length_of_decimal [] h = cc
length_of_decimal (c ∷ cs) h = search rules

-- where `parse` refuses a decimal, it is larger than each limit
pub decimal_too_large : {E : Type 0} (word : List ℕ) (most : ℕ) (e : E) → most < 2 ^ 64 → is_decimal word ≡ true → ParsesUnsigned 64 10 word (Err e) → None ≡ decimal_up_to most word
decimal_too_large word most e small h parsed =
    let none = parse_digits own 64 word (Err e) parsed (digits_of_decimal word h) in
    elim (leb_tells (digits_value 10 word) most) [
      | inl le ↦ let low : digits_value 10 word ≤ most = le.1 in absurd (none (length_of_decimal word h, omega arith))
      | inr gt ↦ rw (h, gt.0) refl
    ]
