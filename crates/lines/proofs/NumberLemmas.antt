-- The numbers of a config line.
use Rattle.std.proofs.Common.{◌≡◌, ℕ, ◌≤◌, List, [], ◌∷◌, refl, ap, arith, false, ◌&&◌, nat_le, leb-true, Option, Some, None}
use Rattle.std.specs.Borrow.{Bor}
use Rattle.std.specs.Option.{is_none}
use Rattle.std.specs.Str.Parse.{digits_value}
use Rattle.std.proofs.lemmas.Bool.{and_parts}
use Rattle.std.proofs.lemmas.Option.{cond_some, same_Some}
use Rattle.lines.specs.Steps.{◌>>=◌}
use Rattle.lines.specs.Words.{words_left}
use Rattle.lines.specs.Decimal.{is_decimal, decimal_up_to, decimal_between}
use Rattle.lines.specs.Numbers.{numbers_between, numbers_first}
use Rattle.lines.specs.NumberSteps.{AreWithin}
use Rattle.lines.proofs.WordLemmas.{words_of-cons}

-- words that are left over are refused
pub numbers_between_left : (bounds : List (ℕ × ℕ)) (words : List (List ℕ)) (numbers : List ℕ) (left : Option (Bor (List ℕ))) →
    numbers_first bounds words ≡ Some (numbers, words_left left) → is_none left ≡ false → numbers_between bounds words ≡ None
numbers_between_left bounds words numbers None read h = cc h
numbers_between_left bounds words numbers (Some line) read h = let cons = words_of-cons line.now in rw (read, cons.2) refl

-- both steps were done
bind_some : {A B : Type 0} (o : Option A) (next : A → Option B) (y : B) → (o >>= next) ≡ Some y → (x : A) × (o ≡ Some x) × (next x ≡ Some y)
bind_some (Some x) next y h = (x, refl, h)
bind_some None next y h = cc h

decimal_between-within : (least most : ℕ) (word : List ℕ) (number : ℕ) → decimal_between least most word ≡ Some number → (least ≤ number) × (number ≤ most)
decimal_between-within least most word number h =
    let read = bind_some (decimal_up_to most word) _ number h in
    let up = cond_some (is_decimal word && nat_le (digits_value 10 word) most) (digits_value 10 word) read.0 read.1 in
    let low = cond_some (nat_le least read.0) read.0 number read.2 in
    let most_is = and_parts (is_decimal word) (nat_le (digits_value 10 word) most) up.0 in
    let le : digits_value 10 word ≤ most = leb-true (digits_value 10 word) most most_is.1 in
    let ge : least ≤ read.0 = leb-true least read.0 low.0 in
    (omega arith, omega arith)

-- numbers that were read are between their bounds
pub numbers_first-within : (bounds : List (ℕ × ℕ)) (words : List (List ℕ)) (numbers : List ℕ) (left : List (List ℕ)) →
    numbers_first bounds words ≡ Some (numbers, left) → AreWithin bounds numbers
numbers_first-within [] words numbers left h =
    let e : [] ≡ numbers = ap (λ (x : List ℕ × List (List ℕ)). x.0) (same_Some ([], words) (numbers, left) h) in rw (← e) tt
numbers_first-within (b ∷ bounds) [] numbers left h = cc h
numbers_first-within (b ∷ bounds) (word ∷ words) numbers left h =
    let first = bind_some (decimal_between b.0 b.1 word) _ (numbers, left) h in
    let others = bind_some (numbers_first bounds words) _ (numbers, left) first.2 in
    let e : first.0 ∷ others.0.0 ≡ numbers =
    ap (λ (x : List ℕ × List (List ℕ)). x.0) (same_Some (first.0 ∷ others.0.0, others.0.1) (numbers, left) others.2) in
    let within = decimal_between-within b.0 b.1 word first.0 first.1 in
    rw (← e) (within.0, within.1, numbers_first-within bounds words others.0.0 others.0.1 others.1)
