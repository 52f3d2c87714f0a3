-- The pieces of a list of packets, and the numbers that they write.
use Rattle.std.proofs.Common.{◌≡◌, ◌≢◌, ℕ, zero, suc, ◌+◌, ◌<◌, ◌≤◌, nat_le, nat_lt, List, [], ◌∷◌, ◌++◌, refl, ap, subst, ◌∙◌, arith, leb-true, ltb-true, length, get_or, Option, Some, None}
use Rattle.std.specs.Bool.{⊤}
use Rattle.std.specs.Borrow.{Bor}
use Rattle.std.specs.List.{All, AllByRecursion}
use Rattle.std.specs.List.Sorted.{IsStrictlyIncreasing}
use Rattle.std.proofs.lemmas.Bool.{ne_eqb}
use Rattle.std.proofs.lemmas.List.Elements.{recursion_from_All}
use Rattle.std.proofs.lemmas.Option.{cond_some, same_Some}
use Rattle.lines.specs.Steps.{◌>>=◌}
use Rattle.lines.specs.Decimal.{decimal_between, decimal_up_to}
use Rattle.commands.specs.DropList.{decimal_from, pieces_of, rising_from}

-- no octet is a comma
abbrev LacksComma : List ℕ → Type 0
LacksComma text = AllByRecursion (λ x. x ≢ 44) text

cut_in_turn : (front more : List ℕ) → LacksComma front → pieces_of (front ++ 44 ∷ more) ≡ front ∷ pieces_of more
cut_in_turn [] more h = refl
cut_in_turn (c ∷ cs) more h = rw (ne_eqb c 44 h.0, cut_in_turn cs more h.1) refl

one_in_turn : (text : List ℕ) → LacksComma text → pieces_of text ≡ text ∷ []
one_in_turn [] h = refl
one_in_turn (c ∷ cs) h = rw (ne_eqb c 44 h.0, one_in_turn cs h.1) refl

-- a text with a comma: what stands before it, and the pieces after it
pub pieces_of-cut : (text front more : List ℕ) → text ≡ front ++ 44 ∷ more → All (λ x. x ≢ 44) front → pieces_of text ≡ front ∷ pieces_of more
pieces_of-cut text front more e h = ap pieces_of e ∙ cut_in_turn front more (recursion_from_All (λ x. x ≢ 44) front h)

-- a text without a comma is one piece
pub pieces_of-one : (text : List ℕ) → All (λ x. x ≢ 44) text → pieces_of text ≡ text ∷ []
pieces_of-one text h = one_in_turn text (recursion_from_All (λ x. x ≢ 44) text h)

-- how much is left to be read, a comma before it counted
abbrev pub size_left : Option (Bor (List ℕ)) → ℕ
size_left None = 0
size_left (Some rest) = suc (length rest.now)

-- ---- the numbers

-- both steps were done
bind_some : {A B : Type 0} (o : Option A) (next : A → Option B) (y : B) → (o >>= next) ≡ Some y → (x : A) × (o ≡ Some x) × (next x ≡ Some y)
bind_some (Some x) next y h = (x, refl, h)
bind_some None next y h = cc h

decimal_from-within : (least bound : ℕ) (word : List ℕ) (number : ℕ) → decimal_from least bound word ≡ Some number → (least ≤ number) × (number < bound)
decimal_from-within least bound word number h =
    let between = bind_some (decimal_between least bound word) _ number h in
    let high = cond_some (nat_lt between.0 bound) between.0 number between.2 in
    let up = bind_some (decimal_up_to bound word) _ between.0 between.1 in
    let low = cond_some (nat_le least up.0) up.0 between.0 up.2 in
    let lt : between.0 < bound = ltb-true between.0 bound high.0 in
    let le : least ≤ up.0 = leb-true least up.0 low.0 in
    (omega (arith, le, low.1, high.1), omega (arith, lt, high.1))

-- each number lies between the bounds, and above the one before it
abbrev AreRising : (least bound : ℕ) → List ℕ → Type 0
AreRising least bound [] = ⊤
AreRising least bound (number ∷ more) = (least ≤ number) × (number < bound) × AreRising (number + 1) bound more

are_rising : (least bound : ℕ) (words : List (List ℕ)) (list : List ℕ) → rising_from least bound words ≡ Some list → AreRising least bound list
are_rising least bound [] list h = rw (← same_Some [] list h) tt
are_rising least bound (word ∷ words) list h =
    let first = bind_some (decimal_from least bound word) _ list h in
    let others = bind_some (rising_from (first.0 + 1) bound words) _ list first.2 in
    let e : first.0 ∷ others.0 ≡ list = same_Some (first.0 ∷ others.0) list others.2 in
    let within = decimal_from-within least bound word first.0 first.1 in
    rw (← e) (within.0, within.1, are_rising (first.0 + 1) bound words others.0 others.1)

increases : (least bound : ℕ) (list : List ℕ) → AreRising least bound list → IsStrictlyIncreasing list
increases least bound [] h k l = absurd (omega arith)
increases least bound (x ∷ []) h k l = absurd (omega arith)
increases least bound (x ∷ y ∷ ys) h zero l = let le : x + 1 ≤ y = h.2.0 in omega (arith, le)
increases least bound (x ∷ y ∷ ys) h (suc k) l =
    let e : suc (k + 1) ≡ suc k + 1 = omega arith in
    subst (λ n. get_or (y ∷ ys) k 0 < get_or (x ∷ y ∷ ys) n 0) e (increases (x + 1) bound (y ∷ ys) h.2 k (omega arith))

are_below : (least bound : ℕ) (list : List ℕ) → AreRising least bound list → All (λ number. number < bound) list
are_below least bound [] h k d l = absurd (omega arith)
are_below least bound (x ∷ xs) h zero d l = h.1
are_below least bound (x ∷ xs) h (suc k) d l = are_below (x + 1) bound xs h.2 k d (omega arith)

-- the numbers that were read rise
pub rising_from-rises : (least bound : ℕ) (words : List (List ℕ)) (list : List ℕ) → rising_from least bound words ≡ Some list → IsStrictlyIncreasing list
rising_from-rises least bound words list h = increases least bound list (are_rising least bound words list h)

-- and are below their bound
pub rising_from-below : (least bound : ℕ) (words : List (List ℕ)) (list : List ℕ) → rising_from least bound words ≡ Some list → All (λ number. number < bound) list
rising_from-below least bound words list h = are_below least bound list (are_rising least bound words list h)
