-- How many numbers of a run pass a test: of two runs beside each other, and of runs that pass alike.
use Rattle.std.proofs.Common.{◌≡◌, ℕ, zero, suc, ◌+◌, ◌<◌, ◌≤◌, Bool, true, false, List, ◌∷◌, length, cond, ap, sym, ◌∙◌, refl, arith, add-zero}
use Rattle.stores.proofs.Passing.{passing}

unfoldable pub weight : Bool → ℕ
weight true = 1
weight false = 0

weighed : (b : Bool) (x : ℕ) (xs : List ℕ) → length (cond b (x ∷ xs) xs) ≡ weight b + length xs
unfolding weight
weighed true x xs = omega arith
weighed false x xs = omega arith

weight_within : (b : Bool) → weight b ≤ 1
unfolding weight
weight_within true = omega arith
weight_within false = omega arith

pub weightless : (b : Bool) → weight b ≡ 0 → b ≡ false
unfolding weight
weightless true e = absurd (omega arith)
weightless false e = refl

-- the first number of a run passes, or it doesn't
pub one_more : (test : ℕ → Bool) (a n : ℕ) → length (passing test a (suc n)) ≡ weight (test a) + length (passing test (a + 1) n)
one_more test a n = weighed (test a) a (passing test (a + 1) n)

-- no more pass than there are
pub few_pass : (test : ℕ → Bool) (a n : ℕ) → length (passing test a n) ≤ n
few_pass test a zero = omega arith
few_pass test a (suc n) =
    let rest = few_pass test (a + 1) n in
    let one = one_more test a n in
    let light : weight (test a) ≤ 1 = weight_within (test a) in
    omega arith

-- runs whose numbers pass alike have as many that pass
pub same_tally : (f g : ℕ → Bool) (a b n : ℕ) → ((i : ℕ) → i < n → g (b + i) ≡ f (a + i)) → length (passing g b n) ≡ length (passing f a n)
same_tally f g a b zero same = refl
same_tally f g a b (suc n) same =
    let rest = same_tally f g (a + 1) (b + 1) n (λ i l.
    let there : b + 1 + i ≡ b + suc i = omega arith in
    let here : a + 1 + i ≡ a + suc i = omega arith in
    ap g there ∙ same (suc i) (omega arith) ∙ sym (ap f here)) in
    let first : weight (g b) ≡ weight (f a) = ap (λ q. weight (g q)) (sym (add-zero b)) ∙ ap weight (same 0 (omega arith)) ∙ ap (λ q. weight (f q)) (add-zero a) in
    let l = one_more g b n in
    let r = one_more f a n in
    omega arith

-- a run in two
pub two_tallies : (f : ℕ → Bool) (a n m : ℕ) → length (passing f a (n + m)) ≡ length (passing f a n) + length (passing f (a + n) m)
two_tallies f a zero m =
    let none : a + 0 ≡ a = omega arith in
    let all : 0 + m ≡ m = omega arith in
    let whole = ap (λ k. length (passing f a k)) all in
    let moved = ap (λ b. length (passing f b m)) none in
    omega arith
two_tallies f a (suc n) m =
    let rest = two_tallies f (a + 1) n m in
    let whole : suc n + m ≡ suc (n + m) = omega arith in
    let next : a + 1 + n ≡ a + suc n = omega arith in
    let all = ap (λ k. length (passing f a k)) whole in
    let moved = ap (λ b. length (passing f b m)) next in
    let l = one_more f a (n + m) in
    let r = one_more f a n in
    omega arith

-- none passes, or all do
pub no_tally : (f : ℕ → Bool) (a n : ℕ) → ((i : ℕ) → i < n → f (a + i) ≡ false) → length (passing f a n) ≡ 0
unfolding weight
no_tally f a zero none = refl
no_tally f a (suc n) none =
    let rest = no_tally f (a + 1) n (λ i l. let there : a + 1 + i ≡ a + suc i = omega arith in ap f there ∙ none (suc i) (omega arith)) in
    let first : weight (f a) ≡ 0 = ap (λ q. weight (f q)) (sym (add-zero a)) ∙ ap weight (none 0 (omega arith)) in
    let l = one_more f a n in
    omega arith

pub full_tally : (f : ℕ → Bool) (a n : ℕ) → ((i : ℕ) → i < n → f (a + i) ≡ true) → length (passing f a n) ≡ n
unfolding weight
full_tally f a zero all = refl
full_tally f a (suc n) all =
    let rest = full_tally f (a + 1) n (λ i l. let there : a + 1 + i ≡ a + suc i = omega arith in ap f there ∙ all (suc i) (omega arith)) in
    let first : weight (f a) ≡ 1 = ap (λ q. weight (f q)) (sym (add-zero a)) ∙ ap weight (all 0 (omega arith)) in
    let l = one_more f a n in
    omega arith
