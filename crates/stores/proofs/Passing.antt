-- The places of a run that pass a test, in rising order, and how many there are.
use Rattle.std.proofs.Common.{◌≡◌, ℕ, suc, ◌+◌, List, [], ◌∷◌, length, slice_get, Bool, true, false, Some, cond, ap, sym, ◌∙◌, refl, arith}
use Rattle.std.specs.List.{filter, range_with_len}

module _ (test : ℕ → Bool) where
  abbrev pub passing : ℕ → ℕ → List ℕ
  passing a n = filter test (range_with_len a n)

  first_passes : (a n : ℕ) → test a ≡ true → passing a (suc n) ≡ a ∷ passing (a + 1) n
  first_passes a n e = rw e refl

  first_fails : (a n : ℕ) → test a ≡ false → passing a (suc n) ≡ passing (a + 1) n
  first_fails a n e = rw e refl

  -- the first place passes, or it doesn't
  pub passing_yes : (a b n m : ℕ) → b ≡ a + 1 → n ≡ suc m → test a ≡ true → passing a n ≡ a ∷ passing b m
  passing_yes a b n m after more e = rw (after, more) (first_passes a m e)

  pub passing_no : (a b n m : ℕ) → b ≡ a + 1 → n ≡ suc m → test a ≡ false → passing a n ≡ passing b m
  passing_no a b n m after more e = rw (after, more) (first_fails a m e)

  -- there is no place
  pub passing_none : (a n : ℕ) → n ≡ 0 → passing a n ≡ []
  passing_none a n e = rw e refl

same_length : (b c : Bool) (x : ℕ) (X : Type 0) (z : X) (xs : List ℕ) (zs : List X) → b ≡ c → length xs ≡ length zs → length (cond b (x ∷ xs) xs) ≡ length (cond c (z ∷ zs) zs)
same_length true true x X z xs zs e l = ap suc l
same_length true false x X z xs zs e l = absurd (cc)
same_length false true x X z xs zs e l = absurd (cc)
same_length false false x X z xs zs e l = l

-- as many places pass as elements of the list that they stand for
pub passing_count : {X : Type 0} (test : ℕ → Bool) (element : X → Bool) (a : ℕ) (xs : List X) → ((i : ℕ) (x : X) → slice_get xs i ≡ Some x → test (a + i) ≡ element x) →
    length (passing test a (length xs)) ≡ length (filter element xs)
passing_count test element a [] same = refl
passing_count {X} test element a (x ∷ xs) same =
    let rest = passing_count test element (a + 1) xs (λ i y e. let at : a + 1 + i ≡ a + suc i = omega arith in ap test at ∙ same (suc i) y e) in
    let here : a + 0 ≡ a = omega arith in
    same_length _ _ a X x _ _ (sym (ap test here) ∙ same 0 x refl) rest
