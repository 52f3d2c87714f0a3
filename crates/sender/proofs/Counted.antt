-- Counts of one list after another, and what they are over places.
use Rattle.std.proofs.Common.{◌≡◌, ◌≢◌, ◌↔◌, ℕ, ◌+◌, ◌≤◌, not, Bool, true, false, cond, nat_lt, List, [], ◌++◌, length, Option, Some, None, refl, sym, ap, subst, ◌∙◌, arith, length-append}
use Rattle.std.specs.Prelude.{IsTrue, IsSome, IsSomeAnd, MatchOption}
use Rattle.std.specs.List.{filter, count_by}
use Rattle.std.proofs.lemmas.Bool.{ltb-false, le-ltb}
use Rattle.std.proofs.lemmas.List.Elements.{filter-append}
use Rattle.std.proofs.lemmas.List.Sums.{sum_by-append}
use Rattle.places.specs.Place.{number}
use Rattle.fbwire.specs.Nack.{Nack}
use Rattle.stores.specs.declared.entry.HistoryEntry.{HistoryEntry}
use Rattle.stores.specs.Past.{Past, IsPast, entry_at, numbered}
use Rattle.stores.specs.PastByPlace.{Finds}
use Rattle.sender.specs.declared.answer.Shared.{Shared}
use Rattle.sender.specs.Config.{Config}
use Rattle.sender.specs.Feedback.{is_ours}
use Rattle.sender.specs.Shared.{our_numbers, count_in_32, IsUnknown, IsExhausted, CountsShared}
use Rattle.sender.specs.Counting.{entry_found, is_absent, is_spent, is_unknown, is_exhausted, CountsNumbers, CountsNacks, AddsUp}
use Rattle.sender.specs.Sender.{history_of}
use Rattle.sender.proofs.Ours.{our_numbers_more}

added : (x y sum a b s : ℕ) → x ≡ count_in_32 a → y ≡ count_in_32 b → sum ≡ count_in_32 (x + y) → s ≡ a + b → sum ≡ count_in_32 s
added x y sum a b s = omega arith

none_added : (x y sum : ℕ) → x ≡ 0 → y ≡ 0 → sum ≡ count_in_32 (x + y) → sum ≡ 0
none_added x y sum = omega arith

count_more : (p : ℕ → Bool) (xs ys : List ℕ) → count_by p (xs ++ ys) ≡ count_by p xs + count_by p ys
count_more p xs ys = sum_by-append (λ n. cond (p n) 1 0) xs ys

module _ (repeats : ℕ) (h : Past) where
  pub numbers_none : (shared : Shared) → shared ≡ record { places = 0; nacks = 0; others = 0; numbers = 0; unknown = 0; exhausted = 0 } → CountsNumbers repeats h [] shared
  numbers_none shared is =
      subst (CountsNumbers repeats h []) (sym is) (record { places = refl; nacks = refl; others = refl; numbers = refl; unknown = refl; exhausted = refl })

  pub numbers_more : (xs ys : List ℕ) (x y sum : Shared) → CountsNumbers repeats h xs x → CountsNumbers repeats h ys y → AddsUp x y sum → CountsNumbers repeats h (xs ++ ys) sum
  numbers_more xs ys x y sum a b adds =
      record {
        places = none_added _ _ _ a.places b.places adds.places;
        nacks = none_added _ _ _ a.nacks b.nacks adds.nacks;
        others = none_added _ _ _ a.others b.others adds.others;
        numbers = added _ _ _ _ _ _ a.numbers b.numbers adds.numbers (length-append xs ys);
        unknown = added _ _ _ _ _ _ a.unknown b.unknown adds.unknown (count_more (is_unknown h) xs ys);
        exhausted = added _ _ _ _ _ _ a.exhausted b.exhausted adds.exhausted (count_more (is_exhausted repeats h) xs ys);
      }

module _ (c : Config) (h : Past) where
  pub nacks_none : (shared : Shared) → shared ≡ record { places = 0; nacks = 0; others = 0; numbers = 0; unknown = 0; exhausted = 0 } → CountsNacks c h [] shared
  nacks_none shared is =
      subst (CountsNacks c h []) (sym is) (record { places = refl; nacks = refl; others = refl; numbers = refl; unknown = refl; exhausted = refl })

  length_of : {A : Type 0} (p : A → Bool) (xs ys : List A) → length (filter p (xs ++ ys)) ≡ length (filter p xs) + length (filter p ys)
  length_of {A} p xs ys = ap (λ (list : List A). length list) (filter-append p xs ys) ∙ length-append (filter p xs) (filter p ys)

  number_count : (p : ℕ → Bool) (xs ys : List Nack) → count_by p (our_numbers c (xs ++ ys)) ≡ count_by p (our_numbers c xs) + count_by p (our_numbers c ys)
  number_count p xs ys = ap (count_by p) (our_numbers_more c xs ys) ∙ count_more p (our_numbers c xs) (our_numbers c ys)

  pub nacks_more : (xs ys : List Nack) (x y sum : Shared) → CountsNacks c h xs x → CountsNacks c h ys y → AddsUp x y sum → CountsNacks c h (xs ++ ys) sum
  nacks_more xs ys x y sum a b adds =
      record {
        places = none_added _ _ _ a.places b.places adds.places;
        nacks = added _ _ _ _ _ _ a.nacks b.nacks adds.nacks (length_of (is_ours c) xs ys);
        others = added _ _ _ _ _ _ a.others b.others adds.others (length_of (λ (nack : Nack). not (is_ours c nack)) xs ys);
        numbers = added _ _ _ _ _ _ a.numbers b.numbers adds.numbers (ap (λ (list : List ℕ). length list) (our_numbers_more c xs ys) ∙ length-append (our_numbers c xs) (our_numbers c ys));
        unknown = added _ _ _ _ _ _ a.unknown b.unknown adds.unknown (number_count (is_unknown h) xs ys);
        exhausted = added _ _ _ _ _ _ a.exhausted b.exhausted adds.exhausted (number_count (is_exhausted c.repeats h) xs ys);
      }

-- The tests of the history are the properties over places.

-- the laws of histories that this stands on
pub record Laws : Type 0 where
  pub find : (h : Past) (n : ℕ) → IsPast h → Finds h n
  pub one : (h : Past) (p q : ℕ) → IsPast h → IsSome (entry_at h p) → IsSome (entry_at h q) → number p ≡ number q → p ≡ q

module _ (laws : Laws) (h : Past) (is : IsPast h) (repeats : ℕ) (next repair : ℕ) (n : ℕ) where
  absent : (o : Option HistoryEntry) → (IsSome o → ⊥) → o ≡ None
  absent None never = refl
  absent (Some entry) never = absurd (never refl)

  present : (o : Option HistoryEntry) (entry : HistoryEntry) → o ≡ Some entry → IsSome o
  present o entry at = subst IsSome (sym at) refl

  -- the place that is found, with its entry
  module _ (p : ℕ) (at : numbered h n ≡ Some p) where
    found_so : (number p ≡ n) × IsSome (entry_at h p)
    found_so = subst (λ (o : Option ℕ). MatchOption o ((q : ℕ) → IsSome (entry_at h q) → number q ≢ n) (λ p. (number p ≡ n) × IsSome (entry_at h p))) at (laws.find h n is)

    test_at : (o : Option HistoryEntry) → entry_at h p ≡ o → entry_found h (numbered h n) ≡ o
    test_at o entry = ap (entry_found h) at ∙ entry

  not_found : numbered h n ≡ None → (q : ℕ) → IsSome (entry_at h q) → number q ≢ n
  not_found at = subst (λ (o : Option ℕ). MatchOption o ((q : ℕ) → IsSome (entry_at h q) → number q ≢ n) (λ p. (number p ≡ n) × IsSome (entry_at h p))) at (laws.find h n is)

  not_both : true ≡ false → ⊥
  not_both never = cc

  pub unknown_tells : IsTrue (is_unknown h n) ↔ IsUnknown (history_of next repair h) n
  unknown_tells = by (numbered h n) refl
    where
      some_not_absent : (o : Option HistoryEntry) → IsSome o → is_absent o ≡ false
      some_not_absent None none = absurd (let never : false ≡ true = none in cc)
      some_not_absent (Some entry) some = refl

      by : (o : Option ℕ) → numbered h n ≡ o → IsTrue (is_unknown h n) ↔ IsUnknown (history_of next repair h) n
      by None at = (
        λ _. λ q e. absent (entry_at h q) (λ some. not_found at q some e),
        λ _. ap (λ (o : Option ℕ). is_absent (entry_found h o)) at,
      )
      by (Some p) at =
          let here = found_so p at in (
            λ unknown. absurd (not_both (sym unknown ∙ ap (λ (o : Option ℕ). is_absent (entry_found h o)) at ∙ some_not_absent (entry_at h p) here.1)),
            λ none. absurd (not_both (sym (subst (λ (o : Option HistoryEntry). is_absent o ≡ true) (sym (none p here.0)) refl) ∙ some_not_absent (entry_at h p) here.1)),
          )

  pub exhausted_tells : IsTrue (is_exhausted repeats h n) ↔ IsExhausted repeats (history_of next repair h) n
  exhausted_tells = (to, from)
    where
      spent_some : (o : Option HistoryEntry) → is_spent repeats o ≡ true → IsSomeAnd o (λ entry. repeats ≤ entry.repeats)
      spent_some None is = absurd (not_both (sym is))
      spent_some (Some entry) is = by (nat_lt entry.repeats repeats) refl is
        where
          by : (b : Bool) → nat_lt entry.repeats repeats ≡ b → not b ≡ true → repeats ≤ entry.repeats
          by true less is = absurd (not_both (sym is))
          by false more is = ltb-false _ _ more

      some_spent : (o : Option HistoryEntry) → IsSomeAnd o (λ entry. repeats ≤ entry.repeats) → is_spent repeats o ≡ true
      some_spent None never = absurd never
      some_spent (Some entry) over = ap (λ b. not b) (le-ltb _ _ over)

      to : IsTrue (is_exhausted repeats h n) → IsExhausted repeats (history_of next repair h) n
      to spent = by (numbered h n) refl
        where
          by : (o : Option ℕ) → numbered h n ≡ o → IsExhausted repeats (history_of next repair h) n
          by None at = absurd (not_both (sym spent ∙ ap (λ (o : Option ℕ). is_spent repeats (entry_found h o)) at))
          by (Some p) at = (p, (found_so p at).0, spent_some (entry_at h p) (sym (ap (λ (o : Option ℕ). is_spent repeats (entry_found h o)) at) ∙ spent))

      is_there : (o : Option HistoryEntry) → IsSomeAnd o (λ entry. repeats ≤ entry.repeats) → IsSome o
      is_there None never = absurd never
      is_there (Some entry) over = refl

      from : IsExhausted repeats (history_of next repair h) n → IsTrue (is_exhausted repeats h n)
      from (q, e, over) = by (numbered h n) refl
        where
          by : (o : Option ℕ) → numbered h n ≡ o → is_exhausted repeats h n ≡ true
          by None at = absurd (not_found at q (is_there (entry_at h q) over) e)
          by (Some p) at =
              let here = found_so p at in
              let same : q ≡ p = laws.one h q p is (is_there (entry_at h q) over) here.1 (e ∙ sym here.0) in
              ap (λ (o : Option ℕ). is_spent repeats (entry_found h o)) at
              ∙ ap (λ k. is_spent repeats (entry_at h k)) (sym same) ∙ some_spent (entry_at h q) over

-- what callers see
pub counts_shared : Laws → (c : Config) (h : Past) (is : IsPast h) (next repair : ℕ) (spelled : List Nack) (counted shared : Shared) →
    CountsNacks c h spelled counted → shared.nacks ≡ counted.nacks → shared.others ≡ counted.others → shared.numbers ≡ counted.numbers → shared.unknown ≡ counted.unknown → shared.exhausted ≡ counted.exhausted →
    CountsShared c (history_of next repair h) spelled shared
counts_shared laws c h is next repair spelled counted shared counts nacks others numbers unknown exhausted =
    record {
      nacks = nacks ∙ counts.nacks;
      others = others ∙ counts.others;
      numbers = numbers ∙ counts.numbers;
      unknown = record { test = is_unknown h; tells = unknown_tells laws h is c.repeats next repair; counted = unknown ∙ counts.unknown };
      exhausted = record { test = is_exhausted c.repeats h; tells = exhausted_tells laws h is c.repeats next repair; counted = exhausted ∙ counts.exhausted };
    }
