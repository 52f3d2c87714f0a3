-- Marking for a list of numbers: none, one, and one list after another; and what it is over places.
use Rattle.std.proofs.Common.{◌≡◌, ◌≢◌, ◌↔◌, ℕ, ◌+◌, ◌^◌, ◌<◌, ◌≤◌, ◌⊎◌, ◌==◌, ◌&&◌, ◌||◌, not, Bool, true, false, cond, nat_lt, List, [], ◌∷◌, ◌++◌, length, Option, Some, None, refl, sym, ap, subst, ◌∙◌, arith, eq-eqb, inl, inr}
use Rattle.std.specs.Prelude.{IsSome, IsSomeAnd}
use Rattle.std.specs.List.{filter, range_with_len}
use Rattle.std.specs.Option.{option_map}
use Rattle.std.proofs.lemmas.Option.{same_Some}
use Rattle.std.proofs.lemmas.Bool.{eqb-true, cases_Bool, lt-ltb, le-ltb, ltb-true, ltb-false}
use Rattle.std.proofs.lemmas.List.Folds.{list_any-append}
use Rattle.places.specs.Among.{is_among}
use Rattle.places.specs.Place.{number}
use Rattle.stores.specs.declared.entry.HistoryEntry.{HistoryEntry}
use Rattle.stores.specs.Past.{Past, IsPast, first_of, next_of, entry_at, numbered, marked}
use Rattle.stores.specs.PastByPlace.{IsKept, Changes, Finds, is_marked}
use Rattle.sender.specs.History.{CanBeMarked, becomes_marked, Marks}
use Rattle.sender.specs.Sender.{history_of}
use Rattle.sender.specs.Marking.{marked_below, marked_if, start_at, newly_marked, MarksNumbers}
use Rattle.sender.proofs.Listed.{bit, few_pass, counts_add, none_pass, one_passes, lists_passing}

-- the laws of histories that this stands on
pub record Laws : Type 0 where
  pub inside : (h : Past) (q : ℕ) → IsPast h → IsSome (entry_at h q) ↔ IsKept h q
  pub ends : (h : Past) (k next : ℕ) → IsPast h → first_of h ≡ Some k → next_of h ≡ Some next → (k < next) × (next ≤ k + h.capacity) × (next ≤ 2 ^ 48)
  pub one : (h : Past) (p q : ℕ) → IsPast h → IsSome (entry_at h p) → IsSome (entry_at h q) → number p ≡ number q → p ≡ q

not_twice : (b : Bool) → (b && not b) ≡ false
not_twice true = refl
not_twice false = refl

is_some : (o : Option HistoryEntry) (entry : HistoryEntry) → o ≡ Some entry → IsSome o
is_some o entry e = subst IsSome (sym e) refl

marked_same : (entry : HistoryEntry) → entry.marked ≡ true → marked entry ≡ entry
marked_same entry e = λ i. record { place = entry.place; content = entry.content; repeats = entry.repeats; marked = sym e i }

-- an entry that is marked, or that is not below the limit, stays
stays : (repeats : ℕ) (entry : HistoryEntry) → (entry.marked ≡ true) ⊎ (repeats ≤ entry.repeats) → marked_below repeats entry ≡ entry
stays repeats entry (inl is) = elim (nat_lt entry.repeats repeats) as (λ b. cond b (marked entry) entry ≡ entry) [ true ↦ marked_same entry is | false ↦ refl ]
stays repeats entry (inr over) = ap (λ b. cond b (marked entry) entry) (le-ltb _ _ over)

-- the places with an entry are in the run that is counted
in_run : Laws → (h : Past) (q : ℕ) → IsPast h → IsSome (entry_at h q) → (start_at (first_of h) ≤ q) × (q < start_at (first_of h) + h.capacity)
in_run laws h q is some = by (first_of h) refl (next_of h) refl (laws.inside h q is).0 some
  where
    by : (k : Option ℕ) → first_of h ≡ k → (next : Option ℕ) → next_of h ≡ next → (IsSome (entry_at h q) → IsSomeAnd k (λ k. k ≤ q) × IsSomeAnd next (λ next. q < next)) → IsSome (entry_at h q) →
        (start_at k ≤ q) × (q < start_at k + h.capacity)
    by None at next ends kept some = absurd ((kept some).0)
    by (Some k) at None ends kept some = absurd ((kept some).1)
    by (Some k) at (Some next) ends kept some =
        let low = (kept some).0 in
        let high = (kept some).1 in
        let end = (laws.ends h k next is at ends).1 in
        (low, omega arith)

module _ (repeats : ℕ) where
  -- nothing that could be marked is named
  pub marks_nothing : (numbers : List ℕ) (h : Past) → ((q : ℕ) → is_among numbers (number q) ≡ true → marked_if true repeats (entry_at h q) ≡ entry_at h q) → MarksNumbers repeats numbers h 0 h
  marks_nothing numbers h none =
      record {
        first = refl;
        next = refl;
        capacity = refl;
        entries = λ q. by q (is_among numbers (number q)) (none q);
        counted = sym (none_pass _ (start_at (first_of h)) h.capacity (λ q. not_twice (is_marked (entry_at h q))));
      }
    where
      by : (q : ℕ) (b : Bool) → (b ≡ true → marked_if true repeats (entry_at h q) ≡ entry_at h q) → entry_at h q ≡ marked_if b repeats (entry_at h q)
      by q true same = sym (same refl)
      by q false same = refl

  pub marks_none : (h : Past) → MarksNumbers repeats [] h 0 h
  marks_none h = marks_nothing [] h (λ q never. absurd (cc))

  -- the number n alone
  module _ (h : Past) (n : ℕ) where
    only : (q : ℕ) → is_among (n ∷ []) (number q) ≡ true → n ≡ number q
    only q among = elim (cases_Bool (n == number q)) [
      | inl e ↦ eqb-true _ _ e
      | inr e ↦ absurd (let never : (false || false) ≡ true = ap (λ b. b || false) (sym e) ∙ among in cc)
    ]

    pub marks_no_such : Finds h n → numbered h n ≡ None → MarksNumbers repeats (n ∷ []) h 0 h
    marks_no_such finds none =
        marks_nothing (n ∷ []) h (λ q among. by q (entry_at h q) refl (λ some. (rw none at finds) q some (sym (only q among))))
      where
        by : (q : ℕ) (o : Option HistoryEntry) → entry_at h q ≡ o → (IsSome (entry_at h q) → ⊥) → marked_if true repeats o ≡ o
        by q None at never = refl
        by q (Some entry) at never = absurd (never (is_some _ entry at))

    module _ (laws : Laws) (is : IsPast h) (p : ℕ) (entry : HistoryEntry) (finds : Finds h n) (found : numbered h n ≡ Some p) (at : entry_at h p ≡ Some entry) where
      has_number : number p ≡ n
      has_number = (rw found at finds).0

      -- its entry is the only one with the number
      the_entry : (q : ℕ) (other : HistoryEntry) → n ≡ number q → entry_at h q ≡ Some other → q ≡ p
      the_entry q other e here = laws.one h q p is (is_some _ other here) (is_some _ entry at) (sym e ∙ sym has_number)

      pub marks_no_more : (entry.marked ≡ true) ⊎ (repeats ≤ entry.repeats) → MarksNumbers repeats (n ∷ []) h 0 h
      marks_no_more why = marks_nothing (n ∷ []) h (λ q among. by q (entry_at h q) refl (only q among))
        where
          by : (q : ℕ) (o : Option HistoryEntry) → entry_at h q ≡ o → n ≡ number q → marked_if true repeats o ≡ o
          by q None here e = refl
          by q (Some other) here e =
              let same : other ≡ entry = same_Some _ _ (sym here ∙ ap (entry_at h) (the_entry q other e here) ∙ at) in
              ap (λ (x : HistoryEntry). Some x) (ap (marked_below repeats) same ∙ stays repeats entry why ∙ sym same)

      pub marks_one : (new : Past) → entry.marked ≡ false → entry.repeats < repeats → Changes marked h new p → MarksNumbers repeats (n ∷ []) h 1 new
      marks_one new unmarked under changes =
          record {
            first = changes.first;
            next = changes.next;
            capacity = changes.capacity;
            entries = λ q. changes.entries q ∙ by q (is_among (n ∷ []) (number q)) refl (entry_at h q) refl;
            counted = sym (one_passes _ p (start_at (first_of h)) h.capacity (λ q. ap (becomes_marked (entry_at h q)) (changes.entries q) ∙ count q (q == p) refl) run.0 run.1);
          }
        where
          run : (start_at (first_of h) ≤ p) × (p < start_at (first_of h) + h.capacity)
          run = in_run laws h p is (is_some _ entry at)

          not_at : (q : ℕ) → q ≢ p → (q == p) ≡ false
          not_at q other = elim (cases_Bool (q == p)) [ inl same ↦ absurd (other (eqb-true _ _ same)) | inr e ↦ e ]

          by : (q : ℕ) (b : Bool) → is_among (n ∷ []) (number q) ≡ b → (o : Option HistoryEntry) → entry_at h q ≡ o → cond (q == p) (option_map marked o) o ≡ marked_if b repeats o
          by q true among None here = elim (q == p) as (λ b. cond b (option_map marked None) None ≡ None) [ true ↦ refl | false ↦ refl ]
          by q true among (Some other) here =
              let place = the_entry q other (only q among) here in
              let same : other ≡ entry = same_Some _ _ (sym here ∙ ap (entry_at h) place ∙ at) in
              let test : nat_lt other.repeats repeats ≡ true = ap (λ (x : HistoryEntry). nat_lt x.repeats repeats) same ∙ lt-ltb _ _ under in
              ap (λ b. cond b (Some (marked other)) (Some other)) (eq-eqb q p place) ∙ sym (ap (λ b. Some (cond b (marked other) other)) test)
          by q false among o here =
              let apart : q ≢ p = λ same.
              let yes : is_among (n ∷ []) (number q) ≡ true = ap (λ b. b || false) (eq-eqb n (number q) (sym has_number ∙ ap number (sym same))) in
              absurd (let never : true ≡ false = sym yes ∙ among in cc) in
              ap (λ b. cond b (option_map marked o) o) (not_at q apart)

          count : (q : ℕ) (b : Bool) → (q == p) ≡ b → becomes_marked (entry_at h q) (cond b (option_map marked (entry_at h q)) (entry_at h q)) ≡ b
          count q true here =
              let there : entry_at h q ≡ Some entry = ap (entry_at h) (eqb-true _ _ here) ∙ at in
              ap (λ (o : Option HistoryEntry). becomes_marked o (option_map marked o)) there ∙ ap (λ b. not b) unmarked
          count q false there = not_twice (is_marked (entry_at h q))

  -- one list after another

  below_twice : (entry : HistoryEntry) → marked_below repeats (marked_below repeats entry) ≡ marked_below repeats entry
  below_twice entry = by (nat_lt entry.repeats repeats) refl
    where
      by : (b : Bool) → nat_lt entry.repeats repeats ≡ b → marked_below repeats (cond b (marked entry) entry) ≡ cond b (marked entry) entry
      by true is = ap (λ b. cond b (marked entry) (marked entry)) is
      by false is = ap (λ b. cond b (marked entry) entry) is

  twice : (x y : Bool) (o : Option HistoryEntry) → marked_if y repeats (marked_if x repeats o) ≡ marked_if (x || y) repeats o
  twice true true None = refl
  twice true true (Some entry) = ap (λ (e : HistoryEntry). Some e) (below_twice entry)
  twice true false o = refl
  twice false true o = refl
  twice false false o = refl

  -- a mark stays
  grows : (x : Bool) (o : Option HistoryEntry) → is_marked o ≡ true → is_marked (marked_if x repeats o) ≡ true
  grows x None is = absurd (cc)
  grows false (Some entry) is = is
  grows true (Some entry) is =
      elim (nat_lt entry.repeats repeats) as (λ b. is_marked (Some (cond b (marked entry) entry)) ≡ true) [ true ↦ refl | false ↦ is ]

  bits_add : (a b d : Bool) → (a ≡ true → b ≡ true) → (b ≡ true → d ≡ true) → bit (d && not a) ≡ bit (b && not a) + bit (d && not b)
  bits_add true true true f g = refl
  bits_add true true false f g = absurd (let never = g refl in cc)
  bits_add true false d f g = absurd (let never = f refl in cc)
  bits_add false true true f g = refl
  bits_add false true false f g = absurd (let never = g refl in cc)
  bits_add false false true f g = refl
  bits_add false false false f g = refl

  pub marks_more : (xs ys : List ℕ) (old mid new : Past) (i j : ℕ) → MarksNumbers repeats xs old i mid → MarksNumbers repeats ys mid j new → MarksNumbers repeats (xs ++ ys) old (i + j) new
  marks_more xs ys old mid new i j a b =
      record {
        first = b.first ∙ a.first;
        next = b.next ∙ a.next;
        capacity = b.capacity ∙ a.capacity;
        entries = λ q.
            b.entries q ∙ ap (marked_if (is_among ys (number q)) repeats) (a.entries q) ∙ twice (is_among xs (number q)) (is_among ys (number q)) (entry_at old q)
            ∙ ap (λ c. marked_if c repeats (entry_at old q)) (sym (list_any-append (λ m. m == number q) xs ys));
        counted =
            let sum = counts_add (λ q. becomes_marked (entry_at old q) (entry_at mid q)) (λ q. becomes_marked (entry_at mid q) (entry_at new q))
            (λ q. becomes_marked (entry_at old q) (entry_at new q)) (start_at (first_of old)) old.capacity
            (λ q. bits_add (is_marked (entry_at old q)) (is_marked (entry_at mid q)) (is_marked (entry_at new q))
            (λ is. ap is_marked (a.entries q) ∙ grows (is_among xs (number q)) (entry_at old q) is)
            (λ is. ap is_marked (b.entries q) ∙ grows (is_among ys (number q)) (entry_at mid q) is)) in
            let second : j ≡ length (filter (λ q. becomes_marked (entry_at mid q) (entry_at new q)) (range_with_len (start_at (first_of old)) old.capacity)) =
            b.counted ∙ ap (λ (r : ℕ × ℕ). length (filter (λ q. becomes_marked (entry_at mid q) (entry_at new q)) (range_with_len r.0 r.1))) (λ k. (start_at (a.first k), a.capacity k)) in
            let first = a.counted in
            omega (arith, first, second, sum);
      }

  pub few : (xs : List ℕ) (old new : Past) (count : ℕ) → IsPast old → MarksNumbers repeats xs old count new → count ≤ 8192
  few xs old new count is marks =
      let most = few_pass (λ q. becomes_marked (entry_at old q) (entry_at new q)) (start_at (first_of old)) old.capacity in
      let counted = marks.counted in
      let limit = is.limit in
      omega (arith, most, counted, limit)

  -- the step of the sender over places
  pub marks_named : Laws → (numbers : List ℕ) (named : ℕ → Type 0) → ((n : ℕ) → named n ↔ (is_among numbers n ≡ true)) → (old new : Past) (count next repair : ℕ) → IsPast old →
      MarksNumbers repeats numbers old count new → Marks repeats named (history_of next repair old) count (history_of next repair new)
  marks_named laws numbers named same old new count next repair is marks =
      record {
        next = refl;
        repair = refl;
        marks = λ q is_named can. marks.entries q ∙ ap (λ b. marked_if b repeats (entry_at old q)) ((same (number q)).0 is_named) ∙ can_be (entry_at old q) can;
        others = λ q not_both. marks.entries q ∙ unchanged q (is_among numbers (number q)) refl (entry_at old q) (λ is_named. not_both ((same (number q)).1 is_named));
        places = newly_marked old new;
        listed = lists_passing _ (start_at (first_of old)) old.capacity (λ q passes. in_run laws old q is (was_there q (entry_at old q) refl (sym (ap (becomes_marked (entry_at old q)) (marks.entries q)) ∙ passes)));
        counted = marks.counted;
      }
    where
      can_be : (o : Option HistoryEntry) → CanBeMarked repeats o → option_map (marked_below repeats) o ≡ option_map marked o
      can_be None can = refl
      can_be (Some entry) can = ap (λ b. Some (cond b (marked entry) entry)) (lt-ltb _ _ can)

      unchanged : (q : ℕ) (b : Bool) → is_among numbers (number q) ≡ b → (o : Option HistoryEntry) → (is_among numbers (number q) ≡ true → CanBeMarked repeats o → ⊥) → marked_if b repeats o ≡ o
      unchanged q false at o never = refl
      unchanged q true at None never = refl
      unchanged q true at (Some entry) never = ap (λ (e : HistoryEntry). Some e) (stays repeats entry (inr (elim (cases_Bool (nat_lt entry.repeats repeats)) [
        | inl less ↦ absurd (never at (ltb-true _ _ less))
        | inr more ↦ ltb-false _ _ more
      ])))

      was_there : (q : ℕ) (o : Option HistoryEntry) → entry_at old q ≡ o → becomes_marked o (marked_if (is_among numbers (number q)) repeats o) ≡ true → IsSome (entry_at old q)
      was_there q (Some entry) at passes = is_some _ entry at
      was_there q None at passes = absurd (by (is_among numbers (number q)) passes)
        where
          by : (b : Bool) → becomes_marked None (marked_if b repeats None) ≡ true → ⊥
          by true never = cc
          by false never = cc
