-- What `find` and `least_marked` answer, by the entry of each place.
use Rattle.std.proofs.Common.{◌≡◌, ◌≢◌, ℕ, ◌+◌, ◌<◌, ◌==◌, Bool, true, false, List, [], ◌∷◌, Option, Some, None, IsSome, ap, sym, subst, ◌∙◌, refl, arith}
use Rattle.std.specs.Prelude.{MatchOption}
use Rattle.std.specs.Option.{option_map}
use Rattle.std.specs.List.{find}
use Rattle.std.proofs.lemmas.Bool.{eqb-true, eqb-false, cond_both}
use Rattle.std.proofs.lemmas.Bool.Decides.{nat_tests}
use Rattle.std.proofs.lemmas.Option.{same_Some}
use Rattle.places.specs.Place.{number}
use Rattle.stores.specs.declared.entry.HistoryEntry.{HistoryEntry}
use Rattle.stores.specs.Past.{Past, IsPast, IsRun, entry_of, entry_at, first_place, numbered, least_marked}
use Rattle.stores.specs.PastByPlace.{Finds, FindsLeast, is_marked}
use Rattle.stores.proofs.Runs.{run_tail, within_run}
use Rattle.stores.proofs.EntryPlaces.{base_of, based, has_its_place}

match_map : (o : Option ℕ) (P P' : Type 0) (Q Q' : ℕ → Type 0) → (P → P') → ((p : ℕ) → Q p → Q' p) → MatchOption o P Q → MatchOption o P' Q'
match_map None P P' Q Q' f g m = f m
match_map (Some p) P P' Q Q' f g m = g p m

module _ (test : HistoryEntry → Bool) where
  -- no entry passes
  abbrev pub NonePasses : List HistoryEntry → Type 0
  NonePasses entries = (q : ℕ) (x : HistoryEntry) → entry_of entries q ≡ Some x → test x ≡ false

  -- the entry of the place p passes, and none of a place below it
  abbrev pub FirstPasses : List HistoryEntry → ℕ → Type 0
  FirstPasses entries p =
      (entry : HistoryEntry) × (entry_of entries p ≡ Some entry) × (test entry ≡ true) × ((q : ℕ) (x : HistoryEntry) → q < p → entry_of entries q ≡ Some x → test x ≡ false)

  not_below : (k q : ℕ) (x : HistoryEntry) (entries : List HistoryEntry) → IsRun k entries → q < k → entry_of entries q ≡ Some x → ⊥
  not_below k q x entries run below e = let at = within_run k q entries run (rw e refl) in omega arith

  one_more : (k q : ℕ) (x y : HistoryEntry) (entries : List HistoryEntry) → x.place ≡ k → entry_of (x ∷ entries) q ≡ Some y → test x ≡ false → (entry_of entries q ≡ Some y → test y ≡ false) → test y ≡ false
  one_more k q x y entries here e fails rest = cond_both (x.place == q) (Some x) (entry_of entries q) (λ z. z ≡ Some y → test y ≡ false) (λ _ f. ap test (sym (same_Some x y f)) ∙ fails) (λ _ f. rest f) e

  above : (k p : ℕ) (x y : HistoryEntry) (entries : List HistoryEntry) → IsRun (k + 1) entries → x.place ≡ k → entry_of entries p ≡ Some y → entry_of (x ∷ entries) p ≡ Some y
  above k p x y entries run here e =
      let at = within_run (k + 1) p entries run (rw e refl) in
      grind (arith, nat_tests)

  pub search_run : (k : ℕ) (entries : List HistoryEntry) → IsRun k entries → MatchOption (first_place test entries) (NonePasses entries) (FirstPasses entries)
  search_run k [] run = λ q x e. absurd (cc)
  search_run k (x ∷ entries) run =
      let here : x.place ≡ k = let at = (run 0 x refl).0 in omega arith in
      let tail = run_tail k x entries run in
      cond_both (test x) (Some x) (find test entries) (λ r. MatchOption (option_map (λ (y : HistoryEntry). y.place) r) (NonePasses (x ∷ entries)) (FirstPasses (x ∷ entries)))
      (λ passes. (x, grind (arith, nat_tests), passes, λ q y below e. absurd (not_below k q y (x ∷ entries) run (omega arith) e)))
      (λ fails. match_map (first_place test entries) (NonePasses entries) (NonePasses (x ∷ entries)) (FirstPasses entries) (FirstPasses (x ∷ entries))
      (λ none q y e. one_more k q x y entries here e fails (none q y))
      (λ p first. (first.0, above k p x first.0 entries tail here first.1, first.2, λ q y below e. one_more k q x y entries here e fails (first.3 q y below)))
      (search_run (k + 1) entries tail))

some_is : (o : Option HistoryEntry) → IsSome o → (x : HistoryEntry) × (o ≡ Some x)
some_is None some = absurd (cc)
some_is (Some x) some = (x, refl)

pub finds_by_place : (h : Past) (n : ℕ) → IsPast h → Finds h n
finds_by_place h n is =
    let test : HistoryEntry → Bool = λ entry. number entry.place == n in
    match_map (numbered h n) (NonePasses test h.entries) ((q : ℕ) → IsSome (entry_at h q) → number q ≢ n) (FirstPasses test h.entries) (λ p. (number p ≡ n) × IsSome (entry_at h p))
    (λ none q some. let found = some_is (entry_at h q) some in
    let at = has_its_place q found.0 h.entries found.1 in
    subst (λ p. number p ≢ n) at (eqb-false _ _ (none q found.0 found.1)))
    (λ p first. let at = has_its_place p first.0 h.entries first.1 in
    (subst (λ q. number q ≡ n) at (eqb-true _ _ first.2), rw first.1 refl))
    (search_run test (base_of h.entries) h.entries (based h.entries is.run))

marked_is : (o : Option HistoryEntry) → ((x : HistoryEntry) → o ≡ Some x → x.marked ≡ false) → is_marked o ≡ false
marked_is None h = refl
marked_is (Some x) h = h x refl

pub least_by_place : (h : Past) → IsPast h → FindsLeast h
least_by_place h is =
    let test : HistoryEntry → Bool = λ entry. entry.marked in
    match_map (least_marked h) (NonePasses test h.entries) ((q : ℕ) → is_marked (entry_at h q) ≡ false) (FirstPasses test h.entries)
    (λ p. (is_marked (entry_at h p) ≡ true) × ((q : ℕ) → q < p → is_marked (entry_at h q) ≡ false))
    (λ none q. marked_is (entry_at h q) (none q))
    (λ p first. (ap is_marked first.1 ∙ first.2, λ q below. marked_is (entry_at h q) (λ x. first.3 q x below)))
    (search_run test (base_of h.entries) h.entries (based h.entries is.run))
