-- One more marked place is passed over.
use Rattle.std.proofs.Common.{◌≡◌, ◌≢◌, ℕ, zero, suc, ◌+◌, ◌^◌, ◌<◌, ◌≤◌, ◌&&◌, Bool, true, false, List, Option, Some, None, refl, sym, ap, subst, ◌∙◌, arith, inl, inr}
use Rattle.std.specs.Prelude.{if◌then◌else◌}
use Rattle.std.specs.Option.{option_map}
use Rattle.std.proofs.lemmas.Bool.{cases_eq, cases_lt}
use Rattle.stores.specs.declared.entry.HistoryEntry.{HistoryEntry}
use Rattle.stores.specs.PastByPlace.{is_marked}
use Rattle.sender.specs.History.{SenderState, NoneMarked, not_to_repeat}
use Rattle.sender.specs.Passing.{IsNext, PassesAt, PassesAny}
use Rattle.endpoint.specs.declared.resend_rule.ResendRule.{ResendRule}
use Rattle.endpoint.specs.declared.resend_rule.Times.{Times}
use Rattle.endpoint.specs.declared.resend_rule.Verdict.{Verdict}
use Rattle.endpoint.specs.declared.resend_rule.Verdict.TheVariants.{Go, Early, Expired}
use Rattle.endpoint.specs.declared.resend_counts.ResendCounts.{ResendCounts}
use Rattle.endpoint.specs.Counts.{more}
use Rattle.endpoint.specs.ResendCounts.{count_below, count_verdict, is_early, is_expired}
use Rattle.endpoint.specs.Passing.{verdict_at, PassesBelow}

none_below : (test : ℕ → Bool) → count_below test 0 ≡ 0
unfolding count_below
none_below test = refl

one_below : (test : ℕ → Bool) (n : ℕ) → count_below test (suc n) ≡ count_below test n + (if test n then 1 else 0)
unfolding count_below
one_below test n = refl

-- how many of the places below a place pass a test, where none from another on does
skipped : (test : ℕ → Bool) (from n : ℕ) → from ≤ n → ((q : ℕ) → from ≤ q → q < n → test q ≡ false) → count_below test n ≡ count_below test from
skipped test from zero above none = ap (count_below test) (omega arith)
skipped test from (suc n) above none = elim (cases_lt n from) [
  | inl end ↦ ap (count_below test) (omega (arith, end, above))
  | inr more ↦
      let last = none n more (omega arith) in
      let before = skipped test from n more (λ q over under. none q over (omega arith)) in
      one_below test n ∙ ap (λ b. count_below test n + (if b then 1 else 0)) last ∙ plus_none (count_below test n) ∙ before
]
  where
    plus_none : (k : ℕ) → k + 0 ≡ k
    plus_none k = omega arith

-- how many pass a test that none passes
pub none_among : (test : ℕ → Bool) (n : ℕ) → ((q : ℕ) → q < n → test q ≡ false) → count_below test n ≡ 0
none_among test n none = skipped test 0 n (omega arith) (λ q above under. none q under) ∙ none_below test

-- one more
pub counted_below : (test : ℕ → Bool) (from place : ℕ) → from ≤ place → ((q : ℕ) → from ≤ q → q < place → test q ≡ false) → count_below test (place + 1) ≡ count_below test from + (if test place then 1 else 0)
counted_below test from place above none =
    ap (count_below test) (after place) ∙ one_below test place ∙ ap (λ n. n + (if test place then 1 else 0)) (skipped test from place above none)
  where
    after : (n : ℕ) → n + 1 ≡ suc n
    after n = omega arith

-- what is not marked is as if its mark were taken away
pub unmarked_is : (o : Option HistoryEntry) → is_marked o ≡ false → option_map not_to_repeat o ≡ o
unmarked_is None is = refl
unmarked_is (Some e) is = λ i. Some (record { place = e.place; content = e.content; repeats = e.repeats; marked = sym is i })

left_unmarked : (o : Option HistoryEntry) → is_marked (option_map not_to_repeat o) ≡ false
left_unmarked None = refl
left_unmarked (Some e) = refl

marked_is : (o : Option HistoryEntry) (e : HistoryEntry) → o ≡ Some e → e.marked ≡ true → is_marked o ≡ true
marked_is o e at is = ap is_marked at ∙ is

pub never : {A : Type 0} (b : Bool) → b ≡ true → b ≡ false → A
never b is not = let both : true ≡ false = sym is ∙ not in absurd (cc)

-- there is one least marked place
pub one_next : (mid : SenderState) (p q : ℕ) → IsNext mid p → IsNext mid q → p ≡ q
one_next mid p q a b = elim (cases_lt p q) [
  | inl less ↦ never (is_marked (mid.entries p)) (marked_is _ a.entry a.least.was a.least.marked) (b.least.least p less)
  | inr more ↦ elim (cases_lt q p) [
    | inl less ↦ never (is_marked (mid.entries q)) (marked_is _ b.entry b.least.was b.least.marked) (a.least.least q less)
    | inr more' ↦ omega (arith, more, more')
  ]
]

pub none_next : (mid : SenderState) (p : ℕ) → NoneMarked mid → IsNext mid p → ⊥
none_next mid p none next = never (is_marked (mid.entries p)) (marked_is _ next.entry next.least.was next.least.marked) (none p)

passed_this : (mid mid' : SenderState) (p : ℕ) (answer : Option ℕ) → IsNext mid p → PassesAny mid answer mid' → PassesAt mid p mid'
passed_this mid mid' p (Some q) next passes = subst (λ k. PassesAt mid k mid') (one_next mid q p (record { entry = passes.entry; least = passes.passes.least }) next) passes
passed_this mid mid' p None next (none, is) = absurd (none_next mid p none next)

more_more : (c n : ℕ) → more (more c n) 1 ≡ more c (n + 1)
more_more c n = omega arith

more_none : (c n : ℕ) → more c n ≡ more c (n + 0)
more_none c n = omega arith

early_after : (v : Verdict) (c : ResendCounts) (before n : ℕ) → c.early ≡ more before n → (count_verdict v c).early ≡ more before (n + (if is_early v then 1 else 0))
early_after Go c before n is = is ∙ more_none before n
early_after Early c before n is = ap (λ k. more k 1) is ∙ more_more before n
early_after Expired c before n is = is ∙ more_none before n

expired_after : (v : Verdict) (c : ResendCounts) (before n : ℕ) → c.expired ≡ more before n → (count_verdict v c).expired ≡ more before (n + (if is_expired v then 1 else 0))
expired_after Go c before n is = is ∙ more_none before n
expired_after Early c before n is = is ∙ more_none before n
expired_after Expired c before n is = ap (λ k. more k 1) is ∙ more_more before n

module _ (rule : ResendRule) (cells : List Times) (now from : ℕ) (old : SenderState) (passed : ResendCounts) (mid : SenderState) (passed' : ResendCounts)
    (so : PassesBelow rule cells now from old passed mid passed') (place : ℕ) (next : IsNext mid place) where
  pub from_below : from ≤ place
  from_below = elim (cases_lt place from) [
    | inl less ↦
        never (is_marked (mid.entries place)) (marked_is _ next.entry next.least.was next.least.marked)
        (ap is_marked (so.below place less) ∙ left_unmarked (old.entries place))
    | inr more ↦ more
  ]

  marked_before : is_marked (old.entries place) ≡ true
  marked_before = ap is_marked (sym (so.others place from_below)) ∙ marked_is _ next.entry next.least.was next.least.marked

  unmarked_between : (q : ℕ) → from ≤ q → q < place → is_marked (old.entries q) ≡ false
  unmarked_between q above under = ap is_marked (sym (so.others q above)) ∙ next.least.least q under

  -- a count of those that were marked and are so
  counts_one : (is_so : Verdict → Bool) → let test : ℕ → Bool = λ q. is_marked (old.entries q) && is_so (verdict_at rule cells now q) in
      count_below test (place + 1) ≡ count_below test from + (if is_so (verdict_at rule cells now place) then 1 else 0)
  counts_one is_so =
      let test : ℕ → Bool = λ q. is_marked (old.entries q) && is_so (verdict_at rule cells now q) in
      counted_below test from place from_below (λ q above under. ap (λ b. b && is_so (verdict_at rule cells now q)) (unmarked_between q above under))
      ∙ ap (λ b. count_below test from + (if b && is_so (verdict_at rule cells now place) then 1 else 0)) marked_before

  pub passes_one : (v : Verdict) (answer : Option ℕ) (mid' : SenderState) (passed'' : ResendCounts) → v ≡ verdict_at rule cells now place → v ≢ Go → PassesAny mid answer mid' →
      passed'' ≡ count_verdict v passed' → PassesBelow rule cells now (place + 1) old passed mid' passed''
  passes_one v answer mid' passed'' is not any counted =
      let at = passed_this mid mid' place answer next any in
      let passes = at.passes in
      let here : old.entries place ≡ Some at.entry = sym (so.others place from_below) ∙ passes.least.was in
      record {
        next = passes.next ∙ so.next;
        repair = passes.repair ∙ so.repair;
        below = λ q under. elim (cases_eq q place) [
          | inl same ↦ ap mid'.entries same ∙ passes.passed ∙ ap (option_map not_to_repeat) (sym here) ∙ sym (ap (λ k. option_map not_to_repeat (old.entries k)) same)
          | inr other ↦ passes.others q other ∙ elim (cases_lt q from) [
            | inl less ↦ so.below q less
            | inr above ↦ so.others q above ∙ sym (unmarked_is (old.entries q) (unmarked_between q above (omega (arith, under, other))))
          ]
        ];
        others = λ q above. passes.others q (λ same. absurd (omega (arith, above, same))) ∙ so.others q (let below = from_below in omega (arith, above, below));
        none_may = λ q under was. elim (cases_eq q place) [
          | inl same ↦ λ go. not (is ∙ sym (ap (λ k. verdict_at rule cells now k) same) ∙ go)
          | inr other ↦ elim (cases_lt q from) [
            | inl less ↦ so.none_may q less was
            | inr above ↦ never (is_marked (old.entries q)) was (unmarked_between q above (omega (arith, under, other)))
          ]
        ];
        early =
            ap (λ (c : ResendCounts). c.early) counted ∙ early_after v passed' passed.early _ so.early
            ∙ ap (λ w. more passed.early (count_below (λ q. is_marked (old.entries q) && is_early (verdict_at rule cells now q)) from + (if is_early w then 1 else 0))) is
            ∙ sym (ap (more passed.early) (counts_one is_early));
        expired =
            ap (λ (c : ResendCounts). c.expired) counted ∙ expired_after v passed' passed.expired _ so.expired
            ∙ ap (λ w. more passed.expired (count_below (λ q. is_marked (old.entries q) && is_expired (verdict_at rule cells now q)) from + (if is_expired w then 1 else 0))) is
            ∙ sym (ap (more passed.expired) (counts_one is_expired));
      }

pub more_zero : (c n : ℕ) → c < 2 ^ 64 → n ≡ 0 → c ≡ more c n
more_zero c n fits none = omega arith

-- where nothing is passed over yet
pub passes_none : (rule : ResendRule) (cells : List Times) (now : ℕ) (old : SenderState) (passed : ResendCounts) → passed.early < 2 ^ 64 → passed.expired < 2 ^ 64 →
    PassesBelow rule cells now 0 old passed old passed
passes_none rule cells now old passed early expired =
    record {
      next = refl;
      repair = refl;
      below = λ q under. absurd (omega arith);
      others = λ q above. refl;
      none_may = λ q under was. absurd (omega arith);
      early = more_zero passed.early _ early (none_below _);
      expired = more_zero passed.expired _ expired (none_below _);
    }
