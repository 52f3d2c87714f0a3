-- Passing over a retransmission, against the other steps of the sender.
use Rattle.std.proofs.Common.{◌≡◌, ◌≢◌, ℕ, ◌<◌, true, false, Option, Some, None, IsSome, rules, refl, sym, ap, subst, ◌∙◌, arith, inl, inr}
use Rattle.std.specs.Option.{option_map}
use Rattle.std.proofs.lemmas.Option.{same_Some}
use Rattle.std.proofs.lemmas.Bool.{cases_eq, cases_lt}
use Rattle.places.specs.Place.{number}
use Rattle.stores.specs.declared.entry.HistoryEntry.{HistoryEntry}
use Rattle.stores.specs.PastByPlace.{is_marked}
use Rattle.sender.specs.History.{SenderState, IsLeastMarked, PassesOver, Repairs, Marks, CanBeMarked, to_repeat, not_to_repeat}
use Rattle.sender.specs.Passing.{PassesAny}
use Rattle.sender.proofs.SameSteps.{same_history}

marked_there : (o : Option HistoryEntry) (entry : HistoryEntry) → o ≡ Some entry → entry.marked ≡ true → is_marked o ≡ false → ⊥
marked_there o entry at is not = let same = ap is_marked at in let never : true ≡ false = sym is ∙ sym same ∙ not in cc

-- there is one least marked place
pub one_least : (old : SenderState) (p q : ℕ) (e f : HistoryEntry) → IsLeastMarked old p e → IsLeastMarked old q f → p ≡ q
one_least old p q e f a b = elim (cases_lt p q) [
  | inl less ↦ absurd (marked_there (old.entries p) e a.was a.marked (b.least p less))
  | inr more ↦ elim (cases_lt q p) [
    | inl less ↦ absurd (marked_there (old.entries q) f b.was b.marked (a.least q less))
    | inr more' ↦ omega (arith, more, more')
  ]
]

least_entry : (old : SenderState) (p q : ℕ) (e f : HistoryEntry) → p ≡ q → IsLeastMarked old p e → IsLeastMarked old q f → e ≡ f
least_entry old p q e f place a b = same_Some e f (sym a.was ∙ ap old.entries place ∙ b.was)

one_pass : (old v w : SenderState) (p q : ℕ) (e f : HistoryEntry) → p ≡ q → e ≡ f → PassesOver old p e v → PassesOver old q f w → v ≡ w
one_pass old v w p q e f place entry a b =
    same_history v w (a.next ∙ sym b.next) (a.repair ∙ sym b.repair) (λ k. elim (cases_eq k p) [
      | inl here ↦ ap v.entries here ∙ a.passed ∙ ap (λ (x : HistoryEntry). Some (not_to_repeat x)) entry ∙ sym b.passed ∙ sym (ap w.entries (here ∙ place))
      | inr other ↦ a.others k other ∙ sym (b.others k (λ same. other (same ∙ sym place)))
    ])

pub one_passing : (old : SenderState) (x y : Option ℕ) (v w : SenderState) → PassesAny old x v → PassesAny old y w → (x ≡ y) × (v ≡ w)
one_passing old (Some p) (Some q) v w a b =
    let place = one_least old p q a.entry b.entry a.passes.least b.passes.least in
    let entry = least_entry old p q a.entry b.entry place a.passes.least b.passes.least in
    (ap Some place, one_pass old v w p q a.entry b.entry place entry a.passes b.passes)
one_passing old (Some p) None v w a (none, is) = absurd (marked_there (old.entries p) a.entry a.passes.least.was a.passes.least.marked (none p))
one_passing old None (Some q) v w (none, is) b = absurd (marked_there (old.entries q) b.entry b.passes.least.was b.passes.least.marked (none q))
one_passing old None None v w (none, is) (none', is') = (refl, is ∙ sym is')

module _ (old v w : SenderState) (p q : ℕ) (e f : HistoryEntry) (repairs : Repairs old p e v) (passes : PassesOver old q f w) where
  repaired_least : IsLeastMarked old p e
  repaired_least = record { was = repairs.was; marked = repairs.marked; least = repairs.least }

  pub same_place : p ≡ q
  same_place = one_least old p q e f repaired_least passes.least

  pub same_entry : e ≡ f
  same_entry = least_entry old p q e f same_place repaired_least passes.least

  pub same_others : (k : ℕ) → k ≢ p → v.entries k ≡ w.entries k
  same_others k other = repairs.others k other ∙ sym (passes.others k (λ same. other (same ∙ sym same_place)))

module _ (old new : SenderState) (p : ℕ) (e : HistoryEntry) (passes : PassesOver old p e new) where
  pub left_above : (q : ℕ) → is_marked (new.entries q) ≡ true → (p < q) × (is_marked (old.entries q) ≡ true)
  left_above q is = elim (cases_eq q p) [
    | inl here ↦ absurd (let gone = ap is_marked (ap new.entries here ∙ passes.passed) in let never : true ≡ false = sym is ∙ gone in cc)
    | inr other ↦ let was = ap is_marked (sym (passes.others q other)) ∙ is in (
      elim (cases_lt q p) [
        | inl less ↦ absurd (let not = passes.least.least q less in let never : true ≡ false = sym was ∙ not in cc)
        | inr more ↦ omega (arith, more, other)
      ],
      was,
    )
  ]

as_before : (e : HistoryEntry) → e.marked ≡ true → to_repeat (not_to_repeat e) ≡ e
as_before e is = λ i. record { place = e.place; content = e.content; repeats = e.repeats; marked = sym is i }

some_before : (o : Option HistoryEntry) (repeats : ℕ) → CanBeMarked repeats o → IsSome o
some_before (Some e) repeats can = search rules
some_before None repeats can = absurd (can)

pub marked_again : (repeats : ℕ) (old between new : SenderState) (p count : ℕ) (e : HistoryEntry) → PassesOver old p e between → e.repeats < repeats →
    ((q : ℕ) → IsSome (old.entries q) → number q ≡ number p → q ≡ p) → Marks repeats (λ n. n ≡ number p) between count new → new ≡ old
marked_again repeats old between new p count e passes below one marks =
    same_history new old (marks.next ∙ passes.next) (marks.repair ∙ passes.repair) (λ q. elim (cases_eq q p) [
      | inl here ↦ subst (λ k. new.entries k ≡ old.entries k) (sym here)
          (marks.marks p refl (subst (CanBeMarked repeats) (sym passes.passed) below) ∙ ap (λ o. option_map to_repeat o) passes.passed ∙ ap Some (as_before e passes.least.marked) ∙ sym passes.least.was)
      | inr other ↦ marks.others q (λ named can. other (one q (subst IsSome (passes.others q other) (some_before _ repeats can)) named)) ∙ passes.others q other
    ])
