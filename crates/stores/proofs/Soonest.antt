-- The least moment at which a slot is due, with a slot that is due from it on: how a walk finds it, and that it stays so when slots change.
use Rattle.std.proofs.Common.{◌≡◌, ◌≢◌, ℕ, zero, suc, ◌+◌, ◌-◌, ◌^◌, ◌<◌, ◌≤◌, ◌++◌, ◌||◌, Bool, true, false, List, [], ◌∷◌, length, drop, replicate, slice_get, Option, Some, None, ap, sym, subst, ◌∙◌, refl, arith, ⊎_elim, length-append}
use Rattle.std.specs.Prelude.{IfSome}
use Rattle.std.proofs.lemmas.Bool.{cases_eq, cases_lt, cases_Bool, or_from}
use Rattle.std.proofs.Math.Bool.{or-true}
use Rattle.std.proofs.lemmas.Bool.Decides.{nat_tests}
use Rattle.std.proofs.lemmas.List.{length-replicate}
use Rattle.std.proofs.lemmas.Option.{slice_get_past}
use Rattle.stores.specs.declared.due.foreseen.Soonest.{Soonest}
use Rattle.stores.specs.declared.ask_rule.AskRule.{AskRule}
use Rattle.stores.specs.declared.slot.Slot.{Slot}
use Rattle.stores.specs.Asking.{is_due, is_missing, has_come, any_below}
use Rattle.stores.specs.Foreseen.{soonest_moment, due_by, Serves, IsSoonest}
use Rattle.stores.proofs.DueSlots.{not_due}
use Rattle.stores.proofs.Lookup.{slice_get-append_left, slice_get-append_right, slice_get-drop, slice_get-replicate}

-- a slot that is due is within
due_within : (rule : AskRule) (slots : List Slot) (now i : ℕ) → due_by rule slots now i ≡ true → i < length slots
due_within rule slots now i due =
    ⊎_elim
    (λ (within : i < length slots). within)
    (λ past. absurd (let none = ap (is_due now rule.delay rule.retry rule.asks) (slice_get_past slots i (omega (arith, past))) in cc (none, due)))
    (cases_lt i (length slots))

any_at : (f : ℕ → Bool) (n i : ℕ) → i < n → f i ≡ true → any_below f n ≡ true
any_at f zero i l is = absurd (omega arith)
any_at f (suc n) i l is =
    ⊎_elim
    (λ (here : i ≡ n). ap (λ b. any_below f n || b) (ap f (sym here) ∙ is) ∙ or-true (any_below f n))
    (λ other. ap (λ b. b || f n) (any_at f n i (omega (arith, other)) is))
    (cases_eq i n)

none_at : (f : ℕ → Bool) (n : ℕ) → ((i : ℕ) → i < n → f i ≡ false) → any_below f n ≡ false
none_at f zero none = refl
none_at f (suc n) none = or_from (any_below f n) (f n) (none_at f n (λ i l. none i (omega arith))) (none n (omega arith))

-- a test that passes only where another does fails where that fails
fails : (b c : Bool) → c ≡ false → (b ≡ true → c ≡ true) → b ≡ false
fails true c e is = sym (is refl) ∙ e
fails false c e is = refl

-- a slot is due just from the moment on
pub soonest_any : (rule : AskRule) (soonest : Option Soonest) (slots : List Slot) → IsSoonest rule soonest slots (length slots) →
    (now : ℕ) → now < 2 ^ 64 → has_come (soonest_moment soonest) now ≡ any_below (λ i. is_due now rule.delay rule.retry rule.asks (slice_get slots i)) (length slots)
soonest_any rule soonest slots is now fits =
    ⊎_elim
    (λ (come : has_come (soonest_moment soonest) now ≡ true). come ∙ sym (some soonest is come))
    (λ (none : has_come (soonest_moment soonest) now ≡ false). none ∙ sym (none_at (due_by rule slots now) (length slots) (λ i l. fails (due_by rule slots now i) (has_come (soonest_moment soonest) now) none (is.not_before i now l fits))))
    (cases_Bool (has_come (soonest_moment soonest) now))
  where
    some : (s : Option Soonest) → IsSoonest rule s slots (length slots) → has_come (soonest_moment s) now ≡ true → any_below (due_by rule slots now) (length slots) ≡ true
    some None is come = absurd cc
    some (Some s) is come =
        let since : s.moment ≤ now = grind (arith, nat_tests, come) in
        let due = is.serves s refl now fits since in
        any_at (due_by rule slots now) (length slots) s.index (due_within rule slots now s.index due) due

-- what holds of what is there follows from another such fact
pub if_some : {X : Type 0} (o : Option X) (P Q : X → Type 0) → ((x : X) → P x → Q x) → IfSome o P → IfSome o Q
if_some None P Q step is = is
if_some (Some x) P Q step is = step x is

-- the first slots went
pub soonest_drop_none : (rule : AskRule) (slots : List Slot) (count : ℕ) → IsSoonest rule None slots (length slots) → IsSoonest rule None (drop count slots) (length (drop count slots))
soonest_drop_none rule slots count is = record {
  not_before = λ i now l fits due.
      let got = ap (is_due now rule.delay rule.retry rule.asks) (slice_get-drop count slots i (i + count) (omega arith)) in
      let was = sym got ∙ due in
      is.not_before (i + count) now (due_within rule slots now (i + count) was) fits was;
  serves = λ s e. absurd cc;
}

pub soonest_drop_some : (rule : AskRule) (slots : List Slot) (count : ℕ) (soonest left : Soonest) → soonest.moment ≡ left.moment → soonest.index ≡ left.index + count → IsSoonest rule (Some soonest) slots (length slots) →
    IsSoonest rule (Some left) (drop count slots) (length (drop count slots))
soonest_drop_some rule slots count soonest left same at is =
    let got : (now i : ℕ) → due_by rule (drop count slots) now i ≡ due_by rule slots now (i + count) = λ now i. ap (is_due now rule.delay rule.retry rule.asks) (slice_get-drop count slots i (i + count) (omega arith)) in
    record {
      not_before = λ i now l fits due.
          let was = sym (got now i) ∙ due in
          let come = is.not_before (i + count) now (due_within rule slots now (i + count) was) fits was in
          ap (λ m. has_come (Some m) now) (sym same) ∙ come;
      serves = λ s e now fits since.
          let here : left ≡ s = cc in
          let moment : soonest.moment ≤ now = omega (arith, same, ap Soonest.moment here, since) in
          ap (λ (x : Soonest). due_by rule (drop count slots) now x.index) (sym here) ∙ got now left.index ∙ ap (due_by rule slots now) (sym at) ∙ is.serves soonest refl now fits moment;
    }

-- slots came behind, all of them due from one moment on, as the first of them
pub soonest_adds : (rule : AskRule) (found soonest : Option Soonest) (moment : Option ℕ) (slots : List Slot) (count : ℕ) (slot : Slot) → 0 < count →
    ((now : ℕ) → has_come (soonest_moment soonest) now ≡ (has_come (soonest_moment found) now || has_come moment now)) →
    ((due : ℕ → ℕ → Bool) → Serves due found → ((now : ℕ) → now < 2 ^ 64 → due now (length slots) ≡ has_come moment now) → Serves due soonest) →
    ((now : ℕ) → now < 2 ^ 64 → is_due now rule.delay rule.retry rule.asks (Some slot) ≡ has_come moment now) →
    IsSoonest rule found slots (length slots) → IsSoonest rule soonest (slots ++ replicate count slot) (length (slots ++ replicate count slot))
soonest_adds rule found soonest moment slots count slot some sooner serves slot_due is =
    let all = slots ++ replicate count slot in
    let long = length-append slots (replicate count slot) in
    let many = length-replicate count slot in
    let left : (now i : ℕ) → i < length slots → due_by rule all now i ≡ due_by rule slots now i = λ now i l. ap (is_due now rule.delay rule.retry rule.asks) (slice_get-append_left slots (replicate count slot) i l) in
    let right : (now i : ℕ) → length slots ≤ i → i < length slots + count → now < 2 ^ 64 → due_by rule all now i ≡ has_come moment now = λ now i above below fits.
    let at = slice_get-append_right slots (replicate count slot) i (i - length slots) (omega arith) ∙ slice_get-replicate count slot (i - length slots) (omega arith) in
    ap (is_due now rule.delay rule.retry rule.asks) at ∙ slot_due now fits in
    record {
      not_before = λ i now l fits due. sooner now ∙
          ⊎_elim
          (λ (within : i < length slots). ap (λ b. b || has_come moment now) (is.not_before i now within fits (sym (left now i within) ∙ due)))
          (λ above. ap (λ b. has_come (soonest_moment found) now || b) (sym (right now i (omega (arith, above)) (omega arith) fits) ∙ due) ∙ or-true (has_come (soonest_moment found) now))
          (cases_lt i (length slots));
      serves = serves (due_by rule all)
          (λ s e now fits since. let due = is.serves s e now fits since in left now s.index (due_within rule slots now s.index due) ∙ due)
          (λ now fits. right now (length slots) (omega arith) (omega arith) fits);
    }

-- a slot came behind that is not missing
pub soonest_push : (rule : AskRule) (soonest : Option Soonest) (slots : List Slot) (slot : Slot) → is_missing (Some slot) ≡ false → IsSoonest rule soonest slots (length slots) →
    IsSoonest rule soonest (slots ++ slot ∷ []) (length (slots ++ slot ∷ []))
soonest_push rule soonest slots slot held is =
    let all = slots ++ slot ∷ [] in
    let long = length-append slots (slot ∷ []) in
    let left : (now i : ℕ) → i < length slots → due_by rule all now i ≡ due_by rule slots now i = λ now i l. ap (is_due now rule.delay rule.retry rule.asks) (slice_get-append_left slots (slot ∷ []) i l) in
    record {
      not_before = λ i now l fits due.
          ⊎_elim
          (λ (within : i < length slots). is.not_before i now within fits (sym (left now i within) ∙ due))
          (λ above.
          let last = slice_get-append_right slots (slot ∷ []) i 0 (omega (arith, above)) in
          let off = ap (is_due now rule.delay rule.retry rule.asks) last ∙ not_due now rule.delay rule.retry rule.asks (Some slot) held in
          absurd (cc (off, due)))
          (cases_lt i (length slots));
      serves = λ s e now fits since. let due = is.serves s e now fits since in left now s.index (due_within rule slots now s.index due) ∙ due;
    }

-- the slot at an index, which is not the named one, became one that is due from a moment on
pub soonest_change : (rule : AskRule) (found soonest : Option Soonest) (moment : Option ℕ) (old new : List Slot) (index : ℕ) →
    ((now : ℕ) → has_come (soonest_moment soonest) now ≡ (has_come (soonest_moment found) now || has_come moment now)) →
    ((due : ℕ → ℕ → Bool) → Serves due found → ((now : ℕ) → now < 2 ^ 64 → due now index ≡ has_come moment now) → Serves due soonest) →
    ((now : ℕ) → now < 2 ^ 64 → due_by rule new now index ≡ has_come moment now) →
    ((s : Soonest) → found ≡ Some s → s.index ≢ index) →
    length old ≡ length new → ((p : ℕ) → p ≢ index → slice_get new p ≡ slice_get old p) →
    IsSoonest rule found old (length old) → IsSoonest rule soonest new (length new)
soonest_change rule found soonest moment old new index sooner serves here apart long same is =
    let other : (now i : ℕ) → i ≢ index → due_by rule new now i ≡ due_by rule old now i = λ now i far. ap (is_due now rule.delay rule.retry rule.asks) (same i far) in
    record {
      not_before = λ i now l fits due. sooner now ∙
          ⊎_elim
          (λ (at : i ≡ index). ap (λ b. has_come (soonest_moment found) now || b) (sym (ap (due_by rule new now) at ∙ here now fits) ∙ due) ∙ or-true (has_come (soonest_moment found) now))
          (λ far. ap (λ b. b || has_come moment now) (is.not_before i now (omega arith) fits (sym (other now i far) ∙ due)))
          (cases_eq i index);
      serves = serves (due_by rule new)
          (λ s e now fits since. other now s.index (apart s e) ∙ is.serves s e now fits since)
          here;
    }

-- another slot is due from the same moment on
pub soonest_beside : (rule : AskRule) (soonest other : Soonest) (slots : List Slot) → other.moment ≡ soonest.moment →
    ((now : ℕ) → now < 2 ^ 64 → due_by rule slots now other.index ≡ has_come (Some other.moment) now) →
    IsSoonest rule (Some soonest) slots (length slots) → IsSoonest rule (Some other) slots (length slots)
soonest_beside rule soonest other slots same due is = record {
  not_before = λ i now l fits passes. ap (λ m. has_come (Some m) now) same ∙ is.not_before i now l fits passes;
  serves = λ s e now fits since.
      let here : other ≡ s = cc in
      let come : has_come (Some other.moment) now ≡ true = subst (λ (x : Soonest). has_come (Some x.moment) now ≡ true) (sym here) (grind (arith, nat_tests, since)) in
      ap (λ (x : Soonest). due_by rule slots now x.index) (sym here) ∙ due now fits ∙ come;
}

-- A walk: none of no slots is due
pub soonest_first : (rule : AskRule) (slots : List Slot) → IsSoonest rule None slots 0
soonest_first rule slots = record { not_before = λ i now l fits due. absurd (omega arith); serves = λ s e. absurd cc }

-- slots are passed that are due only where one before them is
pub soonest_pass : (rule : AskRule) (soonest : Option Soonest) (slots : List Slot) (i j : ℕ) →
    ((p now : ℕ) → i ≤ p → p < j → now < 2 ^ 64 → due_by rule slots now p ≡ true → has_come (soonest_moment soonest) now ≡ true) →
    IsSoonest rule soonest slots i → IsSoonest rule soonest slots j
soonest_pass rule soonest slots i j bounded is = record {
  not_before = λ p now l fits due.
      ⊎_elim
      (λ (early : p < i). is.not_before p now early fits due)
      (λ late. bounded p now (omega (arith, late)) l fits due)
      (cases_lt p i);
  serves = is.serves;
}

-- slots are passed that are not missing
pub soonest_skip : (rule : AskRule) (soonest : Option Soonest) (slots : List Slot) (i j : ℕ) → ((p : ℕ) → i ≤ p → p < j → is_missing (slice_get slots p) ≡ false) →
    IsSoonest rule soonest slots i → IsSoonest rule soonest slots j
soonest_skip rule soonest slots i j none is =
    soonest_pass rule soonest slots i j
    (λ p now l u fits due. let off = not_due now rule.delay rule.retry rule.asks (slice_get slots p) (none p l u) in absurd (cc (off, due))) is

-- a slot is due from the moment on before which none is
pub soonest_reached : (rule : AskRule) (before result : Option Soonest) (soonest moment : Option ℕ) (slots : List Slot) (start end index : ℕ) → moment ≡ soonest →
    ((now : ℕ) → has_come (soonest_moment result) now ≡ (false || has_come moment now)) →
    ((due : ℕ → ℕ → Bool) → Serves due None → ((now : ℕ) → now < 2 ^ 64 → due now index ≡ has_come moment now) → Serves due result) →
    ((now : ℕ) → now < 2 ^ 64 → due_by rule slots now index ≡ has_come moment now) →
    ((now : ℕ) → has_come (soonest_moment before) now ≡ true → has_come soonest now ≡ true) →
    ((p now : ℕ) → start ≤ p → p < end → now < 2 ^ 64 → due_by rule slots now p ≡ true → has_come soonest now ≡ true) →
    IsSoonest rule before slots start → IsSoonest rule result slots end
soonest_reached rule before result soonest moment slots start end index same at serves here sooner none is =
    let reach : (now : ℕ) → has_come soonest now ≡ true → has_come (soonest_moment result) now ≡ true = λ now come. at now ∙ ap (λ m. has_come m now) same ∙ come in
    record {
      not_before = λ i now l fits due.
          ⊎_elim
          (λ (early : i < start). reach now (sooner now (is.not_before i now early fits due)))
          (λ late. reach now (none i now (omega (arith, late)) l fits due))
          (cases_lt i start);
      serves = serves (due_by rule slots) (λ s e. absurd cc) here;
    }

-- the next slot is met, which is due from a moment on
pub soonest_meet : (rule : AskRule) (found soonest : Option Soonest) (moment : Option ℕ) (slots : List Slot) (next : ℕ) →
    ((now : ℕ) → has_come (soonest_moment soonest) now ≡ (has_come (soonest_moment found) now || has_come moment now)) →
    ((due : ℕ → ℕ → Bool) → Serves due found → ((now : ℕ) → now < 2 ^ 64 → due now next ≡ has_come moment now) → Serves due soonest) →
    ((now : ℕ) → now < 2 ^ 64 → due_by rule slots now next ≡ has_come moment now) →
    IsSoonest rule found slots next → IsSoonest rule soonest slots (next + 1)
soonest_meet rule found soonest moment slots next sooner serves here is = record {
  not_before = λ i now l fits due. sooner now ∙
      ⊎_elim
      (λ (at : i ≡ next). ap (λ b. has_come (soonest_moment found) now || b) (sym (ap (due_by rule slots now) at ∙ here now fits) ∙ due) ∙ or-true (has_come (soonest_moment found) now))
      (λ other. ap (λ b. b || has_come moment now) (is.not_before i now (omega (arith, other)) fits due))
      (cases_eq i next);
  serves = serves (due_by rule slots) is.serves here;
}
