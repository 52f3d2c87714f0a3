-- What feedback leaves of an entry: its content and its repeats. Only an entry below the limit gets a mark.
use Rattle.std.proofs.Common.{◌≡◌, ◌⊎◌, ℕ, ◌<◌, true, List, [], ◌∷◌, Option, Some, None, Result, Ok, Err, refl, sym, ap, subst, ◌∙◌, ⊎_elim, inl, inr, arith}
use Rattle.std.specs.Option.{option_map}
use Rattle.std.proofs.lemmas.Bool.{cases_lt}
use Rattle.std.proofs.lemmas.Option.{same_Some}
use Rattle.places.specs.Place.{number}
use Rattle.fbwire.specs.declared.fault.FeedbackFault.{FeedbackFault}
use Rattle.fbwire.specs.Nack.{Nack, Names}
use Rattle.fbwire.specs.Compound.{NacksName}
use Rattle.stores.specs.declared.entry.HistoryEntry.{HistoryEntry}
use Rattle.stores.specs.Past.{marked}
use Rattle.sender.specs.declared.answer.Marked.{Marked as Marking}
use Rattle.sender.specs.Config.{Config}
use Rattle.sender.specs.History.{SenderState, CanBeMarked, Marks}
use Rattle.sender.specs.Feedback.{HearsFeedback, MarksOrRefuses}

-- what a sender answers to octets, by its law
abbrev pub AnyFeedback : Type 0
AnyFeedback =
    (c : Config) (old : SenderState) (octets : List ℕ) (answer : Result Marking FeedbackFault) (new : SenderState) → HearsFeedback c old octets answer new → MarksOrRefuses c old answer new

-- whether a number is named can be told
abbrev pub Decided : Type 0
Decided = (nacks : List Nack) (n : ℕ) → NacksName nacks n ⊎ (NacksName nacks n → ⊥)

-- the entry that feedback found
pub record Found (repeats : ℕ) (old : SenderState) (q : ℕ) (e : HistoryEntry) : Type 0 where
  pub was : HistoryEntry
  pub there : old.entries q ≡ Some was
  pub content : was.content ≡ e.content
  pub counted : was.repeats ≡ e.repeats
  pub allowed : e.marked ≡ true → (was.marked ≡ true) ⊎ (was.repeats < repeats)

pub can_be_marked : (repeats : ℕ) (o : Option HistoryEntry) → CanBeMarked repeats o ⊎ (CanBeMarked repeats o → ⊥)
can_be_marked repeats None = inr (λ never. never)
can_be_marked repeats (Some e) = ⊎_elim (λ less. inl less) (λ h. inr (λ less. omega (arith, h, less))) (cases_lt e.repeats repeats)

module _ (repeats : ℕ) (old new : SenderState) (q : ℕ) (e : HistoryEntry) where
  unchanged : new.entries q ≡ old.entries q → new.entries q ≡ Some e → Found repeats old q e
  unchanged same is = record { was = e; there = sym same ∙ is; content = refl; counted = refl; allowed = λ m. inl m }

  changed : (o : Option HistoryEntry) → old.entries q ≡ o → CanBeMarked repeats o → option_map marked o ≡ Some e → Found repeats old q e
  changed None at can is = absurd can
  changed (Some was) at can is =
      let same = same_Some (marked was) e is in
      record { was = was; there = at; content = ap (λ (x : HistoryEntry). x.content) same; counted = ap (λ (x : HistoryEntry). x.repeats) same; allowed = λ m. inr can }

  pub found : (named : ℕ → Type 0) (count : ℕ) → named (number q) ⊎ (named (number q) → ⊥) → Marks repeats named old count new → new.entries q ≡ Some e → Found repeats old q e
  found named count (inr other) marks is = unchanged (marks.others q (λ here can. other here)) is
  found named count (inl here) marks is =
      ⊎_elim
      (λ can. changed (old.entries q) refl can (sym (marks.marks q here can) ∙ is))
      (λ cannot. unchanged (marks.others q (λ again can. cannot can)) is)
      (can_be_marked repeats (old.entries q))

-- what an entry becomes
pub record Stays (repeats : ℕ) (named : Type 0) (new : SenderState) (q : ℕ) (e : HistoryEntry) : Type 0 where
  pub after : HistoryEntry
  pub there : new.entries q ≡ Some after
  pub counted : after.repeats ≡ e.repeats
  pub still : e.marked ≡ true → after.marked ≡ true
  pub now : named → e.repeats < repeats → after.marked ≡ true

module _ (repeats count : ℕ) (named : ℕ → Type 0) (old new : SenderState) (marks : Marks repeats named old count new) (q : ℕ) where
  -- a mark stood before, or the number was named
  pub named_or_was : (e : HistoryEntry) → named (number q) ⊎ (named (number q) → ⊥) → new.entries q ≡ Some e → (old.entries q ≡ Some e) ⊎ named (number q)
  named_or_was e (inl here) is = inr here
  named_or_was e (inr other) is = inl (sym (marks.others q (λ here can. other here)) ∙ is)

  same_entry : (e : HistoryEntry) → old.entries q ≡ Some e → new.entries q ≡ old.entries q → (named (number q) → e.repeats < repeats → ⊥) → Stays repeats (named (number q)) new q e
  same_entry e at same never = record { after = e; there = same ∙ at; counted = refl; still = λ m. m; now = λ here less. absurd (never here less) }

  pub stays : (e : HistoryEntry) → named (number q) ⊎ (named (number q) → ⊥) → old.entries q ≡ Some e → Stays repeats (named (number q)) new q e
  stays e (inr other) at = same_entry e at (marks.others q (λ here can. other here)) (λ here less. other here)
  stays e (inl here) at =
      ⊎_elim
      (λ can. record { after = marked e; there = marks.marks q here can ∙ ap (λ (o : Option HistoryEntry). option_map marked o) at; counted = refl; still = λ m. refl; now = λ named less. refl })
      (λ cannot. same_entry e at (marks.others q (λ again can. cannot can)) (λ named less. cannot (subst (λ (o : Option HistoryEntry). CanBeMarked repeats o) (sym at) less)))
      (can_be_marked repeats (old.entries q))

-- whether one NACK names a number can be told
pub decided_alone : Decided → (nack : Nack) (n : ℕ) → Names nack.pairs n ⊎ (Names nack.pairs n → ⊥)
decided_alone decided nack n = ⊎_elim (λ some. ⊎_elim (λ here. inl here) (λ never. absurd never) some) (λ other. inr (λ here. other (inl here))) (decided (nack ∷ []) n)

-- whatever feedback came
pub was_found : Decided → (c : Config) (old : SenderState) (answer : Result Marking FeedbackFault) (new : SenderState) → MarksOrRefuses c old answer new →
    (q : ℕ) (e : HistoryEntry) → new.entries q ≡ Some e → Found c.repeats old q e
was_found decided c old (Ok marking) new (nacks, marks) q e is = found c.repeats old new q e (NacksName nacks) marking.places (decided nacks (number q)) marks is
was_found decided c old (Err fault) new same q e is = unchanged c.repeats old new q e (ap (λ (h : SenderState). h.entries q) same) is

pub same_next : (c : Config) (old : SenderState) (answer : Result Marking FeedbackFault) (new : SenderState) → MarksOrRefuses c old answer new → new.next ≡ old.next
same_next c old (Ok marking) new (nacks, marks) = marks.next
same_next c old (Err fault) new same = ap (λ (h : SenderState). h.next) same

pub same_repair : (c : Config) (old : SenderState) (answer : Result Marking FeedbackFault) (new : SenderState) → MarksOrRefuses c old answer new → new.repair ≡ old.repair
same_repair c old (Ok marking) new (nacks, marks) = marks.repair
same_repair c old (Err fault) new same = ap (λ (h : SenderState). h.repair) same
