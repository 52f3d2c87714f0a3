-- What the calls of a history leave keeps the limit of repeats.
use Rattle.std.proofs.Common.{◌≡◌, ℕ, ◌+◌, ◌-◌, ◌<◌, ◌==◌, Bool, true, false, cond, nat_lt, List, Option, Some, None, refl, sym, ap, subst, ◌∙◌, arith}
use Rattle.std.specs.Option.{option_map}
use Rattle.std.proofs.lemmas.Option.{same_Some, none-some}
use Rattle.std.proofs.lemmas.Bool.{eqb-true, ltb-true}
use Rattle.places.specs.Among.{is_among}
use Rattle.rtpwire.specs.declared.content.Content.{Content}
use Rattle.stores.specs.declared.entry.HistoryEntry.{HistoryEntry}
use Rattle.stores.specs.Past.{Past, IsPast, entry_at, fresh, unmarked, repeated}
use Rattle.stores.specs.PastByPlace.{Pushes, Changes, is_marked}
use Rattle.sender.specs.Sender.{Sending, Stays, IsBounded, RepeatsWithin}
use Rattle.sender.specs.Marking.{marked_below, marked_if, MarksNumbers}
use Rattle.places.specs.Place.{number}

module _ (repeats : ℕ) (old new : Past) where
  pub push_keeps : (p : ℕ) (content : Content) → Pushes old new p content → RepeatsWithin repeats old → RepeatsWithin repeats new
  push_keeps p content pushes keeps q entry e = by (q == p) (nat_lt q (p + 1 - old.capacity)) (sym (pushes.entries q) ∙ e)
    where
      by : (a b : Bool) → cond a (Some (fresh p content)) (cond b None (entry_at old q)) ≡ Some entry → IsBounded repeats entry
      by true b is = subst (IsBounded repeats) (same_Some _ _ is) (record { limit = omega arith; below = λ never. absurd (cc) })
      by false true is = absurd (none-some entry is)
      by false false is = keeps q entry is

  pub repeat_keeps : (p : ℕ) → Changes repeated old new p → is_marked (entry_at old p) ≡ true → RepeatsWithin repeats old → RepeatsWithin repeats new
  repeat_keeps p changes is_so keeps q entry e = by (q == p) refl (entry_at old q) refl (sym (changes.entries q) ∙ e)
    where
      by : (a : Bool) → (q == p) ≡ a → (o : Option HistoryEntry) → entry_at old q ≡ o → cond a (option_map repeated o) o ≡ Some entry → IsBounded repeats entry
      by true here None at is = absurd (none-some entry is)
      by true here (Some before) at is =
          let marked : before.marked ≡ true = ap is_marked (sym at) ∙ ap (λ n. is_marked (entry_at old n)) (eqb-true _ _ here) ∙ is_so in
          let below : before.repeats < repeats = (keeps q before at).below marked in
          subst (IsBounded repeats) (same_Some _ _ is) (record { limit = omega arith; below = λ never. absurd (cc) })
      by false there o at is = keeps q entry (at ∙ is)

  pub unmark_keeps : (p : ℕ) → Changes unmarked old new p → RepeatsWithin repeats old → RepeatsWithin repeats new
  unmark_keeps p changes keeps q entry e = by (q == p) (entry_at old q) refl (sym (changes.entries q) ∙ e)
    where
      by : (a : Bool) (o : Option HistoryEntry) → entry_at old q ≡ o → cond a (option_map unmarked o) o ≡ Some entry → IsBounded repeats entry
      by true None at is = absurd (none-some entry is)
      by true (Some before) at is =
          let limit = (keeps q before at).limit in
          subst (IsBounded repeats) (same_Some _ _ is) (record { limit = limit; below = λ never. absurd (cc) })
      by false o at is = keeps q entry (at ∙ is)

  pub marks_keep : (numbers : List ℕ) (count : ℕ) → MarksNumbers repeats numbers old count new → RepeatsWithin repeats old → RepeatsWithin repeats new
  marks_keep numbers count marks keeps q entry e = by (is_among numbers (number q)) (entry_at old q) refl (sym (marks.entries q) ∙ e)
    where
      one : (before : HistoryEntry) (less : Bool) → nat_lt before.repeats repeats ≡ less → IsBounded repeats before → IsBounded repeats (marked_below repeats before)
      one before true is bounded =
          let below : before.repeats < repeats = ltb-true _ _ is in
          rw is (record { limit = omega arith; below = λ _. below })
      one before false is bounded = rw is bounded

      by : (named : Bool) (o : Option HistoryEntry) → entry_at old q ≡ o → marked_if named repeats o ≡ Some entry → IsBounded repeats entry
      by true None at is = absurd (none-some entry is)
      by true (Some before) at is = subst (IsBounded repeats) (same_Some _ _ is) (one before _ refl (keeps q before at))
      by false o at is = keeps q entry (at ∙ is)

-- where nothing changed
pub same_stays : (inside now : Sending) → inside ≡ now → IsPast inside.past → Stays now now
same_stays inside now view_is past = record { config = refl; capacity = refl; is_past = subst (λ (s : Sending). IsPast s.past) view_is past }
