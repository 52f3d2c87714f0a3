-- The calls of a history are the steps of the sender over places.
use Rattle.std.proofs.Common.{◌≡◌, ◌≢◌, ℕ, ◌+◌, ◌-◌, ◌%◌, ◌<◌, ◌≤◌, ◌==◌, Bool, true, false, cond, nat_lt, Option, Some, refl, sym, ap, ◌∙◌, arith, eq-eqb, inl, inr}
use Rattle.std.specs.Option.{option_map}
use Rattle.std.proofs.lemmas.Bool.{eqb-true, lt-ltb, le-ltb, cases_Bool}
use mir.Val.{bool_byte}
use Rattle.rtpwire.specs.declared.content.Content.{Content}
use Rattle.stores.specs.declared.entry.HistoryEntry.{HistoryEntry}
use Rattle.stores.specs.Past.{Past, entry_at, unmarked, repeated}
use Rattle.stores.specs.PastByPlace.{Pushes, Changes, is_marked}
use Rattle.sender.specs.History.{Sends, Repairs, PassesOver, IsLeastMarked}
use Rattle.sender.specs.Sender.{history_of}

-- a test as a number
pub as_number : (b : Bool) → bool_byte b ≡ cond b 1 0
as_number true = refl
as_number false = refl

-- the tests in the words on entries, decided
at_place : (p : ℕ) (x y : Option HistoryEntry) → cond (p == p) x y ≡ x
at_place p x y = ap (λ b. cond b x y) (eq-eqb p p refl)

elsewhere : (q p : ℕ) (x y : Option HistoryEntry) → q ≢ p → cond (q == p) x y ≡ y
elsewhere q p x y other =
    elim (cases_Bool (q == p)) [ inl same ↦ absurd (other (eqb-true _ _ same)) | inr e ↦ ap (λ b. cond b x y) e ]

below : (q k : ℕ) (x y : Option HistoryEntry) → q < k → cond (nat_lt q k) x y ≡ x
below q k x y less = ap (λ b. cond b x y) (lt-ltb _ _ less)

not_below : (q k : ℕ) (x y : Option HistoryEntry) → k ≤ q → cond (nat_lt q k) x y ≡ y
not_below q k x y more = ap (λ b. cond b x y) (le-ltb _ _ more)

module _ (old new : Past) (next repair : ℕ) where
  pub sends : (content : Content) → 0 < old.capacity → Pushes old new next content → Sends old.capacity (history_of next repair old) content (history_of (next + 1) repair new)
  sends content room pushes =
      record {
        next = refl;
        repair = refl;
        sent = pushes.entries next ∙ at_place next _ _;
        gone = λ q under. pushes.entries q ∙ elsewhere q next _ _ (λ same. absurd (omega arith)) ∙ below q (next + 1 - old.capacity) _ _ (omega arith);
        others = λ q other kept. pushes.entries q ∙ elsewhere q next _ _ other ∙ not_below q (next + 1 - old.capacity) _ _ (omega arith);
      }

  pub repairs : (p : ℕ) (entry : HistoryEntry) → entry_at old p ≡ Some entry → is_marked (entry_at old p) ≡ true → ((q : ℕ) → q < p → is_marked (entry_at old q) ≡ false) →
      Changes repeated old new p → Repairs (history_of next repair old) p entry (history_of next ((repair + 1) % 65536) new)
  repairs p entry was marked least changes =
      record {
        next = refl;
        repair = refl;
        was = was;
        marked = ap is_marked (sym was) ∙ marked;
        least = least;
        counted = changes.entries p ∙ at_place p _ _ ∙ ap (option_map repeated) was;
        others = λ q other. changes.entries q ∙ elsewhere q p _ _ other;
      }

  pub passes : (p : ℕ) (entry : HistoryEntry) → IsLeastMarked (history_of next repair old) p entry → Changes unmarked old new p →
      PassesOver (history_of next repair old) p entry (history_of next repair new)
  passes p entry least changes =
      record {
        next = refl;
        repair = refl;
        least = least;
        passed = changes.entries p ∙ at_place p _ _ ∙ ap (option_map unmarked) least.was;
        others = λ q other. changes.entries q ∙ elsewhere q p _ _ other;
      }
