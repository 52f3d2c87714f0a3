-- From when on slots of blocks may be due by a rule, by which a walk passes over those where no place can be due so soon.
use Rattle.std.specs.Prelude.{◌≡◌, ℕ, ◌-◌, ◌^◌, ◌<◌, ◌==◌, ◌&&◌, if◌then◌else◌, nat_lt, Bool, true, false, List, length, slice_get, Option, Some}
use Rattle.std.specs.Int.{bit_at}
use Rattle.stores.specs.declared.ask_rule.AskRule.{AskRule}
use Rattle.stores.specs.declared.due.bound.Bound.{Bound}
use Rattle.stores.specs.declared.due.counting.Asked.{Asked}
use Rattle.stores.specs.declared.slot.Slot.{Slot}
use Rattle.stores.specs.Asking.{is_due, has_come}
use Rattle.stores.specs.Block.{bit_in_word, word_of}

-- a slot is due by the rule at no moment before this one
abbrev pub IsDueFrom : AskRule → (moment : Option ℕ) → (slot : Option Slot) → Type 0
IsDueFrom rule moment slot = (now : ℕ) → now < 2 ^ 64 → is_due now rule.delay rule.retry rule.asks slot ≡ true → has_come moment now ≡ true

-- whether the slot whose bit has this number in its word is left out
abbrev pub leaves_out : Bound → ℕ → Bool
leaves_out bound bit = bit_at bound.without bit == 1

-- the slot with this bit is due from the moment of its block on, unless it is left out
abbrev pub IsBoundAt : AskRule → Bound → (bit : ℕ) → (slot : Option Slot) → Type 0
IsBoundAt rule bound bit slot = leaves_out bound bit ≡ false → IsDueFrom rule bound.from slot

-- the word is that of its line, where there are so many words
abbrev pub IsTurned : Asked → (words : ℕ) → Type 0
IsTurned asked words = asked.word ≡ (if nat_lt asked.line words then asked.line else asked.line - words)

-- that holds of each slot
abbrev pub AreBounds : AskRule → List Bound → (front : ℕ) → List Slot → Type 0
AreBounds rule bounds front slots = (p : ℕ) → (bound : Bound) → p < length slots → slice_get bounds (word_of (length bounds) front p) ≡ Some bound
    → IsBoundAt rule bound (bit_in_word (length bounds) front p) (slice_get slots p)

-- the slot at the position p is one of those whose bits are these of one word
abbrev pub is_asked : (word bits words front p : ℕ) → Bool
is_asked word bits words front p = word_of words front p == word && bit_at bits (bit_in_word words front p) == 1

-- that holds of each slot but these
abbrev pub AreBoundsBut : (word bits : ℕ) → AskRule → List Bound → (front : ℕ) → List Slot → Type 0
AreBoundsBut word bits rule bounds front slots = (p : ℕ) → (bound : Bound) → p < length slots → slice_get bounds (word_of (length bounds) front p) ≡ Some bound
    → is_asked word bits (length bounds) front p ≡ false → IsBoundAt rule bound (bit_in_word (length bounds) front p) (slice_get slots p)

-- each of these slots is due from this moment on
abbrev pub AreDueFrom : (word bits : ℕ) → AskRule → (moment : Option ℕ) → (words front : ℕ) → List Slot → Type 0
AreDueFrom word bits rule moment words front slots = (p : ℕ) → p < length slots → is_asked word bits words front p ≡ true → IsDueFrom rule moment (slice_get slots p)
