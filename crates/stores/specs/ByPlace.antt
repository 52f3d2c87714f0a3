-- A window read place by place: the slot that each place has, and what the calls change there.
use Rattle.std.specs.Prelude.{◌≡◌, ℕ, ◌+◌, ◌-◌, ◌<◌, ◌≤◌, ◌==◌, ◌&&◌, Bool, true, List, max, slice_get, Option, Some, None, IsSomeAnd, MatchOption, Result, Ok, Err, if◌then◌else◌, nat_lt}
use Rattle.rtpwire.specs.declared.content.Content.{Content}
use Rattle.stores.specs.declared.slot.Slot.{Slot}
use Rattle.stores.specs.declared.slot.Slot.TheVariants.{Held, Missing}
use Rattle.stores.specs.declared.slot.PutFault.{PutFault}
use Rattle.stores.specs.declared.slot.PutFault.TheVariants.{Late, Duplicate}
use Rattle.stores.specs.Span.{Span, highest_of}
use Rattle.stores.specs.Put.{noticed_at, overrun_of}

-- the slot of the place q, where the first of these slots is that of the place k
abbrev pub slot_from : ℕ → List Slot → ℕ → Option Slot
slot_from k slots q = if nat_lt q k then None else slice_get slots (q - k)

abbrev pub slot_at_cursor : Option ℕ → List Slot → ℕ → Option Slot
slot_at_cursor None slots q = None
slot_at_cursor (Some k) slots q = slot_from k slots q

-- the slot of the place q, if the window has one
abbrev pub slot_at : Span → ℕ → Option Slot
slot_at s q = slot_at_cursor s.cursor s.slots q

-- q is one of the places from the cursor to the highest
abbrev pub IsInside : Span → ℕ → Type 0
IsInside s q = IsSomeAnd s.cursor (λ k. k ≤ q) × IsSomeAnd (highest_of s) (λ h. q ≤ h)

-- the slot is that of a place that was taken
abbrev pub IsHeld : Slot → Type 0
IsHeld (Held content) = Unit {0}
IsHeld (Missing noticed asks last) = ⊥

-- q is above the highest place, if there is one
abbrev pub is_above : Option ℕ → ℕ → Bool
is_above None q = true
is_above (Some h) q = nat_lt h q

-- the window started with the place p
pub record StartsWith (old new : Span) (p : ℕ) (content : Content) : Type 0 where
  pub cursor : new.cursor ≡ Some p
  pub highest : highest_of new ≡ Some p
  pub slots : (q : ℕ) → slot_at new q ≡ (if q == p then Some (Held content) else None)
  pub capacity : new.capacity ≡ old.capacity

-- The started window took the place p, and its cursor is now k. The places below k have no slot; those
-- above the old highest place and below p are missing, noticed now; the others are as they were.
pub record Gains (old new : Span) (k p : ℕ) (content : Content) (now : ℕ) : Type 0 where
  pub cursor : new.cursor ≡ Some k
  pub highest : IsSomeAnd (highest_of old) (λ h. highest_of new ≡ Some (max h p))
  pub slots :
      (q : ℕ) → slot_at new q
      ≡ (if q == p then Some (Held content) else (if nat_lt q k then None else (if is_above (highest_of old) q && nat_lt q p then Some (noticed_at now) else slot_at old q)))
  pub capacity : new.capacity ≡ old.capacity

-- one put
abbrev pub PutStep : (p : ℕ) (content : Content) (now : ℕ) (old : Span) → Result ℕ PutFault → Span → Type 0
PutStep p content now old (Ok overrun) new =
    MatchOption old.cursor ((overrun ≡ 0) × StartsWith old new p content)
    (λ k. (k ≤ p) × (¬ IsSomeAnd (slot_at old p) IsHeld) × (overrun ≡ overrun_of old.capacity k p) × Gains old new (k + overrun) p content now)
PutStep p content now old (Err Late) new = IsSomeAnd old.cursor (λ k. p < k) × (new ≡ old)
PutStep p content now old (Err Duplicate) new = IsSomeAnd (slot_at old p) IsHeld × (new ≡ old)

-- the slot of the cursor was taken out
pub record LosesFront (old : Span) (slot : Slot) (new : Span) (k : ℕ) : Type 0 where
  pub front : slot_at old k ≡ Some slot
  pub cursor : new.cursor ≡ Some (k + 1)
  pub highest : highest_of new ≡ highest_of old
  pub slots : (q : ℕ) → slot_at new q ≡ (if q == k then None else slot_at old q)
  pub capacity : new.capacity ≡ old.capacity
