-- What a put of a content at a place answers, and the window that it leaves.
use Rattle.std.specs.Prelude.{◌≡◌, ℕ, ◌+◌, ◌-◌, ◌<◌, ◌≤◌, List, [], ◌∷◌, ◌++◌, length, drop, replicate, slice_get, slice_set, Option, Some, None, Result, Ok, Err, if◌then◌else◌, nat_lt}
use Rattle.rtpwire.specs.declared.content.Content.{Content}
use Rattle.stores.specs.declared.slot.Slot.{Slot}
use Rattle.stores.specs.declared.slot.Slot.TheVariants.{Held, Missing}
use Rattle.stores.specs.declared.slot.PutFault.{PutFault}
use Rattle.stores.specs.declared.slot.PutFault.TheVariants.{Late, Duplicate}
use Rattle.stores.specs.declared.spot.Spot.{Spot}
use Rattle.stores.specs.declared.spot.Spot.TheVariants.{Below, Within, Above}
use Rattle.stores.specs.Span.{Span}

-- a place that was noticed to be missing at this moment and never asked for
abbrev pub noticed_at : ℕ → Slot
noticed_at now = Missing now 0 0

-- How many places the window passes at the cursor k so that the place p fits: as many as lie from k to
-- below p - capacity + 1.
abbrev pub overrun_of : ℕ → ℕ → ℕ → ℕ
overrun_of capacity k p = p + 1 - capacity - k

-- Where the place p lies to a window whose cursor is k and that has so many slots: below the cursor, in the slot at an
-- index, or above all slots. There, what stays of the slots and the unseen places reach from the new cursor to p.
abbrev pub IsSpot : (k count capacity p : ℕ) → Spot → Type 0
IsSpot k count capacity p Below = p < k
IsSpot k count capacity p (Within index) = (index < count) × (p ≡ k + index)
IsSpot k count capacity p (Above overrun unseen) =
    (k + count ≤ p) × (overrun ≡ overrun_of capacity k p) × (p ≡ k + overrun + (count - overrun) + unseen)

-- the answer at or above the cursor, by the slot that the place has
abbrev pub answer_at : Option Slot → ℕ → Result ℕ PutFault
answer_at (Some (Held content)) overrun = Err Duplicate
answer_at (Some (Missing noticed asks last)) overrun = Ok 0
answer_at None overrun = Ok overrun

abbrev pub answer_from : Span → ℕ → Option ℕ → Result ℕ PutFault
answer_from s p None = Ok 0
answer_from s p (Some k) =
    if nat_lt p k then Err Late else answer_at (slice_get s.slots (p - k)) (overrun_of s.capacity k p)

-- the answer
abbrev pub put_answer : Span → ℕ → Result ℕ PutFault
put_answer s p = answer_from s p s.cursor

-- the slots without the first n, then so many missing ones, then a held one
abbrev pub extended : List Slot → ℕ → ℕ → Slot → Slot → List Slot
extended slots n unseen missing held = (drop n slots ++ replicate unseen missing) ++ held ∷ []

-- the window after the place p was put above the slots, with k as the new cursor and n slots dropped: the
-- places between what stays and p are missing
abbrev pub after_higher : Span → ℕ → ℕ → ℕ → Content → ℕ → Span
after_higher s n k p content now =
    record {
      cursor = Some k;
      slots = extended s.slots n (p - (k + length (drop n s.slots))) (noticed_at now) (Held content);
      capacity = s.capacity;
    }

abbrev pub left_from : Span → ℕ → Content → ℕ → Option ℕ → Span
left_from s p content now None = record { cursor = Some p; slots = Held content ∷ []; capacity = s.capacity }
left_from s p content now (Some k) =
    if nat_lt p (k + length s.slots)
    then record { cursor = Some k; slots = slice_set s.slots (p - k) (Held content); capacity = s.capacity }
    else after_higher s (overrun_of s.capacity k p) (k + overrun_of s.capacity k p) p content now

-- the window after a put that was not refused
abbrev pub after_put : Span → ℕ → Content → ℕ → Span
after_put s p content now = left_from s p content now s.cursor
