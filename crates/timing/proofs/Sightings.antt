-- What was seen is remembered for ten seconds at least, and for thirty at most.
use Rattle.std.proofs.Common.{◌≡◌, ℕ, ◌+◌, ◌-◌, ◌<◌, ◌≤◌, Bool, true, false, nat_lt, List, [], ◌∷◌, max, refl, arith, if◌then◌else◌}
use Rattle.std.proofs.lemmas.Bool.Decides.{nat_tests}
use Rattle.timing.specs.declared.lately.Lately.{Lately}
use Rattle.timing.specs.Lately.{seen_at, turned, greatest_at}
use Rattle.timing.specs.Sightings.{Sighting, seen_of, IsInOrder, AreWithin, AreLatelyWithin}

-- a sighting is remembered by the span that it lies in, or by the one behind that
record IsKept (s : Sighting) (r : Lately) : Type 0 where
  here : r.since ≤ s.at → s.number ≤ r.most
  short : r.since ≤ s.at → s.at < r.since + 10000
  before : s.at < r.since → r.since < s.at + 10000 → s.number ≤ r.before

stays_by : (b : Bool) (s : Sighting) (r : Lately) (now : ℕ) → nat_lt (now - r.since) 10000 ≡ b → s.at ≤ now → IsKept s r → IsKept s (if b then r else record { most = 0; before = if nat_lt (now - r.since) 20000 then r.most else 0; since = now })
stays_by true s r now test old kept = kept
stays_by false s r now test old kept =
    record {
      here = λ same. absurd (late_here same);
      short = λ same. omega arith;
      before = λ below near. then_before (nat_lt (now - r.since) 20000) refl below near;
    }
  where
    late_here : now ≤ s.at → ⊥
    late_here same = let h = kept.short (grind (arith, nat_tests, test, same)) in grind (arith, nat_tests, test, same, h)

    then_before : (c : Bool) → nat_lt (now - r.since) 20000 ≡ c → s.at < now → now < s.at + 10000 → s.number ≤ (if c then r.most else 0)
    then_before true is below near = kept.here (grind (arith, nat_tests, test, near))
    then_before false is below near = let h = kept.short (grind (arith, nat_tests, test, near)) in absurd (grind (arith, nat_tests, is, near, h))

stays : (s : Sighting) (r : Lately) (now : ℕ) → s.at ≤ now → IsKept s r → IsKept s (turned r now)
stays s r now old kept = stays_by (nat_lt (now - r.since) 10000) s r now refl old kept

-- one more is seen
more : (s : Sighting) (r : Lately) (late : ℕ) → IsKept s r → IsKept s (record r { most = max r.most late })
more s r late kept = record { here = λ at. let h = kept.here at in omega arith; short = kept.short; before = kept.before }

-- the span that begins or goes on at a moment
spans_by : (b : Bool) (r : Lately) (now : ℕ) → nat_lt (now - r.since) 10000 ≡ b → r.since ≤ now → let t : Lately = if b then r else record { most = 0; before = if nat_lt (now - r.since) 20000 then r.most else 0; since = now } in (t.since ≤ now) × (now < t.since + 10000)
spans_by true r now test old = (old, grind (arith, nat_tests, test))
spans_by false r now test old = (omega arith, omega arith)

spans : (r : Lately) (now : ℕ) → r.since ≤ now → ((turned r now).since ≤ now) × (now < (turned r now).since + 10000)
spans r now old = spans_by (nat_lt (now - r.since) 10000) r now refl old

since_before : (list : List Sighting) (now : ℕ) → IsInOrder list now → (seen_of list).since ≤ now
since_before [] now order = omega arith
since_before (s ∷ list) now order = let h = (spans (seen_of list) s.at (since_before list s.at order.1)).0 in let g = order.0 in omega arith

-- all of them
abbrev AreKept : List Sighting → Lately → Type 0
AreKept [] r = Unit {0}
AreKept (s ∷ list) r = IsKept s r × AreKept list r

all_stay : (list : List Sighting) (r : Lately) (late now : ℕ) → IsInOrder list now → AreKept list r → AreKept list (seen_at r late now)
all_stay [] r late now order kept = tt
all_stay (s ∷ list) r late now order kept = (more s (turned r now) late (stays s r now order.0 kept.0), all_stay list r late now (later list order.0 order.1) kept.1)
  where
    later : (list : List Sighting) → s.at ≤ now → IsInOrder list s.at → IsInOrder list now
    later [] old order = tt
    later (first ∷ list) old order = (omega arith, order.1)

are_kept : (list : List Sighting) (now : ℕ) → IsInOrder list now → AreKept list (seen_of list)
are_kept [] now order = tt
are_kept (s ∷ list) now order = (new_one, all_stay list (seen_of list) s.number s.at order.1 (are_kept list s.at order.1))
  where
    span : ((turned (seen_of list) s.at).since ≤ s.at) × (s.at < (turned (seen_of list) s.at).since + 10000)
    span = spans (seen_of list) s.at (since_before list s.at order.1)

    new_one : IsKept s (seen_of (s ∷ list))
    new_one = record { here = λ at. omega arith; short = λ at. span.1; before = λ below near. absurd (let h = span.0 in omega arith) }

-- what is kept at a moment is within what is remembered
read_one : (s : Sighting) (r : Lately) (now : ℕ) → s.at ≤ now → r.since ≤ now → IsKept s r → now < s.at + 10000 → s.number ≤ greatest_at r now
read_one s r now old since kept near =
    let t = stays s r now old kept in
    let span = spans r now since in
    by (nat_lt s.at (turned r now).since) refl
  where
    by : (b : Bool) → nat_lt s.at (turned r now).since ≡ b → s.number ≤ greatest_at r now
    by true is = let h = (stays s r now old kept).before (grind (arith, nat_tests, is)) (let g = (spans r now since).0 in omega arith) in omega arith
    by false is = let h = (stays s r now old kept).here (grind (arith, nat_tests, is)) in omega arith

pub are_remembered : (list : List Sighting) (now : ℕ) → IsInOrder list now → AreWithin list (greatest_at (seen_of list) now) now
are_remembered list now order = read list (seen_of list) (since_before list now order) order (are_kept list now order)
  where
    read : (some : List Sighting) (r : Lately) → r.since ≤ now → IsInOrder some now → AreKept some r → AreWithin some (greatest_at r now) now
    read [] r since order kept = tt
    read (s ∷ some) r since order kept = (read_one s r now order.0 since kept.0, read some r since (later some order.0 order.1) kept.1)
      where
        later : (list : List Sighting) → s.at ≤ now → IsInOrder list s.at → IsInOrder list now
        later [] old order = tt
        later (first ∷ list) old order = (omega arith, order.1)

-- those from a moment on were no greater than this
abbrev AreFrom : List Sighting → (from most : ℕ) → Type 0
AreFrom [] from most = Unit {0}
AreFrom (s ∷ list) from most = (from < s.at + 1 → s.number ≤ most) × AreFrom list from most

less_from : (list : List Sighting) (from later most : ℕ) → from ≤ later → AreFrom list from most → AreFrom list later most
less_from [] from later most is within = tt
less_from (s ∷ list) from later most is within = (λ at. within.0 (omega arith), less_from list from later most is within.1)

-- what is remembered is of some that were seen: the span that began, and up to twenty seconds before it
record IsSeen (list : List Sighting) (r : Lately) : Type 0 where
  here : (most : ℕ) → AreFrom list r.since most → r.most ≤ most
  before : (most : ℕ) → AreFrom list (r.since - 19999) most → r.before ≤ most

seen_more : (b : Bool) (list : List Sighting) (r : Lately) (s : Sighting) → nat_lt (s.at - r.since) 10000 ≡ b → r.since ≤ s.at → IsSeen list r
    → let t : Lately = if b then r else record { most = 0; before = if nat_lt (s.at - r.since) 20000 then r.most else 0; since = s.at } in IsSeen (s ∷ list) (record t { most = max t.most s.number })
seen_more true list r s test old seen =
    record {
      here = λ most within. let h = seen.here most within.1 in let g = within.0 (omega arith) in omega arith;
      before = λ most within. seen.before most within.1;
    }
seen_more false list r s test old seen =
    record {
      here = λ most within. let g = within.0 (omega arith) in omega arith;
      before = λ most within. by (nat_lt (s.at - r.since) 20000) refl most within.1;
    }
  where
    by : (c : Bool) → nat_lt (s.at - r.since) 20000 ≡ c → (most : ℕ) → AreFrom list (s.at - 19999) most → (if c then r.most else 0) ≤ most
    by true is most within = seen.here most (less_from list (s.at - 19999) r.since most (grind (arith, nat_tests, is)) within)
    by false is most within = omega arith

are_seen : (list : List Sighting) (now : ℕ) → IsInOrder list now → IsSeen list (seen_of list)
are_seen [] now order = record { here = λ most within. omega arith; before = λ most within. omega arith }
are_seen (s ∷ list) now order = seen_more (nat_lt (s.at - (seen_of list).since) 10000) list (seen_of list) s refl (since_before list s.at order.1) (are_seen list s.at order.1)

lately_from : (list : List Sighting) (from most now : ℕ) → now < from + 30000 → AreLatelyWithin list most now → AreFrom list from most
lately_from [] from most now near within = tt
lately_from (s ∷ list) from most now near within = (λ at. within.0 (omega arith), lately_from list from most now near within.1)

greatest_by : (b : Bool) (list : List Sighting) (r : Lately) (most now : ℕ) → nat_lt (now - r.since) 10000 ≡ b → r.since ≤ now → IsSeen list r → AreLatelyWithin list most now
    → let t : Lately = if b then r else record { most = 0; before = if nat_lt (now - r.since) 20000 then r.most else 0; since = now } in max t.most t.before ≤ most
greatest_by true list r most now test old seen within =
    let a = seen.here most (lately_from list r.since most now (grind (arith, nat_tests, test)) within) in
    let b = seen.before most (lately_from list (r.since - 19999) most now (grind (arith, nat_tests, test)) within) in
    omega arith
greatest_by false list r most now test old seen within = by (nat_lt (now - r.since) 20000) refl
  where
    by : (c : Bool) → nat_lt (now - r.since) 20000 ≡ c → max 0 (if c then r.most else 0) ≤ most
    by true is = let a = seen.here most (lately_from list r.since most now (grind (arith, nat_tests, is)) within) in omega arith
    by false is = omega arith

pub are_forgotten : (list : List Sighting) (most now : ℕ) → IsInOrder list now → AreLatelyWithin list most now → greatest_at (seen_of list) now ≤ most
are_forgotten list most now order within = greatest_by (nat_lt (now - (seen_of list).since) 10000) list (seen_of list) most now refl (since_before list now order) (are_seen list now order) within
