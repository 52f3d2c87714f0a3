-- Packets that are held for a player.
use Rattle.std.proofs.Common.{◌≡◌, ◌<◌, ◌≤◌, ◌+◌, ◌-◌, ◌*◌, ◌^◌, ◌==◌, ◌&&◌, ◌||◌, ℕ, Bool, true, false, List, [], ◌∷◌, length, Option, Some, None, max, min, nat_le, nat_lt, refl, ap, ◌∙◌, arith, if◌then◌else◌}
use Rattle.std.proofs.Math.Nat.{div-mul-le_self}
use Rattle.std.proofs.lemmas.Bool.Decides.{nat_tests}
use Rattle.std.proofs.lemmas.Nat.{le-div}
use Rattle.timing.specs.Capped.{capped}
use Rattle.timing.specs.Lately.{seen_none, seen_at, greatest_at}
use Rattle.timing.specs.Playout.{agrees, ahead, AllOdd, came_early, comes_oddly, early_of, extended, heard_all, heard_at, heard_odd, heard_usual, is_beyond, is_odd_beside, later, ms_of, odd_after, one_odd, release_at, stamp_of, start_at, started, ticks_of}
use Rattle.timing.specs.declared.lately.Lately.{Lately}
use Rattle.timing.specs.declared.playout.Odd.{Odd}
use Rattle.timing.specs.declared.playout.Playout.{Playout}
use Rattle.timing.specs.declared.playout.Stamp.{Stamp}

none_ahead : (t : ℕ) → ahead t t ≡ 0
none_ahead t = omega arith

-- a timestamp stands for no more ticks beside itself
itself : (t ticks : ℕ) → extended (record { timestamp = t; ticks = ticks }) t ≤ ticks
itself t ticks = rw (none_ahead t) (omega arith)

no_later : (latest : Option Stamp) (t : ℕ) → ticks_of (Some (later latest (record { timestamp = t; ticks = ticks_of latest t }))) t ≤ ticks_of latest t
no_later None t = itself t (2 ^ 33)
no_later (Some s) t = by (nat_le s.ticks (extended s t))
  where
    by : (b : Bool) → extended (if b then record { timestamp = t; ticks = extended s t } else s) t ≤ extended s t
    by true = itself t (extended s t)
    by false = omega arith

ms_mono : (rate m n : ℕ) → m ≤ n → ms_of rate m ≤ ms_of rate n
ms_mono rate m n less =
    let whole : ms_of rate m * max rate 1 ≤ capped (m * 1000) = div-mul-le_self (capped (m * 1000)) (max rate 1) in
    le-div (ms_of rate m) (capped (n * 1000)) (max rate 1) (omega arith) (omega arith)

-- what was seen in the span that is remembered is remembered
kept_by : (b : Bool) (r other : Lately) → b ≡ true → r.most ≤ max (if b then r else other).most (if b then r else other).before
kept_by true r other is = omega arith
kept_by false r other is = absurd (grind (arith, is))

kept : (r : Lately) (now : ℕ) → nat_lt (now - r.since) 10000 ≡ true → r.most ≤ greatest_at r now
kept r now is = kept_by (nat_lt (now - r.since) 10000) r (record { most = 0; before = if nat_lt (now - r.since) 20000 then r.most else 0; since = now }) is

seen_by : (b : Bool) (early : Lately) (number now : ℕ) → nat_lt (now - early.since) 10000 ≡ b
    → let t : Lately = if b then early else record { most = 0; before = if nat_lt (now - early.since) 20000 then early.most else 0; since = now } in number ≤ greatest_at (record t { most = max t.most number }) now
seen_by true early number now is = let h = kept (record early { most = max early.most number }) now is in omega arith
seen_by false early number now is =
    let h = kept (record { most = max 0 number; before = if nat_lt (now - early.since) 20000 then early.most else 0; since = now }) now (grind (arith, nat_tests)) in omega arith

seen : (early : Lately) (number now : ℕ) → number ≤ greatest_at (seen_at early number now) now
seen early number now = seen_by (nat_lt (now - early.since) 10000) early number now refl

begun_at : (latest : Option Stamp) (start now : ℕ) → start ≤ now → start_at latest start now ≤ now
begun_at None start now before = omega arith
begun_at (Some s) start now before = before

no_more : (beyond : Bool) (x bound : ℕ) → x ≤ bound → (if beyond then 0 else x) ≤ bound
no_more true x bound less = omega arith
no_more false x bound less = less

-- an odd packet that the clock does not follow leaves at once where it lies beyond the latest one, and else it came late
module _ (p : Playout) (ticks latency now start : ℕ) (before : start ≤ now) where
  abbrev came : ℕ
  came = came_early p.rate start ticks now

  kept_by_tests : (beyond late : Bool) → nat_lt (capped (came + 100)) p.most ≡ late → (late || nat_lt (capped (p.most + 100)) came && beyond) ≡ true
      → (if beyond then 0 else capped (capped (start + latency) + ms_of p.rate ticks) - p.most) ≤ now + latency
  kept_by_tests true late test is = omega arith
  kept_by_tests false true test is = let less : capped (came + 100) < p.most = grind (arith, nat_tests, test) in omega (arith, before, less)
  kept_by_tests false false test is = absurd (not_so (nat_lt (capped (p.most + 100)) came) is)
    where
      not_so : (b : Bool) → (false || b && false) ≡ true → ⊥
      not_so true eq = absurd cc
      not_so false eq = absurd cc

  kept_odd : (latest : Option Stamp) → is_odd_beside latest p ticks came ≡ true
      → (if is_beyond latest p.rate ticks then 0 else capped (capped (start + latency) + ms_of p.rate ticks) - p.most) ≤ now + latency
  kept_odd None is = absurd cc
  kept_odd (Some l) is = kept_by_tests (is_beyond (Some l) p.rate ticks) (nat_lt (capped (came + 100)) p.most) refl is

no_earlier_by : (b : Bool) (o : Odd) (ticks count early : ℕ) → early ≤ (if b then record { least = min o.least early; most = max o.most early; ticks = ticks; count = count } else one_odd ticks early).most
no_earlier_by true o ticks count early = omega arith
no_earlier_by false o ticks count early = omega arith

no_earlier : (o : Option Odd) (ticks early : ℕ) → early ≤ (odd_after o ticks early).most
no_earlier None ticks early = omega arith
no_earlier (Some o) ticks early = no_earlier_by (agrees o early) o ticks (if o.ticks == ticks then o.count else capped (o.count + 1)) early

module _ (p : Playout) (t latency now : ℕ) (before : p.start ≤ now) where
  from : start_at p.latest p.start now ≤ now
  from = begun_at p.latest p.start now before

  usual : release_at (heard_usual (started p now) (stamp_of p t) (early_of p t now) now) t latency ≤ now + latency
  usual =
      let less : ms_of p.rate (ticks_of (Some (later p.latest (stamp_of p t))) t) ≤ ms_of p.rate (ticks_of p.latest t) = ms_mono p.rate _ _ (no_later p.latest t) in
      let most : early_of p t now ≤ greatest_at (seen_at p.early (early_of p t now) now) now = seen p.early (early_of p t now) now in
      no_more (is_beyond (Some (later p.latest (stamp_of p t))) p.rate (ticks_of (Some (later p.latest (stamp_of p t))) t)) _ (now + latency) (omega (arith, from, less, most))

  settled_by : (more : Bool) (o : Odd) → early_of p t now ≤ o.most → comes_oddly p t now ≡ true
      → release_at (if more then record (started p now) { odd = Some o } else record (started p now) { latest = Some (stamp_of p t); early = seen_at seen_none o.most now; most = o.most; odd = None }) t latency ≤ now + latency
  settled_by true o most odd = kept_odd p (ticks_of p.latest t) latency now (start_at p.latest p.start now) from p.latest odd
  settled_by false o most odd =
      let less : ms_of p.rate (ticks_of (Some (stamp_of p t)) t) ≤ ms_of p.rate (ticks_of p.latest t) = ms_mono p.rate _ _ (itself t (ticks_of p.latest t)) in
      no_more (is_beyond (Some (stamp_of p t)) p.rate (ticks_of (Some (stamp_of p t)) t)) _ (now + latency) (omega (arith, from, less, most))

  by_kind : (odd : Bool) → comes_oddly p t now ≡ odd
      → release_at (if odd then heard_odd (started p now) (stamp_of p t) (early_of p t now) now else heard_usual (started p now) (stamp_of p t) (early_of p t now) now) t latency ≤ now + latency
  by_kind true is =
      let o : Odd = odd_after p.odd (ticks_of p.latest t) (early_of p t now) in
      settled_by (nat_lt o.count 11) o (no_earlier p.odd (ticks_of p.latest t) (early_of p t now)) is
  by_kind false is = usual

pub no_longer : (p : Playout) (timestamp latency now : ℕ) → p.start ≤ now → release_at (heard_at p timestamp now) timestamp latency ≤ now + latency
no_longer p t latency now before = by_kind p t latency now before (comes_oddly p t now) refl

pub apart : (p : Playout) (one other latency : ℕ) → let at : ℕ → ℕ = λ t. ms_of p.rate (ticks_of p.latest t) in
    is_beyond p.latest p.rate (ticks_of p.latest one) ≡ false → is_beyond p.latest p.rate (ticks_of p.latest other) ≡ false →
    p.most ≤ at one → p.most ≤ at other → p.start + latency + at one < 2 ^ 64 → p.start + latency + at other < 2 ^ 64 →
    release_at p one latency + at other ≡ release_at p other latency + at one
apart p one other latency within within_too above above_too fits fits_too = rw (within, within_too) (omega arith)

-- so many odd packets, one after another, are counted, and no more of them are
abbrev count_of : Option Odd → ℕ
count_of None = 0
count_of (Some o) = o.count

one_more_by : (b c : Bool) (o : Odd) (ticks early : ℕ)
    → (if b then record { least = min o.least early; most = max o.most early; ticks = ticks; count = if c then o.count else capped (o.count + 1) } else one_odd ticks early).count ≤ o.count + 1
one_more_by true true o ticks early = omega arith
one_more_by true false o ticks early = omega arith
one_more_by false c o ticks early = omega arith

one_more : (o : Option Odd) (ticks early : ℕ) → (odd_after o ticks early).count ≤ count_of o + 1
one_more None ticks early = omega arith
one_more (Some o) ticks early = one_more_by (agrees o early) (o.ticks == ticks) o ticks early

module _ (u latency : ℕ) where
  abbrev Unmoved : Playout → Playout → Type 0
  Unmoved old new = (release_at new u latency ≡ release_at old u latency) × (count_of new.odd ≤ count_of old.odd + 1)

  begun : (latest : Option Stamp) (p : Playout) (ticks early now : ℕ) → is_odd_beside latest p ticks early ≡ true → start_at latest p.start now ≡ p.start
  begun None p ticks early now is = absurd cc
  begun (Some l) p ticks early now is = refl

  moved_by : (p : Playout) (t now : ℕ) (more odd : Bool) → comes_oddly p t now ≡ odd → odd ≡ true → nat_lt (odd_after p.odd (ticks_of p.latest t) (early_of p t now)).count 11 ≡ more → more ≡ true
      → Unmoved p (if odd then (if more then record (started p now) { odd = Some (odd_after p.odd (ticks_of p.latest t) (early_of p t now)) } else record (started p now) { latest = Some (stamp_of p t); early = seen_at seen_none (odd_after p.odd (ticks_of p.latest t) (early_of p t now)).most now; most = (odd_after p.odd (ticks_of p.latest t) (early_of p t now)).most; odd = None }) else heard_usual (started p now) (stamp_of p t) (early_of p t now) now)
  moved_by p t now true true is odd count more = (
    ap (λ start. if is_beyond p.latest p.rate (ticks_of p.latest u) then 0 else capped (capped (start + latency) + ms_of p.rate (ticks_of p.latest u)) - p.most)
        (begun p.latest p (ticks_of p.latest t) (early_of p t now) now is),
    one_more p.odd (ticks_of p.latest t) (early_of p t now),
  )
  moved_by p t now true false is odd count more = absurd cc
  moved_by p t now false odd' is odd count more = absurd cc

  unmoved : (p : Playout) (t now : ℕ) → comes_oddly p t now ≡ true → count_of p.odd < 10 → Unmoved p (heard_at p t now)
  unmoved p t now odd few =
      let count = one_more p.odd (ticks_of p.latest t) (early_of p t now) in
      let more : nat_lt (odd_after p.odd (ticks_of p.latest t) (early_of p t now)).count 11 ≡ true = grind (arith, nat_tests, count, few) in
      moved_by p t now (nat_lt (odd_after p.odd (ticks_of p.latest t) (early_of p t now)).count 11) (comes_oddly p t now) refl odd refl more

  all_unmoved : (p : Playout) (packets : List (ℕ × ℕ)) → AllOdd p packets → count_of p.odd + length packets ≤ 10 → release_at (heard_all p packets) u latency ≡ release_at p u latency
  all_unmoved p [] odd few = refl
  all_unmoved p (x ∷ packets) odd few =
      let one = unmoved p x.0 x.1 odd.0 (omega arith) in
      let counted = one.1 in
      all_unmoved (heard_at p x.0 x.1) packets odd.1 (omega (arith, counted)) ∙ one.0

pub ten_move_nothing : (p : Playout) (packets : List (ℕ × ℕ)) (u latency : ℕ) → p.odd ≡ None → AllOdd p packets → length packets ≤ 10 → release_at (heard_all p packets) u latency ≡ release_at p u latency
ten_move_nothing p packets u latency none odd few =
    let zero_yet : count_of p.odd ≡ 0 = ap count_of none in
    all_unmoved u latency p packets odd (omega (arith, zero_yet))
