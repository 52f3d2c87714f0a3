-- Who sends two packets in every second keeps a session.
use Rattle.std.proofs.Common.{arith, ◌≡◌, ℕ, ◌-◌, ◌*◌, ◌/◌, ◌≤◌, ◌&&◌, ◌||◌, Bool, true, false, Some, refl}
use Rattle.std.specs.Prelude.{nat_lt, nat_le, if◌then◌else◌}
use Rattle.relays.specs.declared.claim_tables.Claim.{Claim}
use Rattle.relays.specs.declared.claims.Claims.{Claims}
use Rattle.relays.specs.declared.claims.Step.TheVariants as steps
use Rattle.relays.specs.Claims.{answer, begun, counted, falls_in, falls_to, goes_on, is_stale, is_weak, taken_beside, taken_of}

not_weak : (taken span : ℕ) → 2 * (span / 1000) ≤ taken → is_weak taken span ≡ false
not_weak taken span h = grind arith

had_one : (stream held : ℕ) → stream ≤ held → nat_lt held stream ≡ false
had_one stream held h = grind arith

neither : (a b w : Bool) → b ≡ false → w ≡ false → (a && (b || w)) ≡ false
neither true b w h i = grind arith
neither false b w h i = grind arith

branch : (g t s w : Bool) (k l : Claim) → w ≡ false
    → falls_in (if g then (if t then steps.Claims l else (if w then steps.Falls else steps.Claims k)) else (if s then steps.Claims l else steps.Passes)) ≡ false
branch true true s w k l h = refl
branch true false s true k l h = cc
branch true false s false k l h = refl
branch false t true w k l h = refl
branch false t false w k l h = refl

pub falls_not : (c : Claims) (claim : Claim) (number now : ℕ) → c.stream ≤ taken_of c → 2 * ((now - claim.since) / 1000) ≤ taken_beside c claim
    → falls_in (answer c (Some claim) number now) ≡ false
falls_not c claim number now h i =
    branch (goes_on claim number now) (nat_le c.stream (taken_beside c claim)) (is_stale claim now) (falls_to c (counted claim number now) (taken_beside c claim) now)
    (counted claim number now) (begun c number now)
    (neither (nat_le c.stream (counted claim number now).packets) (nat_lt (taken_of c) c.stream) (is_weak (taken_beside c claim) (now - claim.since))
    (had_one c.stream (taken_of c) h) (not_weak (taken_beside c claim) (now - claim.since) i))
