-- The timestamp of the first packet that is held from a place on, one place at a time.
use Rattle.std.proofs.Common.{◌≡◌, ℕ, zero, suc, ◌+◌, ◌-◌, ◌^◌, ◌<◌, ◌≤◌, true, false, Some, None, nat_lt, refl, sym, ap, ◌∙◌, arith, if◌then◌else◌}
use Rattle.std.proofs.lemmas.Bool.Decides.{nat_tests}
use Rattle.stores.specs.Span.{Span}
use Rattle.stores.specs.ByPlace.{slot_at}
use Rattle.relays.specs.Holding.{stamp_from, stamp_in, stamp_or}

pub none_ahead : (s : Span) (place : ℕ) → stamp_from s 0 place ≡ None
unfolding stamp_from
none_ahead s place = refl

one_ahead : (s : Span) (ahead place : ℕ) → stamp_from s (suc ahead) place ≡ (if nat_lt place (2 ^ 48) then stamp_or (stamp_in (slot_at s place)) (stamp_from s ahead (place + 1)) else None)
unfolding stamp_from
one_ahead s ahead place = refl

is_place : (place : ℕ) → place < 2 ^ 48 → nat_lt place (2 ^ 48) ≡ true
is_place place under = grind (arith, nat_tests)

no_place : (place : ℕ) → 2 ^ 48 ≤ place → nat_lt place (2 ^ 48) ≡ false
no_place place over = grind (arith, nat_tests)

pub past_all : (s : Span) (ahead place : ℕ) → 2 ^ 48 ≤ place → stamp_from s ahead place ≡ None
past_all s zero place over = none_ahead s place
past_all s (suc ahead) place over = one_ahead s ahead place ∙ ap (λ b. if b then stamp_or (stamp_in (slot_at s place)) (stamp_from s ahead (place + 1)) else None) (no_place place over)

pub one_held : (s : Span) (ahead place timestamp : ℕ) → 0 < ahead → place < 2 ^ 48 → stamp_in (slot_at s place) ≡ Some timestamp → stamp_from s ahead place ≡ Some timestamp
one_held s zero place timestamp some under held = absurd (omega (arith, some))
one_held s (suc ahead) place timestamp some under held =
    one_ahead s ahead place ∙ ap (λ b. if b then stamp_or (stamp_in (slot_at s place)) (stamp_from s ahead (place + 1)) else None) (is_place place under)
    ∙ ap (λ o. stamp_or o (stamp_from s ahead (place + 1))) held

pub one_missing : (s : Span) (ahead place : ℕ) → 0 < ahead → place < 2 ^ 48 → stamp_in (slot_at s place) ≡ None → stamp_from s ahead place ≡ stamp_from s (ahead - 1) (place + 1)
one_missing s zero place some under held = absurd (omega (arith, some))
one_missing s (suc ahead) place some under held =
    one_ahead s ahead place ∙ ap (λ b. if b then stamp_or (stamp_in (slot_at s place)) (stamp_from s ahead (place + 1)) else None) (is_place place under)
    ∙ ap (λ o. stamp_or o (stamp_from s ahead (place + 1))) held ∙ ap (λ n. stamp_from s n (place + 1)) (sym (one_less ahead))
  where
    one_less : (n : ℕ) → suc n - 1 ≡ n
    one_less n = omega arith
