-- The first end of several.
use Rattle.std.proofs.Common.{◌≡◌, ℕ, Option, Some, None, refl, arith}
use Rattle.gozdrit_relay.specs.Seats.{sooner}

pub sooner_of_three : (a b c : Option ℕ) → sooner (sooner a b) c ≡ sooner a (sooner b c)
sooner_of_three None b c = refl
sooner_of_three (Some a) None c = refl
sooner_of_three (Some a) (Some b) None = refl
sooner_of_three (Some a) (Some b) (Some c) = grind arith

pub sooner_none : (a : Option ℕ) → sooner a None ≡ a
sooner_none None = refl
sooner_none (Some a) = refl
