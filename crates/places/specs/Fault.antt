-- The refusal numbers of this crate.
use Rattle.std.specs.Prelude.{ℕ}
use Rattle.places.specs.declared.nearness.PlaceFault.{PlaceFault}
use Rattle.places.specs.declared.nearness.PlaceFault.TheVariants.{Far, PastEnd}

abbrev pub place_fault_number : PlaceFault → ℕ
place_fault_number Far = 34
place_fault_number PastEnd = 39
