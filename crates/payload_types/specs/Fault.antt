-- The refusal numbers of this crate.
use Rattle.std.specs.Prelude.{ℕ}
use Rattle.payload_types.specs.declared.fault.TypesFault.{TypesFault}
use Rattle.payload_types.specs.declared.fault.TypesFault.TheVariants.{Count, BadType, SameType}

abbrev pub types_number : TypesFault → ℕ
types_number Count = 54
types_number BadType = 55
types_number SameType = 56
