-- The refusal numbers of this crate.
use Rattle.std.specs.Prelude.{ℕ}
use Rattle.stores.specs.declared.slot.PutFault.{PutFault}
use Rattle.stores.specs.declared.slot.PutFault.TheVariants.{Late, Duplicate}

abbrev pub put_number : PutFault → ℕ
put_number Late = 35
put_number Duplicate = 36
