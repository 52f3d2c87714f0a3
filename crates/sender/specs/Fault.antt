-- The refusal numbers of this crate. Those of feedback are the feedback crate's.
use Rattle.std.specs.Prelude.{ℕ}
use Rattle.sender.specs.declared.fault.SendFault.{SendFault}
use Rattle.sender.specs.declared.fault.SendFault.TheVariants.{PaddedEmpty, Exhausted}

abbrev pub send_number : SendFault → ℕ
send_number PaddedEmpty = 44
send_number Exhausted = 45
