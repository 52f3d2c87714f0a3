-- The numbers of refusals.
use Rattle.std.specs.Prelude.{ℕ}
use Rattle.srtp.specs.Fault.{srtp_fault_number}
use Rattle.contexts.specs.declared.fault.ContextFault.{ContextFault}
use Rattle.contexts.specs.declared.fault.ContextFault.TheVariants.{Refused, Full, OutOfMemory}

abbrev pub context_fault_number : ContextFault → ℕ
context_fault_number (Refused fault) = srtp_fault_number fault
context_fault_number Full = 100
context_fault_number OutOfMemory = 101
