-- How often a link failed in a call.
use Rattle.std.specs.Prelude.{ℕ, Result, Ok, Err}
use Rattle.runs.specs.declared.fault.DriveFault.{DriveFault}
use Rattle.runs.specs.declared.fault.DriveFault.TheVariants.{Link, OutOfMemory}

-- The fault `Link` is told for a link that failed, once; no other answer is.
abbrev pub blame : {A : Type 0} → Result A DriveFault → ℕ
blame (Ok value) = 0
blame (Err Link) = 1
blame (Err OutOfMemory) = 0
