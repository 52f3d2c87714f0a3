-- The octets of a NACK that leaves a second time.
use Rattle.std.specs.Prelude.{◌≡◌, ℕ, ◌<◌, ◌≤◌, List, length, Result, Ok, Err}
use Rattle.rtpwire.specs.declared.fault.TooShort.{TooShort}
use Rattle.rtpwire.specs.Buffer.{in_front}

-- They are written to the front of a slice that has room for them. Where it has less, it is said how much they need, and nothing is written.
pub record WritesCopy (octets : List ℕ) (out : List ℕ) (answer : Result ℕ TooShort) (out' : List ℕ) : Type 0 where
  pub fits : length octets ≤ length out → (answer ≡ Ok (length octets)) × (out' ≡ in_front octets out)
  pub short : length out < length octets → (answer ≡ Err (record { needed = length octets })) × (out' ≡ out)
