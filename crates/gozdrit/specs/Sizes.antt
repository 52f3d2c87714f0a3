-- Structs of C's that may grow. Each begins with its size, and what a later version of the header has lies behind what is known here.
use Rattle.std.specs.Prelude.{◌≡◌, ℕ, ℤ, ◌-◌, ◌<◌, ◌≤◌, nat_lt, List, [], ◌++◌, drop, length, replicate, Option, Some, None, All, if◌then◌else◌}
use Rattle.byteorder.specs.Endian.{little_bytes}
use Rattle.gozdrit.specs.Codes.{ok, bad_size}

-- these octets lie behind what is known of a struct
abbrev pub HasRest : {X : Type 0} → (size_of : X → ℕ) → (known : ℕ) → Option X → (rest : List ℕ) → Type 0
HasRest size_of known None rest = rest ≡ []
HasRest size_of known (Some x) rest = length rest ≡ size_of x - known

-- A struct has all that is known of it, and says nothing else.
abbrev pub SaysKnown : (known size : ℕ) → (rest : List ℕ) → Type 0
SaysKnown known size rest = (known ≤ size) × All (λ octet. octet ≡ 0) rest

-- A struct of this size is filled with these fields, and blank behind them; one that is too short stays as it was.
pub record Fills {X : Type 0} (known size : ℕ) (usual x : X) (rest : List ℕ) (code : ℤ) (x' : X) (rest' : List ℕ) : Type 0 where
  pub short : size < known → (code ≡ bad_size) × (x' ≡ x) × (rest' ≡ rest)
  pub filled : known ≤ size → (code ≡ ok) × (x' ≡ usual) × (rest' ≡ replicate (length rest) 0)

-- A number as the first field behind what version 2.0 had of a struct: eight octets, the lowest first, as x86-64 has them. A struct that has
-- fewer there says no such field, and they stay as they were, as do those behind it.
abbrev pub told_behind : (number : ℕ) → (rest : List ℕ) → List ℕ
told_behind number rest = if nat_lt (length rest) 8 then rest else little_bytes 8 number ++ drop 8 rest
