-- What an error of a send says, by the system's number.
use Rattle.std.specs.Prelude.{◌≡◌, ℕ, ℤ, pos, negsuc, ◌==◌, ◌||◌, Option, Some, None, if◌then◌else◌}
use Rattle.gozdrit_relay.specs.declared.hindrance.Hindrance.{Hindrance}
use Rattle.gozdrit_relay.specs.declared.hindrance.Hindrance.TheVariants.{Full, Unreachable, Oversize, Rejected, Other}

-- EAGAIN and ENOBUFS; ENETDOWN, ENETUNREACH and EHOSTUNREACH; EMSGSIZE; ECONNREFUSED
abbrev pub hindrance_by : (number : ℕ) → Hindrance
hindrance_by n =
    if n == 11 || (n == 105) then Full
    else (if n == 100 || (n == 101 || (n == 113)) then Unreachable
    else (if n == 90 then Oversize
    else (if n == 111 then Rejected else Other)))

abbrev pub hindered_by : Option ℤ → Hindrance
hindered_by None = Other
hindered_by (Some (pos n)) = hindrance_by n
hindered_by (Some (negsuc k)) = Other
