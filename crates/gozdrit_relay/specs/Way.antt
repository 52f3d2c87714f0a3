-- Where what leaves a relay goes.
use Rattle.std.specs.Prelude.{◌≡◌, ◌≢◌, Option, Some, None}
use Rattle.std.specs.declared.net.socket_addr.SocketAddr.{SocketAddr}

-- two addresses stand for one another, and each other one for itself
pub record IsSwapped (asked instead at result : SocketAddr) : Type 0 where
  pub there : at ≡ asked → result ≡ instead
  pub back : at ≡ instead → result ≡ asked
  pub other : at ≢ asked → at ≢ instead → result ≡ at

-- The relay knows the address that is asked for; where what leaves goes to another one instead, the two stand for one another.
abbrev pub IsThere : (asked : SocketAddr) → (instead : Option SocketAddr) → (at result : SocketAddr) → Type 0
IsThere asked None at result = result ≡ at
IsThere asked (Some instead) at result = IsSwapped asked instead at result
