-- Which stream of an application is sent on.
use Rattle.std.specs.Prelude.{◌≡◌, ◌↔◌, ℕ, Bool, true, not, ◌-◌, ◌==◌, ◌&&◌, ◌||◌, nat_le, Option, Some, None}
use Rattle.std.specs.declared.net.socket_addr.SocketAddr.{SocketAddr}
use Rattle.relays.specs.declared.stream.Stream.{Stream}

-- a stream of this SSRC, of which nothing came
abbrev pub new_stream : (ssrc : ℕ) → (is_bound : Bool) → Stream
new_stream ssrc is_bound = record { ssrc = ssrc; is_bound = is_bound; from = None; last = None }

-- nothing came for a second, or nothing came so far
abbrev pub is_silent : (last : Option ℕ) → (now : ℕ) → Bool
is_silent None now = true
is_silent (Some last) now = nat_le 1000 (now - last)

-- a packet comes from where the stream's own do, or it doesn't
abbrev pub ComesFrom : Option SocketAddr → SocketAddr → Bool → Type 0
ComesFrom None from answer = answer ≡ true
ComesFrom (Some own) from answer = (answer ≡ true) ↔ (from ≡ own)

-- A packet of this SSRC from this address is of the stream, or of one that takes its place: once it was silent for a second, and under
-- another SSRC only where it is bound to none.
abbrev pub follows_by : Stream → (ssrc now : ℕ) → (is_from : Bool) → Bool
follows_by s ssrc now is_from = (is_from || is_silent s.last now) && ((ssrc == s.ssrc) || (not s.is_bound && is_silent s.last now))

abbrev pub Follows : Stream → SocketAddr → (ssrc now : ℕ) → Bool → Type 0
Follows s from ssrc now answer = (is_from : Bool) × ComesFrom s.from from is_from × (answer ≡ follows_by s ssrc now is_from)

-- it is bound to another SSRC
abbrev pub keeps_out : Stream → (ssrc : ℕ) → Bool
keeps_out s ssrc = s.is_bound && not (ssrc == s.ssrc)

abbrev pub followed_by : Stream → SocketAddr → (ssrc now : ℕ) → Stream
followed_by s from ssrc now = record s { ssrc = ssrc; from = Some from; last = Some now }
