-- Where the far side is, and what shows it at another address, as where a NAT on its way binds it anew. (The rule is this project's own.)
use Rattle.std.specs.Prelude.{◌≡◌, ◌↔◌, ℕ, ◌+◌, ◌-◌, ◌*◌, ◌/◌, ◌&&◌, ◌≤◌, Bool, true, false, max, min, nat_le, List, [], ◌∷◌, Option, Some, None, if◌then◌else◌}
use Rattle.std.specs.declared.net.socket_addr.SocketAddr.{SocketAddr}
use Rattle.relays.specs.Capping.{capped}
use Rattle.relays.specs.Claims.{is_next_number}
use Rattle.relays.specs.declared.far_side.FarSide.{FarSide}
use Rattle.relays.specs.declared.far_side.Showing.{Showing}

-- a far side of which nothing came: its gaps may be the longest that count
abbrev pub new_far_side : SocketAddr → FarSide
new_far_side at = record { at = at; came = None; gap = 250000; shown = None }

-- The mean of the gaps between its datagrams, in microseconds, behind one more of so many milliseconds, up to a quarter of a second: each
-- millisecond has a thousandth of the weight, and counts as the gap in which it lies.
abbrev pub mean_with : (span gap : ℕ) → ℕ
mean_with span gap = capped (capped (gap * (1000 - span)) / 1000 + capped (span * span))

abbrev pub gap_after : (came : Option ℕ) → (now gap : ℕ) → ℕ
gap_after None now gap = gap
gap_after (Some came) now gap = mean_with (min (now - came) 250) gap

-- a datagram of it comes from this address
abbrev pub heard_at : (from : SocketAddr) → (now : ℕ) → FarSide → FarSide
heard_at from now f = record { at = from; came = Some now; gap = gap_after f.came now f.gap; shown = None }

-- It is quiet once nothing came for four of its gaps, but for a tenth of a second at least; and no longer than a second, as gaps count.
abbrev pub quiet_for : FarSide → ℕ
quiet_for f = max (f.gap / 250) 100

abbrev pub quiet_since : Option ℕ → (span now : ℕ) → Bool
quiet_since None span now = false
quiet_since (Some came) span now = nat_le span (now - came)

abbrev pub is_quiet : FarSide → (now : ℕ) → Bool
is_quiet f now = quiet_since f.came (quiet_for f) now

-- what came from another address came from this one
abbrev pub IsShownAt : Option Showing → SocketAddr → Bool → Type 0
IsShownAt None from answer = answer ≡ false
IsShownAt (Some s) from answer = (answer ≡ true) ↔ (from ≡ s.from)

-- a packet begins what shows it at an address, and is one more
abbrev pub begun : SocketAddr → (number now : ℕ) → Showing
begun from number now = record { from = from; number = number; last = now; packets = 1 }

abbrev pub counted : Showing → (number now : ℕ) → Showing
counted s number now = record s { number = number; last = now; packets = capped (s.packets + 1) }

-- A packet is counted with those of its address that it goes on with. Beside those of another one, or of a number that is none of the next
-- ones, it begins anew once these were not gone on with for as long as the far side has to be quiet, and is passed over before.
abbrev pub showing_by : Option Showing → (is_there : Bool) → (span : ℕ) → SocketAddr → (number now : ℕ) → Showing
showing_by None is_there span from number now = begun from number now
showing_by (Some s) is_there span from number now =
    if is_there && is_next_number s.number number then counted s number now else if nat_le span (now - s.last) then begun from number now else s

abbrev pub showing : FarSide → (is_there : Bool) → SocketAddr → (number now : ℕ) → Showing
showing f is_there from number now = showing_by f.shown is_there (quiet_for f) from number now

-- four packets in sequence show it at another address
abbrev pub is_shown : Option Showing → Bool
is_shown None = false
is_shown (Some s) = nat_le 4 s.packets

abbrev pub has_moved : FarSide → (now : ℕ) → Bool
has_moved f now = is_quiet f now && is_shown f.shown

-- A packet with one of the next numbers comes from another address: whether the far side is there now, and what shows it then.
pub record Shows (old : FarSide) (from : SocketAddr) (number now : ℕ) (answer : Bool) (new : FarSide) : Type 0 where
  pub is_there : Bool
  pub there : IsShownAt old.shown from is_there
  pub shows : new ≡ record old { shown = Some (showing old is_there from number now) }
  pub answers : answer ≡ (is_there && has_moved new now)

-- It left its address: the time until it is heard at another one is no gap of its own.
abbrev pub left : FarSide → FarSide
left f = record f { came = None }

-- ---- many datagrams, for a law to say

-- a far side whose datagrams came from one address at these moments, the newest first
abbrev pub heard_all : SocketAddr → (moments : List ℕ) → FarSide
heard_all at [] = new_far_side at
heard_all at (now ∷ before) = heard_at at now (heard_all at before)

-- they lie so many milliseconds apart at least
abbrev pub AreApart : (gap : ℕ) → (moments : List ℕ) → Type 0
AreApart gap [] = Unit {0}
AreApart gap (now ∷ []) = Unit {0}
AreApart gap (now ∷ last ∷ before) = (last + gap ≤ now) × AreApart gap (last ∷ before)
