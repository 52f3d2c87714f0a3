-- A relay that learns its session: which one there is, whom it falls to, and what is done with what comes.
use Rattle.std.specs.Prelude.{◌≡◌, ℕ, ◌-◌, ◌||◌, Bool, true, false, not, nat_le, List, Option, Some, None, is_some, Result, Ok, if◌then◌else◌}
use Rattle.std.specs.Global.{Global}
use Rattle.std.specs.declared.net.socket_addr.SocketAddr.{SocketAddr}
use Rattle.stores.specs.Asking.{has_come}
use Rattle.endpoint.specs.declared.heard.Heard.{Heard}
use Rattle.endpoint.specs.declared.heard.Heard.TheVariants as heard
use Rattle.relays.specs.declared.claims.Claims.{Claims}
use Rattle.relays.specs.declared.claims.Stranger.{Stranger}
use Rattle.relays.specs.declared.outside.Side.{Side}
use Rattle.relays.specs.declared.outside.Side.TheVariants.{Near, Far}
use Rattle.relays.specs.declared.peers.Peer.{Peer}
use Rattle.relays.specs.declared.relay.Note.{Note}
use Rattle.relays.specs.declared.relay.Note.TheVariants as note
use Rattle.relays.specs.declared.relay.Turn.{Turn}
use Rattle.relays.specs.Claims.{HearsClaim, begun_anew, no_claims, taken_once}
use Rattle.relays.specs.Peers.{are_admitted}
use Rattle.relays.specs.Running.{Hearing, Speaking, Ending}
use Rattle.gozdrit_relay.specs.declared.machine.Beginning.{Beginning}
use Rattle.gozdrit_relay.specs.declared.machine.Machine.{Machine}

-- which session a datagram may begin beside the one there is, and the relay of a session that begins, with what there is to note of it
abbrev pub Beginnings : (L R : Type 0) → Type 1
Beginnings L R = L → Side → SocketAddr → List ℕ → Option R → ℕ → Option Beginning → Type 0

abbrev pub Makings : (L R : Type 0) → Type 1
Makings L R = L → Beginning → SocketAddr → Option R → R → Note → L → Type 0

-- it learnt nothing
abbrev pub new_machine : {L R : Type 0} → Global → L → List Peer → (stream : ℕ) → (until : Option ℕ) → Machine L R
new_machine alloc learner peers stream until =
    record {
      learner = learner;
      relay = None;
      note = None;
      last = 0;
      claims = no_claims alloc stream;
      peers = peers;
      until = until;
      is_out_of_memory = false;
    }

-- What comes to the side of the stream is turned away where its address is none of a peer.
abbrev pub is_turned_away : (listens side : Side) → (from : SocketAddr) → List Peer → Bool
is_turned_away Near Near from peers = not (are_admitted peers from)
is_turned_away Far Far from peers = not (are_admitted peers from)
is_turned_away listens side from peers = false

-- the relay of the session there is has its far side at an address where a peer may be
abbrev pub LeadsWhere : {L R : Type 0} → (R → SocketAddr → R → Type 0) → (may : Bool) → Option R → Machine L R → (far : SocketAddr) → (is : Bool) → Machine L R → Type 0
LeadsWhere {L} {R} leads true (Some relay) old far is new = (led : R) × leads relay far led × (is ≡ true) × (new ≡ record old { relay = Some led })
LeadsWhere leads may relay old far is new = (is ≡ false) × (new ≡ old)

abbrev pub Leads : {L R : Type 0} → (R → SocketAddr → R → Type 0) → Machine L R → (far : SocketAddr) → (is : Bool) → Machine L R → Type 0
Leads leads old far is new = LeadsWhere leads (are_admitted old.peers far) old.relay old far is new

-- nothing was taken for a second
abbrev pub is_quiet : (last now : ℕ) → Bool
is_quiet last now = nat_le 1000 (now - last)

-- The session falls to the sender of a packet at once where there is none, or where it is quiet, and else by what that claims.
abbrev pub FallsBy : (is_free : Bool) → Claims → Stranger → (now : ℕ) → (falls : Bool) → Claims → Type 0
FallsBy true old s now falls new = (falls ≡ true) × (new ≡ begun_anew old)
FallsBy false old s now falls new = HearsClaim old s now falls new

abbrev pub is_free : {L R : Type 0} → Machine L R → (now : ℕ) → Bool
is_free m now = not (is_some m.relay) || is_quiet m.last now

pub record FallsTo {L R : Type 0} (old : Machine L R) (b : Beginning) (from : SocketAddr) (now : ℕ) (falls : Bool) (new : Machine L R) : Type 0 where
  pub falls_by : FallsBy (is_free old now) old.claims (record { from = from; ssrc = b.ssrc; number = b.number }) now falls new.claims
  pub rest : new ≡ record old { claims = new.claims }

-- A session begins, with a relay in the place of the one there was; or there is no memory for it, and the machine ends.
pub data Begins {L R : Type 0} (makes : Makings L R) (old : Machine L R) (b : Beginning) (from : SocketAddr) (now : ℕ) (new : Machine L R) : Type 0 where
  begun : (relay : R) → (note : Note) → (learner : L) → makes old.learner b from old.relay relay note learner
      → new ≡ record old { learner = learner; relay = Some relay; note = Some note; last = now } → Begins makes old b from now new
  refused : new ≡ record old { is_out_of_memory = true } → Begins makes old b from now new

abbrev pub BeginsWhere : {L R : Type 0} → Makings L R → (falls : Bool) → Machine L R → Beginning → (from : SocketAddr) → (now : ℕ) → Machine L R → Type 0
BeginsWhere makes true old b from now new = Begins makes old b from now new
BeginsWhere makes false old b from now new = new ≡ old

-- a datagram begins a session where it is a beginning, and that falls to its sender
abbrev pub LearnsBy : {L R : Type 0} → Makings L R → Option Beginning → Machine L R → (from : SocketAddr) → (now : ℕ) → Machine L R → Type 0
LearnsBy makes None old from now new = new ≡ old
LearnsBy {L} {R} makes (Some b) old from now new =
    (falls : Bool) × (mid : Machine L R) × FallsTo old b from now falls mid × BeginsWhere makes falls mid b from now new

abbrev pub Learns : {L R : Type 0} → Beginnings L R → Makings L R → Machine L R → Side → (from : SocketAddr) → (octets : List ℕ) → (now : ℕ) → Machine L R → Type 0
Learns begins makes old side from octets now new =
    (b : Option Beginning) × begins old.learner side from octets old.relay now b × LearnsBy makes b old from now new

-- what there is to note of a datagram before a session was learnt
abbrev pub unlearnt : (listens side : Side) → Note
unlearnt Near Near = note.Unsent
unlearnt listens side = note.Stray

-- the session took a packet that goes on with its numbers: a relay sent it, or it was believed
abbrev pub goes_on : Heard → Bool
goes_on (heard.Media taken) = true
goes_on (heard.Repair taken) = true
goes_on (heard.Restarted restart) = true
goes_on h = false

abbrev pub is_taken : Note → Bool
is_taken (note.Sent place) = true
is_taken (note.Heard (Ok h) kind) = goes_on h
is_taken (note.Moved far (Ok h) kind) = goes_on h
is_taken n = false

abbrev pub after : {L R : Type 0} → Machine L R → R → Note → (now : ℕ) → Machine L R
after m relay n now = if is_taken n then record m { relay = Some relay; last = now; claims = taken_once m.claims } else record m { relay = Some relay }

-- a datagram is handed to the relay of the session; before one was learnt nothing leaves
abbrev pub HandsOn : {L R : Type 0} → Hearing R → (listens : Side) → Option R → Machine L R → Side → (from : SocketAddr) → (octets : List ℕ) → (now : ℕ) → Turn → (out : List ℕ) → Machine L R → Type 0
HandsOn hears listens None old side from octets now turn out new = (turn ≡ record { note = unlearnt listens side; leaves = None }) × (new ≡ old)
HandsOn {L} {R} hears listens (Some relay) old side from octets now turn out new =
    (next : R) × hears relay side from octets now turn out next × (new ≡ after old next turn.note now)

-- A datagram that comes is turned away; or it may begin a session, and is handed to the relay of the one there is then.
abbrev pub HearsWhere : {L R : Type 0} → (is_turned_away : Bool) → Hearing R → (listens : Side) → Beginnings L R → Makings L R → Machine L R → Side → (from : SocketAddr) → (octets : List ℕ) → (now : ℕ) → Turn → (out : List ℕ) → Machine L R → Type 0
HearsWhere true hears listens begins makes old side from octets now turn out new = (turn ≡ record { note = note.Stray; leaves = None }) × (new ≡ old)
HearsWhere {L} {R} false hears listens begins makes old side from octets now turn out new =
    (mid : Machine L R) × Learns begins makes old side from octets now mid × HandsOn hears listens mid.relay mid side from octets now turn out new

abbrev pub Hears : {L R : Type 0} → Hearing R → (listens : Side) → Beginnings L R → Makings L R → Machine L R → Side → (from : SocketAddr) → (octets : List ℕ) → (now : ℕ) → Turn → (out : List ℕ) → Machine L R → Type 0
Hears hears listens begins makes old side from octets now turn out new =
    HearsWhere (is_turned_away listens side from old.peers) hears listens begins makes old side from octets now turn out new

-- What is done of its own is that a session is noted which was learnt, once, or else what the relay of the session does.
abbrev pub SpeaksOf : {L R : Type 0} → Speaking R → Option Note → Option R → Machine L R → (now : ℕ) → Option Turn → (out : List ℕ) → Machine L R → Type 0
SpeaksOf speaks (Some n) relay old now turn out new = (turn ≡ Some (record { note = n; leaves = None })) × (new ≡ record old { note = None })
SpeaksOf {L} {R} speaks None (Some relay) old now turn out new = (next : R) × speaks relay now turn out next × (new ≡ record old { relay = Some next })
SpeaksOf speaks None None old now turn out new = (turn ≡ None) × (new ≡ old)

abbrev pub Speaks : {L R : Type 0} → Speaking R → Machine L R → (now : ℕ) → Option Turn → (out : List ℕ) → Machine L R → Type 0
Speaks speaks old now turn out new = SpeaksOf speaks old.note old.relay old now turn out new

-- It is done where the relay of the session is, or at a moment where none was learnt; and at once without memory for a session.
abbrev pub is_done_by : {R : Type 0} → Ending R → (until : Option ℕ) → Option R → (now : ℕ) → Bool
is_done_by done until None now = has_come until now
is_done_by done until (Some r) now = done r now

abbrev pub is_done : {L R : Type 0} → Ending R → Machine L R → (now : ℕ) → Bool
is_done done m now = m.is_out_of_memory || is_done_by done m.until m.relay now
