-- Which of both sockets is read next.
use Rattle.std.specs.Prelude.{◌≡◌, ℕ, ◌+◌, Bool, true, false, nat_lt, Option, Some, None, if◌then◌else◌}
use Rattle.relays.specs.declared.outside.Side.{Side}
use Rattle.relays.specs.declared.outside.Side.TheVariants.{Near, Far}
use Rattle.gozdrit_relay.specs.declared.turns.Turns.{Turns}

-- whether the socket of a side may have more
abbrev pub is_ready : Turns → Side → Bool
is_ready t Near = t.near
is_ready t Far = t.far

-- the first one where it may have more, else the other one
abbrev pub one_of : (first second : Bool) → (a b : Side) → Option Side
one_of true second a b = Some a
one_of false true a b = Some b
one_of false false a b = None

abbrev pub next_by : (is_near_first : Bool) → Turns → Option Side
next_by true t = one_of t.near t.far Near Far
next_by false t = one_of t.far t.near Far Near

abbrev pub next_of : Turns → Option Side
next_of t = next_by t.is_near_first t

-- One more of the socket that is first: with the sixteenth in a row the other one is, and may have something. One of the other, which is
-- first then: the first one had nothing.
abbrev pub one_more : Turns → (other : Bool) → Turns
one_more t other =
    if nat_lt (t.row + 1) 16 then record { near = t.near; far = t.far; is_near_first = t.is_near_first; row = t.row + 1 }
    else record { near = true; far = true; is_near_first = other; row = 0 }

abbrev pub anew : Turns → (is_near : Bool) → Turns
anew t is_near = record { near = t.near; far = t.far; is_near_first = is_near; row = 1 }

abbrev pub taken_by : (is_near_first : Bool) → Turns → Side → Turns
taken_by true t Near = one_more t false
taken_by true t Far = anew t false
taken_by false t Near = anew t true
taken_by false t Far = one_more t true

abbrev pub taken : Turns → Side → Turns
taken t side = taken_by t.is_near_first t side

abbrev pub drained : Turns → Side → Turns
drained t Near = record t { near = false }
drained t Far = record t { far = false }

abbrev pub woken : Turns → Side → Turns
woken t Near = record t { near = true }
woken t Far = record t { far = true }
