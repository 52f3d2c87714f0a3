-- A run of a relay: what happens, one thing after the other, what passes then, and why it ends.
use Rattle.std.specs.Prelude.{◌≡◌, ◌⊎◌, ℕ, ◌-◌, ◌^◌, ◌<◌, Bool, true, false, List, [], ◌∷◌, ◌++◌, length, Option, Some, None}
use Rattle.arrayvec.specs.ArrayVec.{ArrayVec}
use Rattle.std.specs.declared.net.socket_addr.SocketAddr.{SocketAddr}
use Rattle.stores.specs.Asking.{has_come}
use Rattle.relays.specs.declared.outside.Side.{Side}
use Rattle.relays.specs.declared.outside.Passage.{Passage}
use Rattle.relays.specs.declared.outside.Passage.TheVariants.{Waits, Came, Idle}
use Rattle.relays.specs.declared.relay.Turn.{Turn}
use Rattle.relays.specs.Passing.{Grows, left_by, met_failure}

-- what a relay does with a datagram, what it does of its own, and when it is done
abbrev pub Hearing : Type 0 → Type 1
Hearing R = R → Side → SocketAddr → List ℕ → ℕ → Turn → List ℕ → R → Type 0

abbrev pub Speaking : Type 0 → Type 1
Speaking R = R → ℕ → Option Turn → List ℕ → R → Type 0

abbrev pub Ending : Type 0 → Type 0
Ending R = R → ℕ → Bool

-- at this moment there is nothing to do, and the relay is not done
pub record Rests {R : Type 0} (speaks : Speaking R) (done : Ending R) (r : R) (now : ℕ) : Type 0 where
  pub undone : done r now ≡ false
  pub nothing : (out : List ℕ) → speaks r now None out r

-- so it is at each moment before this one; None: at every moment
abbrev pub RestsUntil : {R : Type 0} → Speaking R → Ending R → R → (moment : Option ℕ) → Type 0
RestsUntil speaks done r moment = (now : ℕ) → now < 2 ^ 64 → has_come moment now ≡ false → Rests speaks done r now

-- It waits only when it has done all that was to do, and only until a moment before which nothing will be.
pub record Sleeps {R : Type 0} (speaks : Speaking R) (done : Ending R) (old : R) (was : ℕ) (until : Option ℕ) (new : R) : Type 0 where
  pub out : List ℕ
  pub nothing : speaks old was None out new
  pub undone : done new was ≡ false
  pub rests : RestsUntil speaks done new until

-- A datagram that came in a wait is handed to the relay.
pub record Takes {R : Type 0} (hears : Hearing R) (speaks : Speaking R) (done : Ending R) (old : R) (was : ℕ) (until : Option ℕ) (side : Side) (from : SocketAddr) (octets : List ℕ) (now : ℕ) (turn : Turn) (out : List ℕ) (new : R) : Type 0 where
  pub mid : R
  pub sleeps : Sleeps speaks done old was until mid
  pub hears_it : hears mid side from octets now turn out new

-- One thing that happens to a relay.
pub data Deed : Type 0 where
  spoke : (turn : Turn) → (out : List ℕ) → Deed  -- it did something of its own
  waited : (until : Option ℕ) → Deed  -- nothing came
  heard : (until : Option ℕ) → (side : Side) → (from : SocketAddr) → (octets : ArrayVec ℕ) → (turn : Turn) → (out : List ℕ) → Deed  -- a datagram came

-- It happens: what came is handed to the relay, and what it makes leaves. `was` is the moment before, and `now` the one after:
-- a wait ends at one, and what a relay does of its own it does at the last one that was met.
abbrev pub Happens : {R : Type 0} → Hearing R → Speaking R → Ending R → R → (was : ℕ) → Deed → List Passage → R → (now : ℕ) → Type 0
Happens hears speaks done old was (spoke turn out) passed new now = (now ≡ was) × speaks old was (Some turn) out new × (passed ≡ left_by turn out)
Happens hears speaks done old was (waited until) passed new now = Sleeps speaks done old was until new × (passed ≡ Waits until ∷ Idle now ∷ [])
Happens hears speaks done old was (heard until side from octets turn out) passed new now =
    Takes hears speaks done old was until side from octets.items now turn out new × (passed ≡ Waits until ∷ Came side from octets now ∷ left_by turn out)

-- so much happens from the moment 0 on, the newest first
abbrev pub Happen : {R : Type 0} → Hearing R → Speaking R → Ending R → R → List Deed → List Passage → R → (now : ℕ) → Type 0
Happen hears speaks done old [] passed new now = (new ≡ old) × (passed ≡ []) × (now ≡ 0)
Happen {R} hears speaks done old (deed ∷ before) passed new now =
    (mid : R) × (then : ℕ) × (first : List Passage) × (last : List Passage)
    × Happen hears speaks done old before first mid then × Happens hears speaks done mid then deed last new now × (passed ≡ first ++ last)

-- A relay went on from one state to another by these deeds, and what was told of its passages grew by those of the deeds.
pub record GoesOn {R : Type 0} (hears : Hearing R) (speaks : Speaking R) (done : Ending R) (old : R) (told : Option (List Passage)) (deeds : List Deed) (new : R) (now : ℕ) (telling : Option (List Passage)) : Type 0 where
  pub passed : List Passage
  pub happen : Happen hears speaks done old deeds passed new now
  pub tells : Grows told passed telling

-- one deed, and what was told of its passages
pub record Met {R : Type 0} (hears : Hearing R) (speaks : Speaking R) (done : Ending R) (old : R) (was : ℕ) (told : Option (List Passage)) (new : R) (now : ℕ) (telling : Option (List Passage)) : Type 0 where
  pub deed : Deed
  pub passed : List Passage
  pub happens : Happens hears speaks done old was deed passed new now
  pub tells : Grows told passed telling

-- it is done, and nothing is left to do
pub record Finishes {R : Type 0} (speaks : Speaking R) (done : Ending R) (old : R) (now : ℕ) (new : R) : Type 0 where
  pub out : List ℕ
  pub nothing : speaks old now None out new
  pub over : done new now ≡ true

-- what is outside fails in a wait
pub record Fails {R : Type 0} (speaks : Speaking R) (done : Ending R) (old : R) (was : ℕ) (told : Option (List Passage)) (new : R) (telling : Option (List Passage)) : Type 0 where
  pub until : Option ℕ
  pub sleeps : Sleeps speaks done old was until new
  pub tells : Grows told (met_failure until) telling

-- Why a run ends: the relay is done, or so much happened as no run lives to see, or else what is outside failed.
abbrev pub Ends : {R : Type 0} → Speaking R → Ending R → (has_failed : Bool) → (count : ℕ) → R → (now : ℕ) → (told : Option (List Passage)) → R → (telling : Option (List Passage)) → Type 0
Ends speaks done true count old now told new telling = Fails speaks done old now told new telling
Ends speaks done false count old now told new telling =
    (Finishes speaks done old now new ⊎ ((count ≡ 2 ^ 64 - 1) × (new ≡ old))) × (telling ≡ told)

-- A run from a relay's first moment to its end.
pub record Ran {R : Type 0} (hears : Hearing R) (speaks : Speaking R) (done : Ending R) (has_failed : Bool) (old : R) (told : Option (List Passage)) (new : R) (telling : Option (List Passage)) : Type 0 where
  pub deeds : List Deed
  pub mid : R
  pub now : ℕ
  pub between : Option (List Passage)
  pub goes : GoesOn hears speaks done old told deeds mid now between
  pub ends : Ends speaks done has_failed (length deeds) mid now between new telling
