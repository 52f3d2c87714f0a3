-- Which SSRC and which sequence numbers a player sees: one SSRC, and the places' own numbers, shifted so that they go on where a
-- stream restarts with others.
use Rattle.std.specs.Prelude.{ℕ, Bool, true, false, ◌+◌, ◌-◌, ◌%◌, Option, Some, None}
use Rattle.places.specs.Place.{number}
use Rattle.relays.specs.declared.numbering.Numbering.{Numbering}

abbrev pub numbered_by : (is_anew : Bool) → (next : Option ℕ) → (shifted : ℕ) → ℕ
numbered_by true (Some next) shifted = next
numbered_by true None shifted = shifted
numbered_by false next shifted = shifted

-- the number of the packet of this place, if it is the next one
abbrev pub numbered : Numbering → (place : ℕ) → ℕ
numbered n place = numbered_by n.is_anew n.next ((number place + n.shift) % 65536)

-- after it: places above it keep their distance to it
abbrev pub numbered_after : Numbering → (place : ℕ) → Numbering
numbered_after n place =
    record {
      ssrc = n.ssrc;
      shift = (numbered n place + 65536 - number place) % 65536;
      next = Some ((numbered n place + 1) % 65536);
      is_anew = false;
    }

-- after a restart with other numbers the next packet goes on from the last one
abbrev pub anew : Numbering → Numbering
anew n = record n { is_anew = true }
