-- What a receiving endpoint counts for each answer that it gives.
use Rattle.std.specs.Prelude.{◌≡◌, ℕ, List, length, Option, Some, None, Result, Ok, Err}
use Rattle.arrayvec.specs.ArrayVec.{ArrayVec}
use Rattle.rtpwire.specs.declared.fault.TooShort.{TooShort}
use Rattle.places.specs.declared.nearness.PlaceFault.TheVariants.{Far}
use Rattle.stores.specs.declared.slot.PutFault.TheVariants.{Late, Duplicate}
use Rattle.fbwire.specs.Nack.{Nack, NackSpells, numbers_of}
use Rattle.receiver.specs.declared.answer.Played.{Played}
use Rattle.receiver.specs.declared.answer.Played.TheVariants.{Packet, Gap, Wait}
use Rattle.receiver.specs.declared.fault.ReceiveFault.{ReceiveFault}
use Rattle.receiver.specs.declared.fault.ReceiveFault.TheVariants as refused
use Rattle.receiver.specs.Asks.{asked_into}
use Rattle.endpoint.specs.declared.heard.Heard.{Heard}
use Rattle.endpoint.specs.declared.heard.Heard.TheVariants as heard
use Rattle.endpoint.specs.declared.passed.Passed.{Passed}
use Rattle.endpoint.specs.declared.passed.Passed.TheVariants as passed
use Rattle.endpoint.specs.declared.receive_counts.ReceiveCounts.{ReceiveCounts}
use Rattle.endpoint.specs.Counts.{count_in_64, more}

-- the answer to a datagram
abbrev pub count_heard : Result Heard ReceiveFault → ReceiveCounts → ReceiveCounts
count_heard (Ok heard.Control) c = record c { control = more c.control 1 }
count_heard (Ok (heard.Media taken)) c = record c { media = more c.media 1; overrun = more c.overrun taken.overrun }
count_heard (Ok (heard.Repair taken)) c = record c { retransmissions = more c.retransmissions 1; overrun = more c.overrun taken.overrun }
count_heard (Ok (heard.HeldBack held)) c = record c { held_back = more c.held_back 1 }
count_heard (Ok (heard.Restarted r)) c =
    record c { restarts = more c.restarts 1; overrun = more c.overrun r.taken.overrun; abandoned = more c.abandoned r.abandoned; skipped = more c.skipped r.skipped }
count_heard (Err (refused.Put Duplicate)) c = record c { duplicate = more c.duplicate 1 }
count_heard (Err (refused.Put Late)) c = record c { late = more c.late 1 }
count_heard (Err (refused.Place Far)) c = record c { far = more c.far 1 }
count_heard (Err fault) c = record c { refused = more c.refused 1 }

-- the place that a play passes, and whether it is given up
abbrev pub passed_by : Played → Passed
passed_by (Packet place content) = passed.Packet place
passed_by (Gap place) = passed.Gap place
passed_by Wait = passed.Nothing

-- what a play passed
abbrev pub count_passed : Passed → ReceiveCounts → ReceiveCounts
count_passed (passed.Packet place) c = record c { played = more c.played 1 }
count_passed (passed.Gap place) c = record c { gaps = more c.gaps 1 }
count_passed passed.Nothing c = c

-- what a play gave
abbrev pub count_played : Played → ReceiveCounts → ReceiveCounts
count_played played c = count_passed (passed_by played) c

-- an ask for so many places
abbrev pub count_ask : (places : ℕ) → ReceiveCounts → ReceiveCounts
count_ask places c = record c { asks = more c.asks 1; places_asked = more c.places_asked places }

-- how many places the NACK of an ask names, each as often as it stands there
abbrev pub NamesMany : Option (ArrayVec ℕ) → (places : ℕ) → Type 0
NamesMany None places = places ≡ 0
NamesMany (Some datagram) places = (nack : Nack) → NackSpells nack datagram.items → places ≡ length (numbers_of nack.pairs)

-- An ask counts them, and nothing where there is no NACK.
abbrev pub CountsAsk : Option (ArrayVec ℕ) → ReceiveCounts → ReceiveCounts → Type 0
CountsAsk None old new = new ≡ old
CountsAsk (Some datagram) old new = (nack : Nack) → NackSpells nack datagram.items → new ≡ count_ask (count_in_64 (length (numbers_of nack.pairs))) old

-- the same of an ask to the front of a slice
abbrev pub CountsAskInto : List ℕ → Result (Option ℕ) TooShort → ReceiveCounts → ReceiveCounts → Type 0
CountsAskInto out (Ok answer) old new = CountsAsk (asked_into out answer) old new
CountsAskInto out (Err short) old new = new ≡ old

-- nothing was counted
abbrev pub no_counts : ReceiveCounts
no_counts =
    record {
      media = 0;
      retransmissions = 0;
      held_back = 0;
      restarts = 0;
      control = 0;
      duplicate = 0;
      late = 0;
      far = 0;
      refused = 0;
      overrun = 0;
      abandoned = 0;
      skipped = 0;
      played = 0;
      gaps = 0;
      asks = 0;
      places_asked = 0;
    }
