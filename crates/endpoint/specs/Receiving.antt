-- A receiving endpoint: what it does with a datagram, over a receiver that it hands what it believes and another one that is
-- handed what is held back.
use Rattle.std.specs.Prelude.{◌≡◌, ℕ, zero, suc, ◌+◌, ◌-◌, ◌%◌, ◌==◌, ◌&&◌, Bool, true, false, nat_lt, List, length, Option, Some, None, Result, Ok, Err, OnErr, if◌then◌else◌}
use Rattle.rtpwire.specs.Rtp.{RtpPacket, RtpSpells}
use Rattle.rtpwire.specs.Session.{Streams}
use Rattle.stores.specs.Span.{Span, highest_of, empty_span}
use Rattle.stores.specs.declared.slot.PutFault.TheVariants.{Late}
use Rattle.stores.specs.Asking.{is_missing}
use Rattle.stores.specs.ByPlace.{slot_at}
use Rattle.receiver.specs.Config.{Config}
use Rattle.receiver.specs.declared.answer.Taken.{Taken}
use Rattle.receiver.specs.declared.fault.ReceiveFault.{ReceiveFault}
use Rattle.receiver.specs.declared.fault.ReceiveFault.TheVariants as refused
use Rattle.receiver.specs.Heard.{Hears}
use Rattle.receiver.specs.Receiver.{Receiving, Stays, state_of, restarted}
use Rattle.endpoint.specs.declared.probation.Probation.{Probation}
use Rattle.endpoint.specs.declared.holding.Run.{Run}
use Rattle.endpoint.specs.declared.heard.Heard.{Heard}
use Rattle.endpoint.specs.declared.heard.Heard.TheVariants as heard
use Rattle.endpoint.specs.Probation.{ahead, wanted_for, goes_on, wanted_of_run, wanted_now}
use Rattle.endpoint.specs.Asked.{asked_at}
use Rattle.endpoint.specs.Demultiplex.{is_control}
use Rattle.endpoint.specs.Padding.{IsStripped}
use Rattle.endpoint.specs.Seen.{is_repeat}
use Rattle.endpoint.specs.declared.seen_packets.SeenPacket.{SeenPacket}

-- the sequence number of a packet, if it is one of the session's media
abbrev pub media_number_of : Streams → RtpPacket → Option ℕ
media_number_of s p = if p.ssrc == s.media_ssrc && p.payload_type == s.media_type then Some p.sequence else None

-- The sequence number of the media packet of the session that the octets are. None: they spell no packet, or another one.
abbrev pub IsMediaNumber : Streams → List ℕ → Option ℕ → Type 0
IsMediaNumber s octets number = (p : RtpPacket) → RtpSpells p octets → number ≡ media_number_of s p

abbrev pub IsSpelledWhere : List ℕ → Option ℕ → Type 0
IsSpelledWhere octets None = Unit {0}
IsSpelledWhere octets (Some seq) = (p : RtpPacket) × RtpSpells p octets

-- The place that has this number and lies nearest behind the highest one is missing: it is waited for.
abbrev pub is_awaited : Span → (highest seq : ℕ) → Bool
is_awaited s highest seq = is_missing (slot_at s (asked_at highest seq))

abbrev pub wanted_behind : Probation → Span → (highest : Option ℕ) → (seq : ℕ) → ℕ
wanted_behind p s None seq = 0
wanted_behind p s (Some h) seq = if is_awaited s h seq then 0 else wanted_for p h seq

-- How many in sequence are wanted before a media packet with this number is believed. A receiver that took nothing believes any; and
-- what is waited for is believed however far behind it comes.
abbrev pub wanted_at : Probation → Span → (number : Option ℕ) → ℕ
wanted_at p s None = 0
wanted_at p s (Some seq) = wanted_behind p s (highest_of s) seq

-- One datagram at a receiver, which is as it was where that refuses it.
pub record Handed (old : Receiving) (octets : List ℕ) (now : ℕ) (answer : Result Taken ReceiveFault) (new : Receiving) : Type 0 where
  pub hears : Hears old.span.capacity old.config (state_of old) octets now answer (state_of new)
  pub refused : OnErr answer (new ≡ old)
  pub stays : Stays old new

-- Nothing is held back; media was last taken at this moment.
abbrev pub none_held : (last : ℕ) → Run
none_held last = record { count = 0; wanted = 0; next = 0; last = last }

abbrev pub no_run : Run
no_run = none_held 0

-- the packet with this number goes on with what is held back, of which this is the highest place
abbrev pub follows : Probation → Run → (highest : Option ℕ) → (seq : ℕ) → Bool
follows p run highest seq = nat_lt 0 run.count && goes_on p.silence p highest run.next seq

-- what is held back before this packet: the same, or nothing, by a receiver that took nothing
abbrev pub run_before : Probation → Run → (highest : Option ℕ) → (wanted seq : ℕ) → Run
run_before p run highest wanted seq =
    if follows p run highest seq then run else record { count = 0; wanted = wanted_of_run p.silence p wanted; next = seq; last = run.last }

abbrev pub spare_before : Probation → Receiving → Run → (seq : ℕ) → Receiving
spare_before p spare run seq = if follows p run (highest_of spare.span) seq then spare else restarted spare

-- both receivers of an endpoint, and what is held back
pub record Ends : Type 0 where
  pub core : Receiving
  pub spare : Receiving
  pub run : Run

abbrev pub ends_of : Receiving → Receiving → Run → Ends
ends_of core spare run = record { core = core; spare = spare; run = run }

-- how many places a window keeps, held or missing; one that was not started keeps none
abbrev pub kept_at : (cursor : Option ℕ) → Span → ℕ
kept_at None s = 0
kept_at (Some k) s = length s.slots

abbrev pub kept_in : Span → ℕ
kept_in s = kept_at s.cursor s

-- How many numbers lie between one and another that lies so far ahead of it, modulo 65536. From half a cycle on it lies behind, and
-- nothing lies between.
abbrev pub skipped_by : (distance : ℕ) → ℕ
skipped_by distance = if nat_lt distance 32768 then distance - 1 else 0

-- How many packets a jump passed over (RFC 3550, appendix A.3, counts them as lost): from the highest place before it to the first one
-- that the window behind it kept before its last packet, which dropped so many.
abbrev pub skipped_at : (highest cursor : Option ℕ) → (overrun : ℕ) → ℕ
skipped_at None cursor overrun = 0
skipped_at (Some h) None overrun = 0
skipped_at (Some h) (Some k) overrun = skipped_by (ahead h ((k - overrun) % 65536))

-- a receiver that took nothing
abbrev pub fresh : Config → (capacity : ℕ) → Receiving
fresh config capacity = record { config = config; span = empty_span capacity; learnt = None }

-- What becomes of a packet that the spare receiver was handed. Refused, it ends what was held back. Taken, it is held back with
-- the others, or it is the last that was wanted: then the spare receiver, which has all of them, takes the place of the other.
-- (The tests stand as functions of what they decide.)
abbrev pub held_answer : Bool → Taken → (held abandoned skipped : ℕ) → Heard
held_answer more taken held abandoned skipped =
    if more then heard.HeldBack held else heard.Restarted (record { taken = taken; held = held; abandoned = abandoned; skipped = skipped })

abbrev pub held_ends : Bool → Ends → (mid : Receiving) → Run → (seq now : ℕ) → Ends
held_ends more old mid run seq now =
    if more
    then record { core = old.core; spare = mid; run = record { count = run.count + 1; wanted = run.wanted; next = (seq + 1) % 65536; last = run.last } }
    else record { core = mid; spare = old.core; run = none_held now }

-- more are wanted after this one
abbrev pub wants_more : Probation → Run → (now : ℕ) → Bool
wants_more p run now = nat_lt (run.count + 1) (wanted_now p run.wanted run.last now)

-- what a refusal leaves of a run: in sequence nothing, by the stream all
abbrev pub run_refused : (silence : Option ℕ) → Run → Run
run_refused None run = none_held run.last
run_refused (Some span) run = run

abbrev pub AfterHeld : Probation → Ends → (mid : Receiving) → Run → (seq now : ℕ) → Result Taken ReceiveFault → Result Heard ReceiveFault → Ends → Type 0
AfterHeld p old mid run seq now (Err fault) answer new = (answer ≡ Err fault) × (new ≡ record { core = old.core; spare = mid; run = run_refused p.silence run })
AfterHeld p old mid run seq now (Ok taken) answer new =
    (answer ≡ Ok (held_answer (wants_more p run now) taken (run.count + 1) (kept_in old.core.span) (skipped_at (highest_of old.core.span) mid.span.cursor taken.overrun))) × (new ≡ held_ends (wants_more p run now) old mid run seq now)

-- a packet that is not believed
pub record HoldsBack (p : Probation) (old : Ends) (wanted seq : ℕ) (octets : List ℕ) (now : ℕ) (answer : Result Heard ReceiveFault) (new : Ends) : Type 0 where
  pub mid : Receiving
  pub taken : Result Taken ReceiveFault
  pub handed : Handed (spare_before p old.spare old.run seq) octets now taken mid
  pub after : AfterHeld p old mid (run_before p old.run (highest_of old.spare.span) wanted seq) seq now taken answer new

-- the answer of a receiver as the endpoint's: what it took is media, or else a retransmission
abbrev pub as_heard : (number : Option ℕ) → Result Taken ReceiveFault → Result Heard ReceiveFault
as_heard (Some seq) (Ok taken) = Ok (heard.Media taken)
as_heard None (Ok taken) = Ok (heard.Repair taken)
as_heard number (Err fault) = Err fault

-- Media that is taken ends what is held back; where it is refused, it does so in sequence, and by the stream not. No other packet does.
abbrev pub run_after : (silence : Option ℕ) → (number : Option ℕ) → Result Taken ReceiveFault → (now : ℕ) → Run → Run
run_after silence None taken now run = run
run_after silence (Some seq) (Ok taken) now run = none_held now
run_after silence (Some seq) (Err fault) now run = run_refused silence run

-- a packet that is believed
pub record Believes (p : Probation) (old : Ends) (number : Option ℕ) (octets : List ℕ) (now : ℕ) (answer : Result Heard ReceiveFault) (new : Ends) : Type 0 where
  pub taken : Result Taken ReceiveFault
  pub handed : Handed old.core octets now taken new.core
  pub answered : answer ≡ as_heard number taken
  pub spare : new.spare ≡ old.spare
  pub run : new.run ≡ run_after p.silence number taken now old.run

-- What is heard of a packet, by how many in sequence are wanted and its number.
abbrev pub HearsWanted : Probation → Ends → (wanted : ℕ) → (number : Option ℕ) → (octets : List ℕ) → (now : ℕ) → Result Heard ReceiveFault → Ends → Type 0
HearsWanted p old wanted None octets now answer new = Believes p old None octets now answer new
HearsWanted p old zero (Some seq) octets now answer new = Believes p old (Some seq) octets now answer new
HearsWanted p old (suc more) (Some seq) octets now answer new = HoldsBack p old (suc more) seq octets now answer new

-- One that would be held back, and was taken before, begins nothing: it is refused as late (35), and changes nothing.
abbrev pub HearsUnless : (repeat : Bool) → Probation → Ends → (wanted : ℕ) → (number : Option ℕ) → (octets : List ℕ) → (now : ℕ) → Result Heard ReceiveFault → Ends → Type 0
HearsUnless true p old wanted number octets now answer new = (answer ≡ Err (refused.Put Late)) × (new ≡ old)
HearsUnless false p old wanted number octets now answer new = HearsWanted p old wanted number octets now answer new

-- a packet, by the number that it has, if it is media
pub record HearsPacket (p : Probation) (seen : List (Option SeenPacket)) (old : Ends) (octets : List ℕ) (now : ℕ) (answer : Result Heard ReceiveFault) (new : Ends) : Type 0 where
  pub number : Option ℕ
  pub is_number : IsMediaNumber old.core.config.session octets number
  pub spelled : IsSpelledWhere octets number
  pub heard : HearsUnless (nat_lt 0 (wanted_at p old.core.span number) && is_repeat seen number octets) p old (wanted_at p old.core.span number) number octets now answer new

-- a packet that is all padding is heard without it
abbrev pub HearsStripped : Probation → (seen : List (Option SeenPacket)) → Ends → (plain : Option (List ℕ)) → (octets : List ℕ) → (now : ℕ) → Result Heard ReceiveFault → Ends → Type 0
HearsStripped p seen old None octets now answer new = ((plain : List ℕ) → IsStripped octets plain → ⊥) × HearsPacket p seen old octets now answer new
HearsStripped p seen old (Some plain) octets now answer new = IsStripped octets plain × HearsPacket p seen old plain now answer new

-- RTCP changes nothing, and RTP is heard
abbrev pub HearsKind : (control : Bool) → Probation → (seen : List (Option SeenPacket)) → Ends → (plain : Option (List ℕ)) → (octets : List ℕ) → (now : ℕ) → Result Heard ReceiveFault → Ends → Type 0
HearsKind true p seen old plain octets now answer new = (answer ≡ Ok heard.Control) × (new ≡ old)
HearsKind false p seen old plain octets now answer new = HearsStripped p seen old plain octets now answer new

-- One datagram of the far side at a receiving endpoint, which remembers these packets.
pub record HearsDatagram (p : Probation) (seen : List (Option SeenPacket)) (old : Ends) (octets : List ℕ) (now : ℕ) (answer : Result Heard ReceiveFault) (new : Ends) : Type 0 where
  pub plain : Option (List ℕ)
  pub heard : HearsKind (is_control octets) p seen old plain octets now answer new
