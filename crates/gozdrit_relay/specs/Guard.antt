-- What comes by where a relay has a key.
use Rattle.std.specs.Prelude.{◌≡◌, ℕ, ◌==◌, nat_le, nat_lt, Bool, true, false, List, length, Option, Some, None, if◌then◌else◌}
use Rattle.srtp.specs.Derivation.{rtp_keys, rtcp_keys}
use Rattle.srtp.specs.declared.keys.Profile.{Profile}
use Rattle.contexts.specs.Heard.{Hears, HearsControl, LeavesSealed, LeavesSealedControl}
use Rattle.endpoint.specs.Demultiplex.{is_control}
use Rattle.liveness.specs.declared.answer.Answer.{Answer}
use Rattle.liveness.specs.declared.living.Living.{Living}
use Rattle.liveness.specs.declared.living.Source.{Source}
use Rattle.liveness.specs.declared.reference.ReferenceTime.{ReferenceTime}
use Rattle.liveness.specs.Living as living
use Rattle.liveness.specs.Reports.{IsAnswer, IsReference, answer_octets, reference_octets}
use Rattle.gozdrit_relay.specs.Newest.{source_in}
use Rattle.gozdrit_relay.specs.declared.guard.Judgement.{Judgement}
use Rattle.gozdrit_relay.specs.declared.guard.Judgement.TheVariants.{Heard, Repairs, Lives, Asked, Unanswered, Past}

-- a datagram is heard as one of RTCP, or of RTP
abbrev pub HearsAs : (control : Bool) → Profile → (key salt came opened : List ℕ) → Type 0
HearsAs true profile key salt came opened = HearsControl (rtcp_keys profile key salt) came opened
HearsAs false profile key salt came opened = Hears (rtp_keys profile key salt) came opened

-- and leaves as one
abbrev pub LeavesAs : (control : Bool) → Profile → (key salt packet datagram : List ℕ) → Type 0
LeavesAs true profile key salt packet datagram = LeavesSealedControl (rtcp_keys profile key salt) packet datagram
LeavesAs false profile key salt packet datagram = LeavesSealed (rtp_keys profile key salt) packet datagram

-- the octets are no question of a receiver, and no answer to one
abbrev pub IsNoQuestion : List ℕ → Type 0
IsNoQuestion octets = (time : ReferenceTime) → IsReference time → octets ≡ reference_octets time → ⊥

abbrev pub IsNoAnswer : List ℕ → Type 0
IsNoAnswer octets = (answer : Answer) → IsAnswer answer → octets ≡ answer_octets answer → ⊥

-- Where anybody is heard: a receiver's question is one, and all else is heard.
abbrev pub JudgesAnybodyAs : (control : Bool) → (octets : List ℕ) → Judgement → Type 0
JudgesAnybodyAs false octets judgement = judgement ≡ Heard
JudgesAnybodyAs true octets Heard = IsNoQuestion octets
JudgesAnybodyAs true octets (Asked time) = octets ≡ reference_octets time
JudgesAnybodyAs true octets judgement = ⊥

abbrev pub JudgesAnybody : (octets : List ℕ) → Judgement → Type 0
JudgesAnybody octets judgement = JudgesAnybodyAs (is_control octets) octets judgement

-- RTCP where only those are heard who live: an answer is heard as one, and all else is the relay's.
abbrev pub JudgesControl : Living → (octets : List ℕ) → Judgement → Living → Type 0
JudgesControl old octets Heard new = IsNoAnswer octets × (new ≡ old)
JudgesControl old octets (Lives who) new = living.Hears old octets who new
JudgesControl old octets judgement new = ⊥

-- A packet of RTP there: of an SSRC that lives it is of its past, or the media's, which is heard, or one that repairs
-- media; what is too short for a packet is heard. Of another SSRC it is not, and its sender may be asked where as many
-- octets came as the question has under its tag, no sooner than a tenth of a second behind the last time.
abbrev pub AsksWhere : (has_room : Bool) → Living → (ssrc now : ℕ) → (asks : Bool) → Living → Type 0
AsksWhere false old ssrc now asks new = (asks ≡ false) × (new ≡ old)
AsksWhere true old ssrc now asks new = living.MayAsk old ssrc now asks new

abbrev pub judgement_of : Source → (index : ℕ) → Judgement
judgement_of source index =
    if nat_lt index source.first then Past else (if source.media == source.ssrc then Heard else Repairs source.media)

abbrev pub JudgesSource : Option Source → Living → (octets : List ℕ) → (index now : ℕ) → Judgement → Living → Type 0
JudgesSource (Some source) old octets index now judgement new = (judgement ≡ judgement_of source index) × (new ≡ old)
JudgesSource None old octets index now (Unanswered ssrc asks) new =
    (ssrc ≡ source_in octets) × AsksWhere (nat_le 24 (length octets)) old (source_in octets) now asks new
JudgesSource None old octets index now judgement new = ⊥

abbrev pub JudgesPacketWhere : (is_short : Bool) → Living → (octets : List ℕ) → (index now : ℕ) → Judgement → Living → Type 0
JudgesPacketWhere true old octets index now judgement new = (judgement ≡ Heard) × (new ≡ old)
JudgesPacketWhere false old octets index now judgement new =
    JudgesSource (living.source_of old.sources.items (source_in octets)) old octets index now judgement new

abbrev pub JudgesPacket : Living → (octets : List ℕ) → (index now : ℕ) → Judgement → Living → Type 0
JudgesPacket old octets index now judgement new = JudgesPacketWhere (nat_lt (length octets) 12) old octets index now judgement new

-- what there is to do with a datagram whose tag is right
abbrev pub JudgesOf : (control : Bool) → Living → (octets : List ℕ) → (index now : ℕ) → Judgement → Living → Type 0
JudgesOf true old octets index now judgement new = JudgesControl old octets judgement new
JudgesOf false old octets index now judgement new = JudgesPacket old octets index now judgement new

abbrev pub Judges : Option Living → (octets : List ℕ) → (index now : ℕ) → Judgement → Option Living → Type 0
Judges None octets index now judgement new = JudgesAnybody octets judgement × (new ≡ None)
Judges (Some old) octets index now judgement None = ⊥
Judges (Some old) octets index now judgement (Some new) = JudgesOf (is_control octets) old octets index now judgement new
