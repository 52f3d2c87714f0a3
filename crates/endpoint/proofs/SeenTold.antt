-- What was taken is remembered, and begins nothing again.
use Rattle.std.proofs.Common.{◌≡◌, ◌⊎◌, ◌%◌, ◌<◌, ◌&&◌, ℕ, zero, suc, Bool, true, false, nat_lt, List, [], ◌∷◌, ◌++◌, length, drop, get_or, Option, Some, None, Result, Err, inl, inr, sym, ap, subst, ◌∙◌, arith, if◌then◌else◌}
use Rattle.std.proofs.lemmas.Bool.Decides.{nat_tests}
use Rattle.std.proofs.lemmas.List.{get_or-set_same, get_or-set_other, length-set}
use Rattle.std.proofs.lemmas.Nat.{mod_below}
use Rattle.byteorder.specs.Endian.{big_bytes, big_number}
use Rattle.byteorder.specs.Numbers.{big_number-reads_back}
use Rattle.rtpwire.specs.Rtp.{RtpPacket, RtpSpells, extension_octets, unpadded, word_octets}
use Rattle.stores.specs.declared.slot.PutFault.TheVariants.{Late}
use Rattle.receiver.specs.Config.{Config}
use Rattle.receiver.specs.declared.fault.ReceiveFault.{ReceiveFault}
use Rattle.receiver.specs.declared.fault.ReceiveFault.TheVariants as refused
use Rattle.endpoint.specs.declared.heard.Heard.{Heard}
use Rattle.endpoint.specs.declared.probation.Probation.{Probation}
use Rattle.endpoint.specs.declared.seen_packets.SeenPacket.{SeenPacket}
use Rattle.endpoint.specs.Events.{Event, Endpoint, RunsOver, heard, played, asked, begun_at, restarted_by_call, unlearnt_by_call, timed}
use Rattle.endpoint.specs.Receiving.{Believes, Ends, HearsPacket, HearsUnless, media_number_of, wanted_at}
use Rattle.endpoint.specs.Seen.{is_packet, is_repeat, seen_after, timestamp_in, was_seen, with_packet}
use Rattle.endpoint.specs.SeenRuns.{seen_of}

-- the timestamp stands at the fifth octet
pub timestamp_spelled : (p : RtpPacket) (octets : List ℕ) → RtpSpells p octets → timestamp_in octets ≡ p.timestamp
timestamp_spelled p octets spells =
    let long : nat_lt (length (unpadded p ++ spells.padding)) 8 ≡ false = grind (arith, nat_tests) in
    ap timestamp_in spells.spelled
    ∙ ap (λ b. if b then 0 else big_number 4 (drop 4 (unpadded p ++ spells.padding))) long
    ∙ big_number-reads_back 4 p.timestamp (((big_bytes 4 p.ssrc ++ (word_octets p.sources ++ extension_octets p.extension)) ++ p.payload) ++ spells.padding) spells.packet.timestamp

unless : (wanted : ℕ) (repeat : Bool) (p : Probation) (old new : Ends) (seq : ℕ) (octets : List ℕ) (now : ℕ) (answer : Result Heard ReceiveFault) → repeat ≡ true
    → HearsUnless (nat_lt 0 wanted && repeat) p old wanted (Some seq) octets now answer new
    → Believes p old (Some seq) octets now answer new ⊎ ((answer ≡ Err (refused.Put Late)) × (new ≡ old))
unless zero repeat p old new seq octets now answer is hears = inl hears
unless (suc more) true p old new seq octets now answer is hears =
    let some : nat_lt 0 (suc more) ≡ true = grind (arith, nat_tests) in
    inr (subst (λ b. HearsUnless (b && true) p old (suc more) (Some seq) octets now answer new) some hears)
unless (suc more) false p old new seq octets now answer is hears = absurd cc

pub begins_nothing : (p : Probation) (seen : List (Option SeenPacket)) (old new : Ends) (packet : RtpPacket) (octets : List ℕ) (now : ℕ) (answer : Result Heard ReceiveFault)
    → HearsPacket p seen old octets now answer new → RtpSpells packet octets → media_number_of old.core.config.session packet ≡ Some packet.sequence
    → was_seen seen packet.sequence packet.timestamp ≡ true
    → Believes p old (Some packet.sequence) octets now answer new ⊎ ((answer ≡ Err (refused.Put Late)) × (new ≡ old))
begins_nothing p seen old new packet octets now answer hears spelled media was =
    let number : hears.number ≡ Some packet.sequence = hears.is_number packet spelled ∙ media in
    let heard : HearsUnless (nat_lt 0 (wanted_at p old.core.span (Some packet.sequence)) && is_repeat seen (Some packet.sequence) octets) p old (wanted_at p old.core.span (Some packet.sequence)) (Some packet.sequence) octets now answer new =
    subst (λ (n : Option ℕ). HearsUnless (nat_lt 0 (wanted_at p old.core.span n) && is_repeat seen n octets) p old (wanted_at p old.core.span n) n octets now answer new) number hears.heard in
    unless (wanted_at p old.core.span (Some packet.sequence)) (is_repeat seen (Some packet.sequence) octets) p old new packet.sequence octets now answer
    (ap (was_seen seen packet.sequence) (timestamp_spelled packet octets spelled) ∙ was) heard

pub remembered : (c : Config) (capacity : ℕ) (p : Probation) (events : List Event) (e : Endpoint) → RunsOver c capacity p events e → e.seen ≡ seen_of events
remembered c capacity p [] e runs = ap (λ (x : Endpoint). x.seen) runs
remembered c capacity p (heard octets now answer ∷ before) e runs = runs.steps.seen ∙ ap (seen_after answer octets) (remembered c capacity p before runs.old runs.before)
remembered c capacity p (played now answer ∷ before) e runs = runs.steps.rest.seen ∙ remembered c capacity p before runs.old runs.before
remembered c capacity p (asked now most answer places ∷ before) e runs = runs.steps.rest.seen ∙ remembered c capacity p before runs.old runs.before
remembered c capacity p (begun_at first ∷ before) e runs = runs.steps.rest.seen ∙ remembered c capacity p before runs.old runs.before
remembered c capacity p (restarted_by_call ∷ before) e runs = runs.steps.seen ∙ remembered c capacity p before runs.old runs.before
remembered c capacity p (unlearnt_by_call ∷ before) e runs = runs.steps.rest.seen ∙ remembered c capacity p before runs.old runs.before
remembered c capacity p (timed patience delay retry ∷ before) e runs = runs.steps.seen ∙ remembered c capacity p before runs.old runs.before

same_packet : (number timestamp : ℕ) → is_packet (Some (record { number = number; timestamp = timestamp })) number timestamp ≡ true
same_packet number timestamp = grind (arith, nat_tests)

pub kept : (cells : List (Option SeenPacket)) (number timestamp : ℕ) → 0 < length cells → was_seen (with_packet cells number timestamp) number timestamp ≡ true
kept cells number timestamp some =
    let packet : Option SeenPacket = Some (record { number = number; timestamp = timestamp }) in
    let size : length (with_packet cells number timestamp) ≡ length cells = length-set cells (number % length cells) packet in
    ap (λ n. is_packet (get_or (with_packet cells number timestamp) (number % n) None) number timestamp) size
    ∙ ap (λ (o : Option SeenPacket). is_packet o number timestamp) (get_or-set_same cells (number % length cells) packet None (mod_below number (length cells) some))
    ∙ same_packet number timestamp

pub others : (cells : List (Option SeenPacket)) (number timestamp other stamp : ℕ) → (number % length cells ≡ other % length cells → ⊥) → was_seen (with_packet cells number timestamp) other stamp ≡ was_seen cells other stamp
others cells number timestamp other stamp apart =
    let packet : Option SeenPacket = Some (record { number = number; timestamp = timestamp }) in
    let size : length (with_packet cells number timestamp) ≡ length cells = length-set cells (number % length cells) packet in
    ap (λ n. is_packet (get_or (with_packet cells number timestamp) (other % n) None) other stamp) size
    ∙ ap (λ (o : Option SeenPacket). is_packet o other stamp) (get_or-set_other cells (number % length cells) (other % length cells) packet None (λ same. apart (sym same)))
