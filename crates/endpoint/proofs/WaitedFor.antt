-- What is waited for is no jump.
use Rattle.std.proofs.Common.{◌≡◌, ℕ, ◌+◌, ◌-◌, ◌<◌, ◌≤◌, ◌&&◌, true, List, length, slice_get, nat_lt, Option, Some, None, Result, sym, ap, subst, ◌∙◌, arith, inl, inr, if◌then◌else◌}
use Rattle.std.proofs.lemmas.Bool.{cases_Bool}
use Rattle.std.proofs.lemmas.Option.{none-some, same_Some, slice_get_within}
use Rattle.std.specs.Option.{option_map}
use Rattle.places.specs.Place.{IsNear}
use Rattle.rtpwire.specs.Rtp.{RtpPacket, RtpSpells}
use Rattle.stores.specs.declared.slot.Slot.{Slot}
use Rattle.stores.specs.declared.slot.Slot.TheVariants.{Missing}
use Rattle.stores.specs.Asking.{is_missing}
use Rattle.stores.specs.ByPlace.{slot_at, slot_at_cursor}
use Rattle.stores.specs.Span.{Span, highest_of}
use Rattle.receiver.specs.declared.fault.ReceiveFault.{ReceiveFault}
use Rattle.endpoint.specs.declared.heard.Heard.{Heard}
use Rattle.endpoint.specs.declared.probation.Probation.{Probation}
use Rattle.endpoint.specs.Asked.{asked_at}
use Rattle.endpoint.specs.Probation.{wanted_for}
use Rattle.endpoint.specs.Seen.{is_repeat}
use Rattle.endpoint.specs.declared.seen_packets.SeenPacket.{SeenPacket}
use Rattle.endpoint.specs.Receiving.{Believes, Ends, HearsPacket, HearsUnless, is_awaited, media_number_of, wanted_at, wanted_behind}

-- a place that has a slot lies no higher than the highest one
below_at : (cursor : Option ℕ) (slots : List Slot) (highest q : ℕ) (slot : Slot) → option_map (λ k. k + length slots - 1) cursor ≡ Some highest → slot_at_cursor cursor slots q ≡ Some slot → q ≤ highest
below_at None slots highest q slot is at = absurd (none-some highest is)
below_at (Some k) slots highest q slot is at = elim (cases_Bool (nat_lt q k)) [
  | inl before ↦ absurd (none-some slot (ap (λ b. if b then None else slice_get slots (q - k)) (sym before) ∙ at))
  | inr behind ↦
      let within : q - k < length slots = slice_get_within slots (q - k) slot (ap (λ b. if b then None else slice_get slots (q - k)) (sym behind) ∙ at) in
      let last : k + length slots - 1 ≡ highest = same_Some _ _ is in
      omega (arith, within, last)
]

awaited_at : (s : Span) (highest seq place noticed asks last : ℕ) → highest_of s ≡ Some highest → IsNear highest seq place → slot_at s place ≡ Some (Missing noticed asks last) → is_awaited s highest seq ≡ true
awaited_at s highest seq place noticed asks last is near at =
    let below : place ≤ highest = below_at s.cursor s.slots highest place (Missing noticed asks last) is at in
    let same : asked_at highest seq ≡ place = omega (arith, near.same_number, near.not_below, below) in
    ap (λ k. is_missing (slot_at s k)) same ∙ ap is_missing at

none_wanted : (p : Probation) (s : Span) (highest seq : ℕ) → highest_of s ≡ Some highest → is_awaited s highest seq ≡ true → wanted_at p s (Some seq) ≡ 0
none_wanted p s highest seq is awaited =
    ap (λ (h : Option ℕ). wanted_behind p s h seq) is ∙ ap (λ b. if b then 0 else wanted_for p highest seq) awaited

pub awaited_believed : (p : Probation) (seen : List (Option SeenPacket)) (old new : Ends) (packet : RtpPacket) (octets : List ℕ) (now : ℕ) (answer : Result Heard ReceiveFault)
    → HearsPacket p seen old octets now answer new → RtpSpells packet octets → media_number_of old.core.config.session packet ≡ Some packet.sequence
    → (highest place noticed asks last : ℕ) → highest_of old.core.span ≡ Some highest → IsNear highest packet.sequence place
    → slot_at old.core.span place ≡ Some (Missing noticed asks last)
    → Believes p old (Some packet.sequence) octets now answer new
awaited_believed p seen old new packet octets now answer hears spelled media highest place noticed asks last is near at =
    let number : hears.number ≡ Some packet.sequence = hears.is_number packet spelled ∙ media in
    let heard : HearsUnless (nat_lt 0 (wanted_at p old.core.span (Some packet.sequence)) && is_repeat seen (Some packet.sequence) octets) p old (wanted_at p old.core.span (Some packet.sequence)) (Some packet.sequence) octets now answer new =
    subst (λ (n : Option ℕ). HearsUnless (nat_lt 0 (wanted_at p old.core.span n) && is_repeat seen n octets) p old (wanted_at p old.core.span n) n octets now answer new) number hears.heard in
    let awaited = awaited_at old.core.span highest packet.sequence place noticed asks last is near at in
    subst (λ (w : ℕ). HearsUnless (nat_lt 0 w && is_repeat seen (Some packet.sequence) octets) p old w (Some packet.sequence) octets now answer new) (none_wanted p old.core.span highest packet.sequence is awaited) heard
