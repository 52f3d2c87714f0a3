-- What stands behind the payload of a retransmission stands behind that of its packet.
use Rattle.std.proofs.Common.{◌≡◌, ◌∙◌, ℕ, ◌+◌, ◌-◌, ◌<◌, Bool, true, false, List, ◌++◌, length, take, Option, Some, None, if◌then◌else◌, refl, sym, subst, ap, ap₂, arith, length-append, get_or-append-add}
use Rattle.std.specs.Prelude.{nat_le, slice_index}
use Rattle.std.proofs.Math.Seq.{take-append-add}
use Rattle.std.proofs.lemmas.Option.{none-some}
use Rattle.byteorder.specs.Endian.{big_bytes}
use Rattle.rtpwire.specs.Retransmission.{IsRepair, Repair}
use Rattle.rtpwire.specs.Rtp.{RtpPacket}
use Rattle.payload_types.specs.Folding.{before, kept_in, of_repair, repair_on, under}
use Rattle.payload_types.specs.Types.{pair_of_media}
use Rattle.payload_types.specs.declared.types.TypePair.{TypePair}

last_of : (front rest : List ℕ) → 0 < length rest → length (front ++ rest) - 1 ≡ length front + (length rest - 1)
last_of front rest some = grind (arith, length-append)

kept_behind : (front rest : List ℕ) → 0 < length rest → kept_in (front ++ rest) ≡ kept_in rest
kept_behind front rest some = ap (slice_index (front ++ rest)) (last_of front rest some) ∙ get_or-append-add front rest (length rest - 1) 0

before_behind : (front rest : List ℕ) → 0 < length rest → before (front ++ rest) ≡ front ++ before rest
before_behind front rest some = ap (λ n. take n (front ++ rest)) (last_of front rest some) ∙ take-append-add front rest (length rest - 1)

long : (front rest : List ℕ) → length front ≡ 2 → 0 < length rest → nat_le 3 (length (front ++ rest)) ≡ true
long front rest two some = grind (arith, length-append)

where_long : (b : Bool) (x goal : Option RtpPacket) → b ≡ true → x ≡ goal → (if b then x else None) ≡ goal
where_long true x goal h e = e
where_long false x goal h e = cc

big_two : (n : ℕ) → length (big_bytes 2 n) ≡ 2
big_two n = refl

-- such a retransmission on the network, by the pair that was found for what stands behind its own payload
pub repair_is_on : (pairs : List TypePair) (view : RtpPacket) (r : Repair) (rest : List ℕ) (media : ℕ) (found : Option TypePair) → IsRepair r view
    → rest ≡ r.packet.payload → media ≡ kept_in rest → 0 < length rest → found ≡ pair_of_media pairs media → repair_on pairs view ≡ of_repair found view
repair_is_on pairs view r rest media found is own kept some e =
    let whole : view.payload ≡ big_bytes 2 r.original ++ rest = ap (λ (p : RtpPacket). p.payload) is.sent ∙ ap (λ l. big_bytes 2 r.original ++ l) (sym own) in
    where_long (nat_le 3 (length view.payload)) (of_repair (pair_of_media pairs (kept_in view.payload)) view) (of_repair found view)
    (subst (λ l. nat_le 3 (length l) ≡ true) (sym whole) (long (big_bytes 2 r.original) rest (big_two r.original) some))
    (ap (λ o. of_repair o view)
    (ap (pair_of_media pairs) (ap kept_in whole ∙ kept_behind (big_bytes 2 r.original) rest some ∙ sym kept) ∙ sym e))

-- its payload without the type
pub payload_is_before : (view : RtpPacket) (r : Repair) (rest payload : List ℕ) (original : ℕ) → IsRepair r view → rest ≡ r.packet.payload
    → payload ≡ before rest → 0 < length rest → original ≡ r.original → before view.payload ≡ big_bytes 2 original ++ payload
payload_is_before view r rest payload original is own e some number =
    let whole : view.payload ≡ big_bytes 2 r.original ++ rest = ap (λ (p : RtpPacket). p.payload) is.sent ∙ ap (λ l. big_bytes 2 r.original ++ l) (sym own) in
    ap before whole ∙ before_behind (big_bytes 2 r.original) rest some ∙ ap₂ (λ n l. big_bytes 2 n ++ l) (sym number) (sym e)

packet_in : (other : RtpPacket) → Option RtpPacket → RtpPacket
packet_in other None = other
packet_in other (Some p) = p

-- and so the packet that leaves
pub restored_is : (view p : RtpPacket) (pair : TypePair) (on : Option RtpPacket) (found : Option TypePair) (written : List ℕ)
    → on ≡ of_repair found view → found ≡ Some pair → before view.payload ≡ written → on ≡ Some p → under pair.repair written view ≡ p
unfolding packet_in
restored_is view p pair on found written is some same e =
    ap (λ l. under pair.repair l view) (sym same) ∙ ap (packet_in p) (ap (λ o. of_repair o view) (sym some) ∙ sym is ∙ e)

pub none_is_not : (view : RtpPacket) (pair : TypePair) (on : Option RtpPacket) (found : Option TypePair) → on ≡ of_repair found view → found ≡ Some pair
    → on ≡ None → ⊥
none_is_not view pair on found is some e = let same = ap (λ o. of_repair o view) (sym some) ∙ sym is ∙ e in absurd (none-some _ (sym same))

pub some_is_not : (view p : RtpPacket) (on : Option RtpPacket) (found : Option TypePair) → on ≡ of_repair found view → found ≡ None → on ≡ Some p → ⊥
some_is_not view p on found is none e = let same = ap (λ o. of_repair o view) (sym none) ∙ sym is ∙ e in absurd (none-some _ same)
