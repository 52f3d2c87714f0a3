-- Which kind is told of what.
use Rattle.std.proofs.Common.{rules, not, IsTrue, ◌≡◌, ◌≢◌, ℕ, Bool, true, false, List, Option, Some, None, Err, refl, sym, ap, subst, ◌∙◌}
use Rattle.places.specs.Place.{IsNear}
use Rattle.rtpwire.specs.declared.fault.RtpFault.TheVariants as rtp
use Rattle.rtpwire.specs.Retransmission.{Repair, IsRepair}
use Rattle.rtpwire.specs.Rtp.{RtpPacket, RtpSpells}
use Rattle.rtpwire.specs.Session.{Streams}
use Rattle.stores.specs.declared.slot.PutFault.{PutFault}
use Rattle.receiver.specs.declared.fault.ReceiveFault.TheVariants as refused
use Rattle.endpoint.specs.declared.kind.Kind.{Kind}
use Rattle.endpoint.specs.declared.kind.Kind.TheVariants.{Padding, Unasked, Usual}
use Rattle.endpoint.specs.Asked.{remembers}
use Rattle.endpoint.specs.Kinds.{IsAllPadding, IsForeign, IsKind, IsRepairOf, IsUnasked}

-- octets spell one packet, which is one retransmission, whose original has one place near the highest
abbrev pub One : Type 0
One = (p q : RtpPacket) (octets : List ℕ) → RtpSpells p octets → RtpSpells q octets → p ≡ q

abbrev pub OneRepair : Type 0
OneRepair = (r s : Repair) (packet : RtpPacket) → IsRepair r packet → IsRepair s packet → r ≡ s

abbrev pub OneNear : Type 0
OneNear = (highest seq p q : ℕ) → IsNear highest seq p → IsNear highest seq q → p ≡ q

module _ (cells : List (Option ℕ)) (s : Streams) (octets : List ℕ) where
  is_unasked : (highest : Option ℕ) (h q : ℕ) → highest ≡ Some h → IsRepairOf s h octets q → remembers cells q ≡ false → IsUnasked cells s highest octets
  is_unasked highest h q at repairs forgotten = subst (λ (o : Option ℕ). IsUnasked cells s o octets) (sym at) (record { place = q; repairs = repairs; forgotten = forgotten })

  pub told_unasked : (highest : Option ℕ) (fault : PutFault) (kind : Kind) → IsKind cells s highest octets (Err (refused.Put fault)) kind → (h q : ℕ) → highest ≡ Some h → IsRepairOf s h octets q → remembers cells q ≡ false → kind ≡ Unasked
  told_unasked highest fault Padding is h q at repairs forgotten = absurd is
  told_unasked highest fault Unasked is h q at repairs forgotten = refl
  told_unasked highest fault Usual is h q at repairs forgotten = absurd (is (is_unasked highest h q at repairs forgotten))

  module _ (one : One) where
    pub told_media : (highest : Option ℕ) (fault : PutFault) (kind : Kind) → IsKind cells s highest octets (Err (refused.Put fault)) kind → (packet : RtpPacket) → RtpSpells packet octets → packet.payload_type ≢ s.repair_type → kind ≡ Usual
    told_media highest fault Padding is packet spelled other = absurd is
    told_media None fault Unasked is packet spelled other = absurd is
    told_media (Some h) fault Unasked is packet spelled other =
        absurd (other (ap (λ (p : RtpPacket). p.payload_type) (one packet is.repairs.packet octets spelled is.repairs.spelled) ∙ is.repairs.original.typed))
    told_media highest fault Usual is packet spelled other = refl

    module _ (one_repair : OneRepair) (one_near : OneNear) where
      pub same_place : (h p q : ℕ) → IsRepairOf s h octets p → IsRepairOf s h octets q → p ≡ q
      same_place h p q a b =
          let packets = one a.packet b.packet octets a.spelled b.spelled in
          let repairs = one_repair a.original.repair b.original.repair b.packet (subst (IsRepair a.original.repair) packets a.original.is) b.original.is in
          one_near h b.original.repair.original p q (subst (λ (r : Repair). IsNear h r.original p) repairs a.original.near) b.original.near

      is_false : (b : Bool) → IsTrue (not b) → b ≡ false
      is_false true is = absurd cc
      is_false false is = refl

      pub tells_one : (h place : ℕ) (b : Bool) → IsRepairOf s h octets place → b ≡ remembers cells place
          → (IsTrue (not b) → IsForeign cells s h octets) × (IsForeign cells s h octets → IsTrue (not b))
      tells_one h place b repairs is = (
        λ is_true. record { place = place; repairs = repairs; forgotten = sym is ∙ is_false b is_true },
        λ it.
            let forgotten : b ≡ false = is ∙ ap (remembers cells) (same_place h place it.place repairs it.repairs) ∙ it.forgotten in
            subst (λ (x : Bool). IsTrue (not x)) (sym forgotten) (search rules),
      )

      pub told_usual : (highest : Option ℕ) (fault : PutFault) (kind : Kind) → IsKind cells s highest octets (Err (refused.Put fault)) kind → (h q : ℕ) → highest ≡ Some h → IsRepairOf s h octets q → remembers cells q ≡ true → kind ≡ Usual
      told_usual highest fault Padding is h q at repairs known = absurd is
      told_usual highest fault Usual is h q at repairs known = refl
      told_usual highest fault Unasked is h q at repairs known =
          let foreign : IsForeign cells s h octets = subst (λ (o : Option ℕ). IsUnasked cells s o octets) at is in
          let here : foreign.place ≡ q = same_place h foreign.place q foreign.repairs repairs in
          let clash : true ≡ false = sym known ∙ ap (remembers cells) (sym here) ∙ foreign.forgotten in
          absurd cc

  pub told_padding : (highest : Option ℕ) (kind : Kind) → IsKind cells s highest octets (Err (refused.Rtp rtp.NoOsn)) kind → IsAllPadding octets → kind ≡ Padding
  told_padding highest Padding is all = refl
  told_padding highest Unasked is all = absurd is
  told_padding highest Usual is all = absurd (is all)
