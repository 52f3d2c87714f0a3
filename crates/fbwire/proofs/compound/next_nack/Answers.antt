use Rattle.std.proofs.Common.{ap, sym, ◌∙◌, ◌∷◌}
use Rattle.fbwire.specs.CompoundReading.{nacks_in}
use Rattle.fbwire.proofs.Walks.{cut_step, no_fault_there, nothing_read}
use Rattle.fbwire.proofs.compound.next_nack.Goals as goal

pub returns-in_default-packet : goal.returns-in_default-packet
returns-in_default-packet c =
    let gives = rw c.in_default-packet.is at c.in-Some.ensures.steps in
    absurd (no_fault_there c.loop-packet.packets.octets.now c.in_default-packet.field-0 c.loop-packet.invariant.walk gives.1 gives.0)

pub returns-then-is_nack : goal.returns-then-is_nack
returns-then-is_nack c =
    let gives = rw c.in-Ok.is at c.in-Some.ensures.steps in
    let cut = cut_step c.loop-packet.packets.octets.now c.in-Ok.packet.now c.next.new.self.octets.now c.loop-packet.invariant.walk gives in (
      c.loop-packet.invariant.same ∙ (cut.nack (sym c.is_nack.ensures ∙ c.if-is_nack.true)).1 ∙ ap (λ n. n ∷ nacks_in c.next.new.self.octets.now) (sym c.of_checked.ensures),
      cut.walk,
    )

pub loop-packet-preserved : goal.loop-packet-preserved
loop-packet-preserved c =
    let gives = rw c.in-Ok.is at c.in-Some.ensures.steps in
    let cut = cut_step c.loop-packet.packets.octets.now c.in-Ok.packet.now c.next.new.self.octets.now c.loop-packet.invariant.walk gives in
    record { walk = cut.walk; same = c.loop-packet.invariant.same ∙ cut.other (sym c.is_nack.ensures ∙ c.if-is_nack.false) }

pub returns : goal.returns
returns c = c.loop-packet.invariant.same ∙ nothing_read c.loop-packet.packets.octets.now c.in_default.ensures.steps
