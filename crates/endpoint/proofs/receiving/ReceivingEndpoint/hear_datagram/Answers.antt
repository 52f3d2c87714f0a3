use Rattle.std.proofs.Common.{◌∙◌, Bool, Some, List, ℕ, sym, subst}
use Rattle.endpoint.specs.Receiving.{HearsKind, HearsPacket, ends_of}
use Rattle.endpoint.proofs.receiving.ReceivingEndpoint.hear_datagram.Goals as goal

pub returns-in-Some-clause-hears : goal.returns-in-Some-clause-hears
returns-in-Some-clause-hears g c =
    let old = c.args.self.now in
    let new = c.hear_packet.new.self in
    let plain = c.in-Some.plain.items in
    let packet = subst (λ (xs : List ℕ). HearsPacket old.probation old.seen (ends_of old.core old.spare old.run) xs c.args.now c.hear_packet.result (ends_of new.core new.spare new.run)) c.as_slice.ensures.value c.hear_packet.ensures.hears in
    record {
      plain = Some plain;
      heard =
          subst (λ (b : Bool). HearsKind b old.probation old.seen (ends_of old.core old.spare old.run) (Some plain) c.args.octets.now c.args.now c.hear_packet.result (ends_of new.core new.spare new.run))
          (sym (sym c.is_control.ensures ∙ c.if-is_control.false)) (c.in-Some.ensures, packet);
    }
