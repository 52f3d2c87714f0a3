use Rattle.receiver.proofs.InOrder.{Laws, in_order}
use Rattle.receiver.proofs.laws.hearing_is_in_order.Goals as goal

pub returns : goal.returns
returns c =
    let laws : Laws =
    record {
      rtp_order = c.checks_are_in_order.ensures;
      passes = c.spelling_is_determined.ensures.passes;
      seen = c.spelling_is_determined.ensures.only_seen;
      number = c.repair_is_determined.ensures.number;
      rest = c.repair_is_determined.ensures.rest;
    } in
    λ room config old octets now answer new hears. in_order laws room config old now answer new octets hears
