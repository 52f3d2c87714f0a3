use Rattle.std.proofs.Common.{◌∙◌, sym, refl}
use Rattle.lines.specs.ShowText.{packet, repair, no_repair}
use Rattle.lines.proofs.show_text.push_view.Goals as goal

pub returns-then-payload_type-ne-REPAIR_TYPE : goal.returns-then-payload_type-ne-REPAIR_TYPE
returns-then-payload_type-ne-REPAIR_TYPE g c =
    (_, packet (λ is. c.if-payload_type-ne-REPAIR_TYPE.true (c.payload_type.ensures ∙ is)), c.push_rtp.ensures)

pub returns-in-Ok : goal.returns-in-Ok
returns-in-Ok g c =
    let type = sym c.payload_type.ensures ∙ c.if-payload_type-ne-REPAIR_TYPE.false in
    (_, repair c.in-Ok.repair type c.in-Ok.ensures.is, c.push_rtx.ensures)

pub returns-in-Err : goal.returns-in-Err
returns-in-Err g c =
    let type = sym c.payload_type.ensures ∙ c.if-payload_type-ne-REPAIR_TYPE.false in
    let short = c.in-Err.ensures.no_osn.0 refl in
    (_, no_repair type short, rw (c.number.ensures, c.in-Err.ensures.fault) at c.push_refused.ensures)
