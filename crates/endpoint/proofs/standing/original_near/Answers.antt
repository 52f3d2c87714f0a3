use Rattle.std.proofs.Common.{sym, ◌∙◌}
use Rattle.endpoint.proofs.standing.original_near.Goals as goal

pub returns-else-has_type : goal.returns-else-has_type
returns-else-has_type c q is = c.has_type.ensures c.if-has_type.false is.packet is.spelled (is.original.typed ∙ sym c.repair_type.ensures.value)
