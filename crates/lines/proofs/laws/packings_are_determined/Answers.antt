use Rattle.lines.proofs.AskLemmas.{one_run}
use Rattle.lines.proofs.laws.packings_are_determined.Goals as goal

pub returns : goal.returns
returns c = one_run c.nack_is_determined.ensures.one_spelling c.packing_is_determined.ensures.one
