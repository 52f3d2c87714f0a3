use Rattle.endpoint.proofs.SeenTold.{begins_nothing, kept, others, remembered}
use Rattle.endpoint.proofs.laws.repeats_begin_nothing.Goals as goal

pub returns-clause-nothing : goal.returns-clause-nothing
returns-clause-nothing c = begins_nothing

pub returns-clause-remembered : goal.returns-clause-remembered
returns-clause-remembered c = λ config capacity. remembered config capacity

pub returns-clause-kept : goal.returns-clause-kept
returns-clause-kept c = kept

pub returns-clause-others : goal.returns-clause-others
returns-clause-others c = others
