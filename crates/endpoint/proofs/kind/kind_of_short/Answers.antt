use Rattle.endpoint.proofs.kind.kind_of_short.Goals as goal

pub returns-in-None : goal.returns-in-None
returns-in-None c = λ all. c.in-None.ensures all.0 all.1
