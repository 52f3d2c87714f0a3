use Rattle.endpoint.proofs.Fallen.{one, two}
use Rattle.endpoint.proofs.asking_laws.a_source_falls_to_one_that_repairs.Goals as goal

pub returns-clause-two : goal.returns-clause-two
returns-clause-two c = two c.spelling_is_determined.ensures.one c.repair_is_determined.ensures.one_packet c.near_is_determined.ensures.one

pub returns-clause-one : goal.returns-clause-one
returns-clause-one c = one c.spelling_is_determined.ensures.one c.repair_is_determined.ensures.one_packet c.near_is_determined.ensures.one
