use Rattle.endpoint.proofs.KindsTold.{tells_one}
use Rattle.endpoint.proofs.kind.is_foreign.Goals as goal

pub returns-in-Some : goal.returns-in-Some
returns-in-Some c =
    tells_one c.args.asked.now c.args.session.now c.args.octets.now c.spelling_is_determined.ensures.one c.repair_is_determined.ensures.one_packet c.near_is_determined.ensures.one c.args.highest c.in-Some.place
    c.remembers.result c.in-Some.ensures c.remembers.ensures

pub returns-in-None : goal.returns-in-None
returns-in-None c = (λ yes. absurd cc, λ it. absurd (c.in-None.ensures it.place it.repairs))
