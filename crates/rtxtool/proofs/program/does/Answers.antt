use Rattle.rtxtool.proofs.EndLemmas.{stops_show, stops_sim}
use Rattle.rtxtool.proofs.program.does.Goals as goal

pub returns-in-Some-clause-err : goal.returns-in-Some-clause-err
returns-in-Some-clause-err g c =
    rw c.in-Sim.is (stops_sim c.in-Err.fault c.in-Sim.path.now (g.O.Outside.known c.args.outside.now) _ _ _ c.in-Some.ensures.octets c.in-Some.ensures.opens c.in-Err.ensures.err)

pub returns-in-Some-open-clause-err : goal.returns-in-Some-open-clause-err
returns-in-Some-open-clause-err g c =
    rw c.in-Show.is (stops_show c.in-Err-show.fault c.in-Show.path.now (g.O.Outside.known c.args.outside.now) _ _ _ c.in-Some-open.ensures.octets c.in-Some-open.ensures.opens c.in-Err-show.ensures.err)
