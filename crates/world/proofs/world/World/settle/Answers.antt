use Rattle.world.proofs.world.World.settle.Goals as goal

pub returns-clause-promises : goal.returns-clause-promises
returns-clause-promises g c = c.logs_keep_promises.ensures _ c.keeps_log.ensures.limits _ _ c.keeps_log.ensures.logged
