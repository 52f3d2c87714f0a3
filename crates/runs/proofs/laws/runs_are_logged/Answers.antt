use Rattle.runs.specs.Scene.{new_scene}
use Rattle.runs.proofs.LoggedSteps.{new_logged, goes_logged, blocks_logged}
use Rattle.runs.proofs.laws.runs_are_logged.Goals as goal

pub returns-clause-reached : goal.returns-clause-reached
returns-clause-reached cx c plan phase next new told telling r = goes_logged c plan r.count phase next (new_scene c) new r.moved (new_logged c) r.goes

pub returns-clause-stopped : goal.returns-clause-stopped
returns-clause-stopped cx c plan phase new told telling r = goes_logged c plan r.count phase r.next (new_scene c) new r.moved (new_logged c) r.goes

pub returns-clause-drawn : goal.returns-clause-drawn
returns-clause-drawn cx c loss packets stream end r = blocks_logged c loss 0 r.sizes stream (new_scene c) end (new_logged c) r.blocks
