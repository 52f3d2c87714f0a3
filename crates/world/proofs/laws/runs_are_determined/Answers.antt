use Rattle.world.proofs.SamePlaces.{Laws, one_run}
use Rattle.world.proofs.laws.runs_are_determined.Goals as goal

pub returns : goal.returns
returns c =
    let laws : Laws = record { decided = c.compound_is_determined.ensures.decided; one_packing = c.packing_is_determined.ensures.one; one_play = c.playing_is_determined.ensures } in
    one_run laws
