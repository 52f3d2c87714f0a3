use Rattle.std.proofs.Common.{◌++◌}
use Rattle.world.proofs.Simulates.{Laws}
use Rattle.world.proofs.OnlyMends.{only_mends}
use Rattle.world.proofs.Rounds.{mends, mended_held}
use Rattle.world.proofs.laws.rounds_mend.Goals as goal

pub returns : goal.returns
returns c =
    let laws : Laws =
    record {
      media = c.hearing_is_determined.ensures.media;
      repair = c.hearing_is_determined.ensures.repair;
      nack = c.feedback_is_determined.ensures.alone;
      any = c.feedback_is_determined.ensures.any;
      decided = c.compound_is_determined.ensures.decided;
      one_nack = c.nack_is_determined.ensures.one_nack;
    } in
    record {
      mended = λ config met before past old answers close honest marks now events added new round adds place m.
          mends c.hearing_is_determined.ensures.any laws config met before past old answers close honest marks place now m events added new round adds;
      held = λ config met before past old answers close honest marks now events added new round adds place m.
          mended_held config (added ++ past) new place
          (mends c.hearing_is_determined.ensures.any laws config met before past old answers close honest marks place now m events added new round adds).0;
      only = λ config met before past old answers close honest now events added new round adds after place awaited m.
          only_mends c.hearing_is_determined.ensures.any laws config met before past old answers close honest now events added new round adds after place awaited m;
    }
