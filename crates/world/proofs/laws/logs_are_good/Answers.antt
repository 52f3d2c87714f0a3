use Rattle.world.proofs.Simulates.{Laws}
use Rattle.world.proofs.Headline.{good, plays_rightly}
use Rattle.world.proofs.laws.logs_are_good.Goals as goal

pub returns : goal.returns
returns c =
    let any = c.hearing_is_determined.ensures.any in
    let laws : Laws =
    record {
      media = c.hearing_is_determined.ensures.media;
      repair = c.hearing_is_determined.ensures.repair;
      nack = c.feedback_is_determined.ensures.alone;
      any = c.feedback_is_determined.ensures.any;
      decided = c.compound_is_determined.ensures.decided;
      one_nack = c.nack_is_determined.ensures.one_nack;
    } in
    let names = c.nack_is_determined.ensures.names in
    record { good = good any laws names; beginnings = plays_rightly any laws names }
