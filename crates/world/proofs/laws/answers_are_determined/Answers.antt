use Rattle.std.proofs.Common.{ap}
use Rattle.world.specs.Answers.{WorldState}
use Rattle.world.proofs.SameSteps.{Laws}
use Rattle.world.proofs.Determined.{determined}
use Rattle.world.proofs.laws.answers_are_determined.Goals as goal

pub returns : goal.returns
returns c =
    let laws : Laws = record { one_sending = c.sending_is_determined.ensures; one_hearing = c.hearing_is_determined.ensures.one; one_marking = c.feedback_is_determined.ensures.one; one_repairing = c.repairing_is_determined.ensures; one_asking = c.asking_is_determined.ensures; one_nack = c.nack_is_determined.ensures.one_nack; one_play = c.playing_is_determined.ensures } in
    record {
      log = λ config events one other end stop a b. (determined laws config events one other end stop a b).0;
      wire = λ config events one other end stop a b. ap (λ (s : WorldState). s.wire) (determined laws config events one other end stop a b).1;
      end = λ config events one other end stop a b. (determined laws config events one other end stop a b).1;
    }
