use Rattle.world.proofs.Order.{ordered}
use Rattle.world.proofs.LeftOut.{gone_exactly}
use Rattle.world.proofs.Strictly.{strictly}
use Rattle.world.proofs.laws.logs_are_in_order.Goals as goal

pub returns : goal.returns
returns c =
    let order = ordered c.hearing_is_determined.ensures.any in
    record {
      rising = λ config events past end answers. (order config events past end answers).rising;
      finals = λ config events past end answers. (order config events past end answers).final;
      strictly = λ config events past end answers. strictly config past (order config events past end answers).rising;
      gone = λ config events past end answers. gone_exactly config past (order config events past end answers).rising;
    }
