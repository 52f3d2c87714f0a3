use Rattle.world.proofs.Refusals.{few, none}
use Rattle.world.proofs.laws.refusals_are_few.Goals as goal

pub returns : goal.returns
returns c =
    let good = c.logs_are_good.ensures.good in
    record {
      packets = λ config met events past end answers close honest later before index label now fault is. few config past later before index label now fault is (good config met events past end answers close honest).refusals;
      feedback = λ config met events past end answers close honest later before index label now fault is. none config past later before index label now fault is (good config met events past end answers close honest).refusals;
    }
