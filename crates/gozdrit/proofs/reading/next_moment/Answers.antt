use Rattle.std.proofs.Common.{◌∙◌}
use Rattle.gozdrit.proofs.PutBack.{put_back}
use Rattle.gozdrit.proofs.reading.next_moment.Goals as goal

pub returns-clause-same : goal.returns-clause-same
returns-clause-same c = put_back _ _ c.lend.ensures.value ∙ c.is_held.ensures.1
