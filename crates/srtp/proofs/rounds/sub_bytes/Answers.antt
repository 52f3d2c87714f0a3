use Rattle.srtp.proofs.ByTower.{lane_substituted}
use Rattle.srtp.proofs.States.{substituted}
use Rattle.srtp.proofs.rounds.sub_bytes.Goals as goal

pub returns : goal.returns
returns c =
    substituted _ _ (λ l lt. rw (c.affine_of.ensures, c.inverse_8.ensures, c.to_tower.ensures)
    (lane_substituted c.args.words.now l lt))
