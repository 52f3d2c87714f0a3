use Rattle.std.proofs.Common.{◌++◌, length, ap}
use Rattle.std.proofs.lemmas.List.{drop-replicate}
use Rattle.srtp.proofs.hmac.filled_up.Goals as goal

pub returns : goal.returns
returns c = rw c.copy_from_slice.ensures.after (ap (λ r. c.args.key.now ++ r) (drop-replicate (length c.args.key.now) 64 0))
