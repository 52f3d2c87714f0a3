use Rattle.std.proofs.Common.{rules}
use Rattle.srtp.specs.Aes.{next_key}
use Rattle.srtp.proofs.aes.next_key.Goals as goal

pub returns : goal.returns
unfolding next_key
returns c = search rules
