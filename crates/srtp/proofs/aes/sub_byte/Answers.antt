use Rattle.std.proofs.Common.{rules}
use Rattle.srtp.specs.Aes.{sub_byte}
use Rattle.srtp.proofs.aes.sub_byte.Goals as goal

pub returns : goal.returns
unfolding sub_byte
returns c = search rules
