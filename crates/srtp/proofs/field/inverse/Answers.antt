use Rattle.std.proofs.Common.{rules}
use Rattle.srtp.specs.Field.{inverse}
use Rattle.srtp.proofs.field.inverse.Goals as goal

pub returns : goal.returns
unfolding inverse
returns c = search rules
