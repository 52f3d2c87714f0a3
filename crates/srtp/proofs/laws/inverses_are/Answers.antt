use Rattle.srtp.proofs.Inverses.{inverse_is, inverse_of_0}
use Rattle.srtp.proofs.laws.inverses_are.Goals as goal

pub returns : goal.returns
returns c = record { inverse = inverse_is; none = inverse_of_0 }
