use Rattle.endpoint.proofs.Believed.{believed}
use Rattle.endpoint.proofs.laws.core_has_what_is_believed.Goals as goal

pub returns : goal.returns
returns c = λ config capacity. believed capacity config
