use Rattle.fbwire.proofs.OnePacking.{one_packing}
use Rattle.fbwire.proofs.packing.packing_is_determined.Goals as goal

pub returns : goal.returns
returns c = record { one = one_packing }
