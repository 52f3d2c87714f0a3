use Rattle.std.proofs.Common.{refl}
use Rattle.stores.proofs.BitRanges.{mask_bit}
use Rattle.stores.proofs.bits.mask.Goals as goal

pub returns : goal.returns
returns c = λ k small. mask_bit c.args.low c.args.high _ k c.requires.some c.requires.limit small refl
