use Rattle.srtp.proofs.Packing.{columns_are}
use Rattle.srtp.proofs.lanes.columns.Goals as goal

pub returns : goal.returns
returns c = columns_are c.args.block.now c.args.c _ c.fits-block c.from_le_bytes.ensures
