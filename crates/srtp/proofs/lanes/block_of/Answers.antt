use Rattle.srtp.proofs.Packing.{block_octets}
use Rattle.srtp.proofs.lanes.block_of.Goals as goal

pub returns : goal.returns
returns c = block_octets c.args.first c.args.second _ _ c.to_le_bytes.ensures c.to_le_bytes-2.ensures
