use Rattle.std.proofs.Common.{◌^◌, ◌<◌, rules, sym}
use Rattle.fbwire.proofs.MaskCounts.{pair_count}
use Rattle.fbwire.proofs.nack.Pair.count.Goals as goal

pub returns : goal.returns
returns c =
    let fits : c.args.self.blp < 2 ^ 16 = search rules in
    sym (pair_count c.args.self fits)
