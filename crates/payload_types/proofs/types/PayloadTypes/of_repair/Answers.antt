use Rattle.std.proofs.Common.{◌≡◌, List, subst}
use Rattle.payload_types.specs.Types.{pair_of_repair}
use Rattle.payload_types.specs.declared.types.TypePair.{TypePair}
use Rattle.payload_types.proofs.Pairs.{repair_behind_fits}
use Rattle.payload_types.proofs.types.PayloadTypes.of_repair.Goals as goal

pub returns-clause-fits : goal.returns-clause-fits
returns-clause-fits c =
    let is = subst (λ (l : List TypePair). c.pair_of_repair.result ≡ pair_of_repair l c.args.repair) c.deref.ensures.0 c.pair_of_repair.ensures in
    repair_behind_fits c.self.inside.first c.self.inside.others.items c.args.repair c.pair_of_repair.result c.self.invariant.right is
