use Rattle.std.proofs.Common.{◌≡◌, List, subst}
use Rattle.payload_types.specs.Types.{pair_of_media}
use Rattle.payload_types.specs.declared.types.TypePair.{TypePair}
use Rattle.payload_types.proofs.Pairs.{media_behind_fits}
use Rattle.payload_types.proofs.types.PayloadTypes.of_media.Goals as goal

pub returns-clause-fits : goal.returns-clause-fits
returns-clause-fits c =
    let is = subst (λ (l : List TypePair). c.pair_of_media.result ≡ pair_of_media l c.args.media) c.deref.ensures.0 c.pair_of_media.ensures in
    media_behind_fits c.self.inside.first c.self.inside.others.items c.args.media c.pair_of_media.result c.self.invariant.right is
