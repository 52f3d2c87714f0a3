use Rattle.std.proofs.Common.{sym, arith}
use Rattle.std.proofs.lemmas.List.{length-take-le, take_all}
use Rattle.gozdrit_relay.proofs.asking.front.Goals as goal

pub slice_bounds-result-end : goal.slice_bounds-result-end
slice_bounds-result-end c = sym (length-take-le c.args.most c.args.octets.now (omega (arith, c.if-octets-most.true)))

pub returns-else-octets-most : goal.returns-else-octets-most
returns-else-octets-most c = sym (take_all c.args.most c.args.octets.now c.if-octets-most.false)
