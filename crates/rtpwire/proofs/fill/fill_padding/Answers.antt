use Rattle.std.proofs.Common.{◌-◌, take, replicate, arith}
use Rattle.std.proofs.lemmas.List.{take-replicate}
use Rattle.rtpwire.proofs.Written.{zeros-counted}
use Rattle.rtpwire.proofs.fill.fill_padding.Goals as goal

pub returns-then-padding-gt0 : goal.returns-then-padding-gt0
returns-then-padding-gt0 c =
    let count = c.args.padding in
    let before = c.from-before.result - 1 in
    let same = c.from-before.ensures in
    let fits = c.ranges.padding in
    zeros-counted count before (take before (replicate 254 0)) c.args.out.now c.fill_front.new.out c.if-padding-gt0.true (omega arith) (omega arith) (omega arith)
    (take-replicate before 254 0 (omega arith)) c.fill_front.ensures
