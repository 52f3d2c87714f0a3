use Rattle.std.proofs.Common.{rules, ◌^◌, ◌<◌, refl}
use Rattle.sender.proofs.PassedBy.{all_unknown}
use Rattle.sender.proofs.counting.count_pair.Goals as goal

pub returns-then-has_none_of_17 : goal.returns-then-has_none_of_17
returns-then-has_none_of_17 g c =
    let h = g.H.History.meaning c.args.history.now in
    let pair = c.args.pair in
    let small : pair.pid < 65536 = search rules in
    let fits : c.count-count.result < 2 ^ 32 = search rules in
    let none = (c.history_by_place.ensures.none h pair.pid small).0 (search rules) in
    all_unknown c.args.repeats h pair small none c.count-count.result _ fits c.count-count.ensures refl
