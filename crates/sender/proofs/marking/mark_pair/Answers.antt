use Rattle.std.proofs.Common.{rules, ◌<◌, ℕ, ◌+◌, List, [], ◌∷◌, sym, subst, ◌∙◌}
use Rattle.fbwire.specs.Nack.{masked_numbers, pair_numbers}
use Rattle.sender.specs.Marking.{MarksNumbers}
use Rattle.sender.proofs.MarkedNumbers.{marks_more, few}
use Rattle.sender.proofs.PassedBy.{nothing_marked}
use Rattle.sender.proofs.Stepping.{as_number}
use Rattle.sender.proofs.marking.mark_pair.Goals as goal

pub returns-then-has_none_of_17-clause-marks : goal.returns-then-has_none_of_17-clause-marks
returns-then-has_none_of_17-clause-marks g c =
    let h = g.H.History.meaning c.args.history.now in
    let is = g.met.H.History.is_past c.args.history.now in
    let pair = c.args.pair in
    let small : pair.pid < 65536 = search rules in
    let none = (c.history_by_place.ensures.none h pair.pid small).0 (search rules) in
    nothing_marked c.args.repeats h pair small none (λ n. c.history_by_place.ensures.find h n is)

-- of the PID, and then of the mask
pub returns-clause-marks : goal.returns-clause-marks
returns-clause-marks g c =
    let repeats = c.args.repeats in
    let pair = c.args.pair in
    let old = g.H.History.meaning c.args.history.now in
    let mid = g.H.History.meaning c.mark_number.new.history in
    let new = g.H.History.meaning c.mark_numbers.new.history in
    marks_more repeats (pair.pid ∷ []) (masked_numbers pair.pid pair.blp) old mid new c.from-first.result c.mark_numbers.result
    (subst (λ n. MarksNumbers repeats (pair.pid ∷ []) old n mid) (sym (c.from-first.ensures ∙ as_number c.mark_number.result)) c.mark_number.ensures.marks)
    (subst (λ (numbers : List ℕ). MarksNumbers repeats numbers mid c.mark_numbers.result new) c.masked.ensures c.mark_numbers.ensures.marks)

pub returns-clause-few : goal.returns-clause-few
returns-clause-few g c =
    let old = g.H.History.meaning c.args.history.now in
    let new = g.H.History.meaning c.mark_numbers.new.history in
    few c.args.repeats (pair_numbers c.args.pair) old new (c.from-first.result + c.mark_numbers.result) (g.met.H.History.is_past c.args.history.now) (returns-clause-marks g c)
