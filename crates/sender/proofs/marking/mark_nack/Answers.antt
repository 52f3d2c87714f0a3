use Rattle.std.proofs.Common.{rules, ◌≡◌, ℕ, false, List, sym, subst}
use Rattle.sender.specs.Feedback.{is_ours}
use Rattle.sender.specs.Marking.{MarksNumbers}
use Rattle.sender.proofs.MarkedNumbers.{marks_none}
use Rattle.sender.proofs.Ours.{not_our_numbers}
use Rattle.sender.proofs.marking.mark_nack.Goals as goal

pub returns-then-not-is_ours-clause-marks : goal.returns-then-not-is_ours-clause-marks
returns-then-not-is_ours-clause-marks g c =
    let config = c.args.config.now in
    let h = g.H.History.meaning c.args.history.now in
    let theirs : is_ours config c.args.nack.now ≡ false = search rules in
    subst (λ (numbers : List ℕ). MarksNumbers config.repeats numbers h 0 h) (sym (not_our_numbers config c.args.nack.now theirs)) (marks_none config.repeats h)
