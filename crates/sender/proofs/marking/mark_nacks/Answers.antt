use Rattle.std.proofs.Common.{◌≡◌, ℕ, ◌+◌, List, [], ◌∷◌, ◌++◌, sym, ap, subst, ◌∙◌, arith, append-nil, append_assoc}
use Rattle.fbwire.specs.Nack.{Nack}
use Rattle.sender.specs.Marking.{MarksNumbers}
use Rattle.sender.specs.Shared.{our_numbers}
use Rattle.sender.proofs.MarkedNumbers.{marks_none, marks_more, few}
use Rattle.sender.proofs.Ours.{our_numbers_more}
use Rattle.sender.proofs.marking.mark_nacks.Goals as goal

pub loop-nack-init : goal.loop-nack-init
loop-nack-init g c = record { all = sym c.into_iter-nack-iterator.ensures.into_iter_gives; marks = marks_none c.args.config.now.repeats (g.H.History.meaning c.args.history.now) }

pub overflow_add-count : goal.overflow_add-count
overflow_add-count g c =
    let config = c.args.config.now in
    let most = few config.repeats (our_numbers config c.loop-nack.yielded) (g.H.History.meaning c.args.history.now) (g.H.History.meaning c.loop-nack.history) c.loop-nack.count (g.met.H.History.is_past c.args.history.now) c.loop-nack.invariant.marks in
    let more = c.mark_nack-count.ensures.few in
    omega (arith, most, more)

pub loop-nack-preserved : goal.loop-nack-preserved
loop-nack-preserved g c =
    let config = c.args.config.now in
    let before = c.loop-nack.yielded in
    let this = c.in-Some.nack ∷ [] in
    let old = g.H.History.meaning c.args.history.now in
    let new = g.H.History.meaning c.mark_nack-count.new.history in
    let count = c.loop-nack.count + c.mark_nack-count.result in
    record {
      all = c.loop-nack.invariant.all ∙ ap (λ (left : List Nack). before ++ left) c.in-Some.ensures.steps ∙ sym (append_assoc before this c.next.new.self);
      marks =
          subst (λ (numbers : List ℕ). MarksNumbers config.repeats numbers old count new) (sym (our_numbers_more config before this))
          (marks_more config.repeats (our_numbers config before) (our_numbers config this) old (g.H.History.meaning c.loop-nack.history) new
          c.loop-nack.count c.mark_nack-count.result c.loop-nack.invariant.marks c.mark_nack-count.ensures.marks);
    }

pub returns : goal.returns
returns g c =
    let config = c.args.config.now in
    let old = g.H.History.meaning c.args.history.now in
    let new = g.H.History.meaning c.loop-nack.history in
    let done : c.args.nacks ≡ c.loop-nack.yielded =
    c.loop-nack.invariant.all ∙ ap (λ (left : List Nack). c.loop-nack.yielded ++ left) c.in-None.ensures.steps.0 ∙ append-nil c.loop-nack.yielded in
    subst (λ (nacks : List Nack). MarksNumbers config.repeats (our_numbers config nacks) old c.loop-nack.count new) (sym done) c.loop-nack.invariant.marks
