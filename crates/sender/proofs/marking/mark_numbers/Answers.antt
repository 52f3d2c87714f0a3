use Rattle.std.proofs.Common.{◌≡◌, ℕ, ◌≤◌, Bool, true, false, List, [], ◌∷◌, ◌++◌, sym, ap, subst, ◌∙◌, arith, append-nil, append_assoc}
use mir.Val.{bool_byte}
use Rattle.sender.specs.Marking.{MarksNumbers}
use Rattle.sender.proofs.MarkedNumbers.{marks_none, marks_more, few}
use Rattle.sender.proofs.Stepping.{as_number}
use Rattle.sender.proofs.marking.mark_numbers.Goals as goal

pub loop-number-init : goal.loop-number-init
loop-number-init g c = record { all = sym c.into_iter-number-iterator.ensures.into_iter_gives; marks = marks_none c.args.repeats (g.H.History.meaning c.args.history.now) }

at_most_one : (b : Bool) → bool_byte b ≤ 1
at_most_one true = omega arith
at_most_one false = omega arith

pub overflow_add-count : goal.overflow_add-count
overflow_add-count g c =
    let most = few c.args.repeats c.loop-number.yielded (g.H.History.meaning c.args.history.now) (g.H.History.meaning c.loop-number.history) c.loop-number.count (g.met.H.History.is_past c.args.history.now) c.loop-number.invariant.marks in
    let one = at_most_one c.mark_number.result in
    let is = c.from-count.ensures in
    omega (arith, most, one, is)

pub loop-number-preserved : goal.loop-number-preserved
loop-number-preserved g c =
    let before = c.loop-number.yielded in
    let this = c.in-Some.number ∷ [] in
    record {
      all = c.loop-number.invariant.all ∙ ap (λ (left : List ℕ). before ++ left) c.in-Some.ensures.steps ∙ sym (append_assoc before this c.next.new.self);
      marks =
          marks_more c.args.repeats before this (g.H.History.meaning c.args.history.now) (g.H.History.meaning c.loop-number.history) (g.H.History.meaning c.mark_number.new.history)
          c.loop-number.count c.from-count.result c.loop-number.invariant.marks
          (subst (λ n. MarksNumbers c.args.repeats this (g.H.History.meaning c.loop-number.history) n (g.H.History.meaning c.mark_number.new.history))
          (sym (c.from-count.ensures ∙ as_number c.mark_number.result)) c.mark_number.ensures.marks);
    }

pub returns : goal.returns
returns g c =
    let old = g.H.History.meaning c.args.history.now in
    let new = g.H.History.meaning c.loop-number.history in
    let done : c.args.numbers ≡ c.loop-number.yielded =
    c.loop-number.invariant.all ∙ ap (λ (left : List ℕ). c.loop-number.yielded ++ left) c.in-None.ensures.steps.0 ∙ append-nil c.loop-number.yielded in
    record {
      marks = subst (λ (numbers : List ℕ). MarksNumbers c.args.repeats numbers old c.loop-number.count new) (sym done) c.loop-number.invariant.marks;
      few = few c.args.repeats c.loop-number.yielded old new c.loop-number.count (g.met.H.History.is_past c.args.history.now) c.loop-number.invariant.marks;
    }
