use Rattle.std.proofs.Common.{◌≡◌, ℕ, ◌+◌, List, [], ◌∷◌, ◌++◌, sym, ap, subst, ◌∙◌, arith, append-nil, append_assoc}
use Rattle.fbwire.specs.declared.nack.Pair.{Pair}
use Rattle.fbwire.specs.Nack.{pair_numbers, numbers_of}
use Rattle.sender.specs.Marking.{MarksNumbers}
use Rattle.sender.proofs.MarkedNumbers.{marks_none, marks_more, few}
use Rattle.sender.proofs.PassedBy.{pairs_more}
use Rattle.sender.proofs.marking.mark_pairs.Goals as goal

pub loop-pair-init : goal.loop-pair-init
loop-pair-init g c = record { all = sym c.into_iter-pair-iterator.ensures.into_iter_gives; marks = marks_none c.args.repeats (g.H.History.meaning c.args.history.now) }

pub overflow_add-count : goal.overflow_add-count
overflow_add-count g c =
    let most = few c.args.repeats (numbers_of c.loop-pair.yielded) (g.H.History.meaning c.args.history.now) (g.H.History.meaning c.loop-pair.history) c.loop-pair.count (g.met.H.History.is_past c.args.history.now) c.loop-pair.invariant.marks in
    let more = c.mark_pair-count.ensures.few in
    omega (arith, most, more)

pub loop-pair-preserved : goal.loop-pair-preserved
loop-pair-preserved g c =
    let before = c.loop-pair.yielded in
    let this = c.in-Some.pair in
    let old = g.H.History.meaning c.args.history.now in
    let new = g.H.History.meaning c.mark_pair-count.new.history in
    let count = c.loop-pair.count + c.mark_pair-count.result in
    record {
      all = c.loop-pair.invariant.all ∙ ap (λ (left : List Pair). before ++ left) c.in-Some.ensures.steps ∙ sym (append_assoc before (this ∷ []) c.next.new.self);
      marks =
          subst (λ (numbers : List ℕ). MarksNumbers c.args.repeats numbers old count new) (sym (pairs_more before this))
          (marks_more c.args.repeats (numbers_of before) (pair_numbers this) old (g.H.History.meaning c.loop-pair.history) new
          c.loop-pair.count c.mark_pair-count.result c.loop-pair.invariant.marks c.mark_pair-count.ensures.marks);
    }

pub returns : goal.returns
returns g c =
    let old = g.H.History.meaning c.args.history.now in
    let new = g.H.History.meaning c.loop-pair.history in
    let done : c.args.pairs ≡ c.loop-pair.yielded =
    c.loop-pair.invariant.all ∙ ap (λ (left : List Pair). c.loop-pair.yielded ++ left) c.in-None.ensures.steps.0 ∙ append-nil c.loop-pair.yielded in
    record {
      marks = subst (λ (pairs : List Pair). MarksNumbers c.args.repeats (numbers_of pairs) old c.loop-pair.count new) (sym done) c.loop-pair.invariant.marks;
      few = few c.args.repeats (numbers_of c.loop-pair.yielded) old new c.loop-pair.count (g.met.H.History.is_past c.args.history.now) c.loop-pair.invariant.marks;
    }
