use Rattle.std.proofs.Common.{rules, ◌≡◌, ℕ, List, [], ◌∷◌, ◌++◌, sym, ap, subst, ◌∙◌, append-nil, append_assoc}
use Rattle.sender.specs.Counting.{CountsNumbers}
use Rattle.sender.proofs.Counted.{numbers_none, numbers_more}
use Rattle.sender.proofs.counting.count_numbers.Goals as goal

pub loop-number-init : goal.loop-number-init
loop-number-init g c = record { all = sym c.into_iter-number-iterator.ensures.into_iter_gives; counts = numbers_none c.args.repeats (g.H.History.meaning c.args.history.now) _ (search rules) }

pub loop-number-preserved : goal.loop-number-preserved
loop-number-preserved g c =
    let before = c.loop-number.yielded in
    let this = c.in-Some.number ∷ [] in
    record {
      all = c.loop-number.invariant.all ∙ ap (λ (left : List ℕ). before ++ left) c.in-Some.ensures.steps ∙ sym (append_assoc before this c.next.new.self);
      counts = numbers_more c.args.repeats (g.H.History.meaning c.args.history.now) before this c.loop-number.shared c.count_number.result c.sum-shared.result c.loop-number.invariant.counts c.count_number.ensures c.sum-shared.ensures;
    }

pub returns : goal.returns
returns g c =
    let done : c.args.numbers ≡ c.loop-number.yielded =
    c.loop-number.invariant.all ∙ ap (λ (left : List ℕ). c.loop-number.yielded ++ left) c.in-None.ensures.steps.0 ∙ append-nil c.loop-number.yielded in
    subst (λ (numbers : List ℕ). CountsNumbers c.args.repeats (g.H.History.meaning c.args.history.now) numbers c.loop-number.shared) (sym done) c.loop-number.invariant.counts
