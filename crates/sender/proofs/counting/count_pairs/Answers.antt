use Rattle.std.proofs.Common.{rules, ◌≡◌, ℕ, List, [], ◌∷◌, ◌++◌, sym, ap, subst, ◌∙◌, append-nil, append_assoc}
use Rattle.fbwire.specs.declared.nack.Pair.{Pair}
use Rattle.fbwire.specs.Nack.{pair_numbers, numbers_of}
use Rattle.sender.specs.Counting.{CountsNumbers}
use Rattle.sender.proofs.Counted.{numbers_none, numbers_more}
use Rattle.sender.proofs.PassedBy.{pairs_more}
use Rattle.sender.proofs.counting.count_pairs.Goals as goal

pub loop-pair-init : goal.loop-pair-init
loop-pair-init g c = record { all = sym c.into_iter-pair-iterator.ensures.into_iter_gives; counts = numbers_none c.args.repeats (g.H.History.meaning c.args.history.now) _ (search rules) }

pub loop-pair-preserved : goal.loop-pair-preserved
loop-pair-preserved g c =
    let before = c.loop-pair.yielded in
    let this = c.in-Some.pair in
    let h = g.H.History.meaning c.args.history.now in
    record {
      all = c.loop-pair.invariant.all ∙ ap (λ (left : List Pair). before ++ left) c.in-Some.ensures.steps ∙ sym (append_assoc before (this ∷ []) c.next.new.self);
      counts =
          subst (λ (numbers : List ℕ). CountsNumbers c.args.repeats h numbers c.sum-shared.result) (sym (pairs_more before this))
          (numbers_more c.args.repeats h (numbers_of before) (pair_numbers this) c.loop-pair.shared c.count_pair.result c.sum-shared.result c.loop-pair.invariant.counts c.count_pair.ensures c.sum-shared.ensures);
    }

pub returns : goal.returns
returns g c =
    let done : c.args.pairs ≡ c.loop-pair.yielded =
    c.loop-pair.invariant.all ∙ ap (λ (left : List Pair). c.loop-pair.yielded ++ left) c.in-None.ensures.steps.0 ∙ append-nil c.loop-pair.yielded in
    subst (λ (pairs : List Pair). CountsNumbers c.args.repeats (g.H.History.meaning c.args.history.now) (numbers_of pairs) c.loop-pair.shared) (sym done) c.loop-pair.invariant.counts
