use Rattle.std.proofs.Common.{rules, ◌≡◌, List, [], ◌∷◌, ◌++◌, sym, ap, subst, ◌∙◌, append-nil, append_assoc}
use Rattle.fbwire.specs.Nack.{Nack}
use Rattle.sender.specs.Counting.{CountsNacks}
use Rattle.sender.proofs.Counted.{nacks_none, nacks_more}
use Rattle.sender.proofs.counting.count_nacks.Goals as goal

pub loop-nack-init : goal.loop-nack-init
loop-nack-init g c = record { all = sym c.into_iter-nack-iterator.ensures.into_iter_gives; counts = nacks_none c.args.config.now (g.H.History.meaning c.args.history.now) _ (search rules) }

pub loop-nack-preserved : goal.loop-nack-preserved
loop-nack-preserved g c =
    let before = c.loop-nack.yielded in
    let this = c.in-Some.nack ∷ [] in
    record {
      all = c.loop-nack.invariant.all ∙ ap (λ (left : List Nack). before ++ left) c.in-Some.ensures.steps ∙ sym (append_assoc before this c.next.new.self);
      counts = nacks_more c.args.config.now (g.H.History.meaning c.args.history.now) before this c.loop-nack.shared c.count_nack.result c.sum-shared.result c.loop-nack.invariant.counts c.count_nack.ensures c.sum-shared.ensures;
    }

pub returns : goal.returns
returns g c =
    let done : c.args.nacks ≡ c.loop-nack.yielded =
    c.loop-nack.invariant.all ∙ ap (λ (left : List Nack). c.loop-nack.yielded ++ left) c.in-None.ensures.steps.0 ∙ append-nil c.loop-nack.yielded in
    subst (λ (nacks : List Nack). CountsNacks c.args.config.now (g.H.History.meaning c.args.history.now) nacks c.loop-nack.shared) (sym done) c.loop-nack.invariant.counts
