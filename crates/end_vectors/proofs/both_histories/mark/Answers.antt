use Rattle.std.proofs.Common.{sym, ◌∙◌}
use Rattle.end_vectors.proofs.both_histories.mark.Goals as goal

pub invariant_of-sending : goal.invariant_of-sending
invariant_of-sending g c =
    let changes = c.history_by_place.ensures.mark (g.H.History.meaning c.args.sending.now.history) (g.H.History.meaning c.mark.new.self) c.in_ok-place.place c.mark.ensures in
    record { follows = λ x e. c.args.sending.now.follows x (sym changes.next ∙ e) }
