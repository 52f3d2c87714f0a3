use Rattle.std.proofs.Common.{◌≡◌, rules, sym, ◌∙◌, arith}
use Rattle.std.specs.Option.{ForSome}
use Rattle.std.proofs.lemmas.Option.{same_Some}
use Rattle.stores.specs.Past.{next_of}
use Rattle.end_vectors.proofs.both_histories.push.Goals as goal

pub invariant_of-sending : goal.invariant_of-sending
invariant_of-sending g c =
    let old = g.H.History.meaning c.args.sending.now.history in
    let place = c.in_ok-place.place in
    let next : ForSome (next_of old) (λ n. place ≡ n) = search rules in
    let pushes = c.history_by_place.ensures.push old (g.H.History.meaning c.push.new.self) place c.content.result (g.met.H.History.is_past c.args.sending.now.history) next c.push.ensures in
    record { follows = λ x e. let at = same_Some _ x (sym pushes.next ∙ e) in omega arith }
