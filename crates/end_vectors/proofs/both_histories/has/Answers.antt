use Rattle.std.proofs.Common.{◌≡◌, ◌≢◌, ℕ, IsSome, sym, subst, ◌∙◌}
use Rattle.std.proofs.lemmas.Bool.{eqb-true}
use Rattle.std.proofs.lemmas.Option.{MatchOption-at_some}
use Rattle.places.specs.Place.{number}
use Rattle.stores.specs.Past.{entry_at}
use Rattle.end_vectors.proofs.both_histories.has.Goals as goal

pub returns-in-Some : goal.returns-in-Some
returns-in-Some g c = λ same.
    let h = g.H.History.meaning c.args.history.now in
    let n = c.number.result in
    let at : c.in-Some.found ≡ c.args.place = eqb-true _ _ (sym c.eq.ensures ∙ same) in
    let finds = MatchOption-at_some ((q : ℕ) → IsSome (entry_at h q) → number q ≢ n) (λ p. (number p ≡ n) × IsSome (entry_at h p)) c.in-Some.found (sym c.find.ensures ∙ c.in-Some.is) (c.history_by_place.ensures.find h n (g.met.H.History.is_past c.args.history.now)) in
    subst (λ p. IsSome (entry_at h p)) at finds.1
