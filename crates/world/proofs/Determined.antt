-- Events determine the log, and the stand that it leaves.
use Rattle.std.proofs.Common.{◌≡◌, List, [], ◌∷◌, refl, sym, subst, ◌∙◌}
use Rattle.world.specs.declared.event.Event.{Event}
use Rattle.world.specs.declared.event.Entry.{Entry}
use Rattle.world.specs.Config.{Config}
use Rattle.world.specs.Answers.{WorldState, Step, Answers}
use Rattle.world.proofs.SameSteps.{Same, Laws, one_step}

pub determined : (laws : Laws) (c : Config) (events : List Event) (one other : List Entry) (end stop : WorldState) →
    Answers c events one end → Answers c events other stop → Same one other end stop
determined laws c [] [] [] end stop a b = (refl, a ∙ sym b)
determined laws c [] (d ∷ one) other end stop never b = absurd never
determined laws c [] [] (e ∷ other) end stop a never = absurd never
determined laws c (event ∷ events) [] other end stop never b = absurd never
determined laws c (event ∷ events) (d ∷ one) [] end stop a never = absurd never
determined laws c (event ∷ events) (d ∷ one) (e ∷ other) end stop (mid, before, step) (mid', before', step') =
    let past = determined laws c events one other mid mid' before before' in
    let same = one_step laws c mid event d e end stop step (subst (λ (x : WorldState). Step c x event e stop) (sym past.1) step') in
    let entries : d ≡ e = same.0 in
    let earlier : one ≡ other = past.0 in
    (λ i. entries i ∷ earlier i, same.1)
