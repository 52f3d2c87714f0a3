use Rattle.std.proofs.Common.{◌≡◌, ℕ, List, [], ◌∷◌, ◌++◌, refl, subst}
use Rattle.receiver.specs.Receiver.{state_of}
use Rattle.world.specs.declared.event.Entry.TheVariants.{Asked}
use Rattle.world.specs.declared.event.Label.TheVariants.{Feedback}
use Rattle.world.specs.World.{stand_at}
use Rattle.world.proofs.Spelled.{asked_to, pairs_spelled}
use Rattle.world.proofs.ends.asked.Goals as goal

pub put-requires-clause-pairs : goal.put-requires-clause-pairs
put-requires-clause-pairs g c =
    pairs_spelled c.args.receiver.now.config c.args.now (state_of c.args.receiver.now) (state_of c.ask.new.self) c.in-Some.datagram c.pairs_in-pairs.result
    c.as_slice.result.now c.as_slice-in-Some.result.now c.in-Some.ensures.asks c.as_slice.ensures.value c.as_slice-in-Some.ensures.value c.pairs_in-pairs.ensures

pub returns-in-Some-clause-step : goal.returns-in-Some-clause-step
returns-in-Some-clause-step g c =
    let old = g.N.Wire.items c.args.wire.now in
    let new = g.N.Wire.items c.put.new.self in
    let put = subst (λ (x : List ℕ). new ≡ old ++ (Feedback c.pairs_in-pairs.result, record { items = x }) ∷ []) c.as_slice-in-Some.ensures.value c.put.ensures in (
      Asked c.count-index.result c.args.now,
      λ setup sender same. (
        refl,
        asked_to setup c.args.receiver.now.config c.args.now c.count-index.result (stand_at sender old c.args.receiver.now) (stand_at sender new c.ask.new.self)
            c.in-Some.datagram c.pairs_in-pairs.result c.as_slice.result.now same c.in-Some.ensures.asks c.as_slice.ensures.value c.pairs_in-pairs.ensures c.count-index.ensures.count put refl,
      ),
      c.add-in-Some.ensures,
    )
