use Rattle.std.proofs.Common.{◌≡◌, subst, arith, rules}
use Rattle.std.proofs.lemmas.Grind.{common_steps}
use Rattle.places.proofs.NearPlace.{IsAnswer, near_place, near_place_is, far_iff, past_end_iff}
use Rattle.places.proofs.nearness.near.Goals as goal

pub returns-then-ahead-lt-REACH-clause-far : goal.returns-then-ahead-lt-REACH-clause-far
returns-then-ahead-lt-REACH-clause-far c =
    let same : near_place c.args.highest c.args.seq ≡ c.ok_or.result = grind (arith, common_steps) in
    far_iff _ _ _ (subst (IsAnswer c.args.highest c.args.seq) same (near_place_is _ _ c.ranges.seq.fits))

pub returns-then-ahead-lt-REACH-clause-past_end : goal.returns-then-ahead-lt-REACH-clause-past_end
returns-then-ahead-lt-REACH-clause-past_end c =
    let same : near_place c.args.highest c.args.seq ≡ c.ok_or.result = search rules in
    past_end_iff _ _ _ (subst (IsAnswer c.args.highest c.args.seq) same (near_place_is _ _ c.ranges.seq.fits))

pub returns-then-behind-lt-REACH-clause-far : goal.returns-then-behind-lt-REACH-clause-far
returns-then-behind-lt-REACH-clause-far c =
    let same : near_place c.args.highest c.args.seq ≡ c.ok_or-then-behind-lt-REACH.result = grind (arith, common_steps) in
    far_iff _ _ _ (subst (IsAnswer c.args.highest c.args.seq) same (near_place_is _ _ c.ranges.seq.fits))

pub returns-then-behind-lt-REACH-clause-past_end : goal.returns-then-behind-lt-REACH-clause-past_end
returns-then-behind-lt-REACH-clause-past_end c =
    let same : near_place c.args.highest c.args.seq ≡ c.ok_or-then-behind-lt-REACH.result = grind (arith, common_steps) in
    past_end_iff _ _ _ (subst (IsAnswer c.args.highest c.args.seq) same (near_place_is _ _ c.ranges.seq.fits))
