use Rattle.std.proofs.Common.{◌≡◌, ◌<◌, ◌-◌, ◌+◌, length, drop, subst, sym, ◌∙◌, arith}
use Rattle.std.proofs.lemmas.Bool.{eqb-true, eqb-false}
use Rattle.std.proofs.lemmas.List.{length-take, length-drop}
use Rattle.fbwire.proofs.Packings.{PacksBefore, packs_more, packs_all, packing, some_packed, whole}
use Rattle.fbwire.proofs.packing.pack_into.Goals as goal

pub loop-covered-preserved : goal.loop-covered-preserved
loop-covered-preserved c =
    let places = c.args.places.now in
    let left = drop c.loop-covered.covered places in
    let taken = c.first_pair-count.ensures.within in
    let room : length c.loop-covered.pairs.items ≡ 64 → ⊥ = eqb-false _ _ (sym c.is_full.ensures.value ∙ c.if-not-is_full.true) in
    record {
      within = omega (arith, length-take (length places - c.loop-covered.covered) left, length-drop c.loop-covered.covered places);
      few = let few = c.loop-covered.invariant.few in let len = c.push.ensures.len in omega arith;
      packs = subst (λ pairs. PacksBefore places pairs (c.loop-covered.covered + c.first_pair-count.result.1)) (sym c.push.ensures.items)
          (packs_more places c.loop-covered.pairs.items c.loop-covered.covered c.first_pair-count.result.0 c.first_pair-count.result.1 c.loop-covered.invariant.packs c.first_pair-count.ensures);
    }

-- all 64 pairs are made
pub returns-else-not-is_full-clause-packing : goal.returns-else-not-is_full-clause-packing
returns-else-not-is_full-clause-packing c =
    let places = c.args.places.now in
    let pairs = c.loop-covered.pairs.items in
    let covered = c.loop-covered.covered in
    let full : covered < length places → length pairs ≡ 64 = λ left. eqb-true _ _ (sym c.is_full.ensures.value ∙ c.if-not-is_full.false) in
    packing places pairs covered c.requires.rising c.requires.narrow (packs_all places pairs covered c.loop-covered.invariant.packs) c.loop-covered.invariant.few full

pub returns-else-not-is_full-clause-some : goal.returns-else-not-is_full-clause-some
returns-else-not-is_full-clause-some c =
    let places = c.args.places.now in
    let pairs = c.loop-covered.pairs.items in
    let covered = c.loop-covered.covered in
    let full : covered < length places → length pairs ≡ 64 = λ left. eqb-true _ _ (sym c.is_full.ensures.value ∙ c.if-not-is_full.false) in
    some_packed places pairs covered (packs_all places pairs covered c.loop-covered.invariant.packs) full

pub returns-else-not-is_full-clause-whole : goal.returns-else-not-is_full-clause-whole
returns-else-not-is_full-clause-whole c = whole c.args.places.now c.loop-covered.pairs.items c.loop-covered.covered (returns-else-not-is_full-clause-packing c)

-- all places are covered
pub returns-after-loop-covered-clause-packing : goal.returns-after-loop-covered-clause-packing
returns-after-loop-covered-clause-packing c =
    let places = c.args.places.now in
    let pairs = c.loop-covered.pairs.items in
    let covered = c.loop-covered.covered in
    let full : covered < length places → length pairs ≡ 64 = λ left. absurd (let none = c.loop-covered-test.false in omega arith) in
    packing places pairs covered c.requires.rising c.requires.narrow (packs_all places pairs covered c.loop-covered.invariant.packs) c.loop-covered.invariant.few full

pub returns-after-loop-covered-clause-some : goal.returns-after-loop-covered-clause-some
returns-after-loop-covered-clause-some c =
    let places = c.args.places.now in
    let pairs = c.loop-covered.pairs.items in
    let covered = c.loop-covered.covered in
    let full : covered < length places → length pairs ≡ 64 = λ left. absurd (let none = c.loop-covered-test.false in omega arith) in
    some_packed places pairs covered (packs_all places pairs covered c.loop-covered.invariant.packs) full
