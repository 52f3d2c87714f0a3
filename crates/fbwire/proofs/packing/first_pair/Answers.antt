use Rattle.std.proofs.Common.{◌≡◌, ◌+◌, ◌-◌, ◌≤◌, ◌∷◌, [], ◌++◌, take, get_or, ap, ◌∙◌, arith}
use Rattle.std.proofs.lemmas.List.{get_or_read, take_more}
use Rattle.std.proofs.lemmas.List.Elements.{All-more, All-take}
use Rattle.places.specs.Place.{number}
use Rattle.fbwire.proofs.FirstPair.{mask_more, rises, none_below_first, rest_above, rest_none}
use Rattle.fbwire.proofs.packing.first_pair.Goals as goal
use Rattle.fbwire.proofs.packing.first_pair.Goals.{else-loop-count-test, then-loop-count-test+then-above-gt-REACH}

pub overflow_sub-above : goal.overflow_sub-above
overflow_sub-above c =
    let places = c.args.places.now in
    let first = get_or_read places 0 c.index-places-0.result c.requires.some c.index-places-0.is 0 in
    let place = get_or_read places c.loop-count.count c.index-places-count.result c.loop-count-test.true c.index-places-count.is 0 in
    let less = rises places c.requires.rising 0 c.loop-count.count c.loop-count.invariant.some c.loop-count-test.true in
    omega arith

pub overflow_sub-blp : goal.overflow_sub-blp
overflow_sub-blp c =
    let places = c.args.places.now in
    let first = get_or_read places 0 c.index-places-0.result c.requires.some c.index-places-0.is 0 in
    let place = get_or_read places c.loop-count.count c.index-places-count.result c.loop-count-test.true c.index-places-count.is 0 in
    let less = rises places c.requires.rising 0 c.loop-count.count c.loop-count.invariant.some c.loop-count-test.true in
    omega arith

pub loop-count-preserved : goal.loop-count-preserved
loop-count-preserved c =
    let places = c.args.places.now in
    let i = c.loop-count.count in
    let first = get_or_read places 0 c.index-places-0.result c.requires.some c.index-places-0.is 0 in
    let place = get_or_read places i c.index-places-count.result c.loop-count-test.true c.index-places-count.is 0 in
    let less = rises places c.requires.rising 0 i c.loop-count.invariant.some c.loop-count-test.true in
    let bit = c.value.result - c.value-in-loop-count.result - 1 in
    let at : get_or places i 0 ≡ get_or places 0 0 + (bit + 1) = omega arith in
    record {
      some = omega arith;
      within = omega arith;
      high = All-more (λ q. q ≤ get_or places 0 0 + 16) places i 0 c.loop-count-test.true c.loop-count.invariant.high (omega arith);
      mask = mask_more c.loop-count.blp (get_or places 0 0) bit (take i places) (take (i + 1) places) c.loop-count.invariant.mask (omega arith)
          (take_more places i 0 c.loop-count-test.true ∙ ap (λ q. take i places ++ q ∷ []) at);
    }

pub returns : goal.returns
returns c =
    let places = c.args.places.now in
    let first = get_or_read places 0 c.index-places-0.result c.requires.some c.index-places-0.is 0 in
    record {
      some = c.loop-count.invariant.some;
      within = c.loop-count.invariant.within;
      pid = c.number.ensures ∙ ap number first;
      blp = c.loop-count.auto.blp-fits.fits;
      low = All-take (λ q. get_or places 0 0 ≤ q) c.loop-count.count places (none_below_first places c.requires.rising);
      high = c.loop-count.invariant.high;
      rest = elim c.loop-count-test.branch [
        | else-loop-count-test w ↦ rest_none places c.loop-count.count (get_or places 0 0 + 16) w.loop-count-test.false
        | then-loop-count-test+then-above-gt-REACH w ↦
            let place = get_or_read places c.loop-count.count w.index-places-count.result w.loop-count-test.true w.index-places-count.is 0 in
            rest_above places c.loop-count.count (get_or places 0 0 + 16) c.requires.rising (omega arith)
      ];
      bits = c.loop-count.invariant.mask;
    }
