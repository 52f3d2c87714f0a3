use Rattle.std.proofs.Common.{ℕ, ◌++◌, List, length, take, get_or, ap, sym, ◌∙◌, arith, length-append}
use Rattle.std.specs.List.{flat_map}
use Rattle.std.proofs.lemmas.List.{take_more, flat_map_more}
use Rattle.std.proofs.lemmas.List.Elements.{All-more}
use Rattle.fbwire.specs.declared.nack.Pair.{Pair}
use Rattle.fbwire.specs.Nack.{IsPair, pair_octets}
use Rattle.fbwire.proofs.nack.push_pairs.Goals as goal

pub loop-pair-preserved : goal.loop-pair-preserved
loop-pair-preserved g c =
    let pairs = c.args.pairs.now in
    let i = c.loop-pair.pair-index in
    let none : Pair = record { pid = 0; blp = 0 } in
    record {
      written = c.push_pair.ensures.written ∙ ap (λ (t : List _). t ++ pair_octets (get_or pairs i none)) c.loop-pair.invariant.written
          ∙ flat_map_more pair_octets c.args.out.now.items (take i pairs) (get_or pairs i none)
          ∙ ap (λ t. c.args.out.now.items ++ flat_map pair_octets t) (sym (take_more pairs i none c.loop-pair-test.true));
      len = ap length c.push_pair.ensures.written ∙ omega (arith, c.loop-pair.invariant.len, length-append {A = ℕ});
      fit = All-more IsPair pairs i none c.loop-pair-test.true c.loop-pair.invariant.fit c.push_pair.ensures.fits;
    }
