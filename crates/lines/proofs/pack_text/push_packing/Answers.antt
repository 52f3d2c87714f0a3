use Rattle.std.proofs.Common.{◌++◌, ◌∷◌, [], sym, subst, refl, drop}
use Rattle.std.specs.Io.KnownBytes.{Appends}
use Rattle.fbwire.specs.Packing.{IsNarrow}
use Rattle.std.specs.List.Sorted.{IsStrictlyIncreasing}
use Rattle.lines.specs.Sink.{AppendsFront}
use Rattle.lines.specs.PackText.{AsksFirst}
use Rattle.lines.proofs.PackLemmas.{rising_left, narrow_left, one_more_asks, one_more_line}
use Rattle.lines.proofs.SinkLemmas.{at_err, both_appended, stopped_in_next}
use Rattle.lines.proofs.pack_text.push_packing.Goals as goal

pub returns-in_err-push_line-clause-err : goal.returns-in_err-push_line-clause-err
returns-in_err-push_line-clause-err g c =
    let before = c.loop-left.invariant in
    let nack = c.write_nack-nack.result.items in
    let others = drop c.pack-pairs.result.1 c.loop-left.left.now in
    let asks : AsksFirst c.loop-left.left.now nack others = record {
      pairs = c.pack-pairs.result.0.items;
      covered = c.pack-pairs.result.1;
      packing = c.pack-pairs.ensures.packing;
      spelled = rw c.deref.ensures.0 at c.write_nack-nack.ensures;
      left = refl;
    } in
    let stopped = rw c.deref-in-loop-left.ensures.0 at c.in_err-push_line.ensures in
    at_err c.from_residual.result (
      before.datagrams ++ nack ∷ [],
      others,
      one_more_asks c.args.places.now before.datagrams c.loop-left.left.now nack others before.asked asks,
      subst (AppendsFront (g.S.Sink.contents c.args.sink.now) (g.S.Sink.contents c.push_line.new.sink)) (sym (one_more_line before.datagrams nack))
          (stopped_in_next _ _ _ _ _ before.pushed stopped),
    )

pub loop-left-preserved : goal.loop-left-preserved
loop-left-preserved g c =
    let before = c.loop-left.invariant in
    let nack = c.write_nack-nack.result.items in
    let others = c.split_at.result.1.now in
    let asks : AsksFirst c.loop-left.left.now nack others = record {
      pairs = c.pack-pairs.result.0.items;
      covered = c.pack-pairs.result.1;
      packing = c.pack-pairs.ensures.packing;
      spelled = rw c.deref.ensures.0 at c.write_nack-nack.ensures;
      left = c.split_at.ensures.back;
    } in
    let pushed = rw c.deref-in-loop-left.ensures.0 at c.in_ok-push_line.ensures in
    record {
      rising = subst IsStrictlyIncreasing (sym c.split_at.ensures.back) (rising_left c.loop-left.left.now c.pack-pairs.result.1 before.rising);
      narrow = subst IsNarrow (sym c.split_at.ensures.back) (narrow_left c.loop-left.left.now c.pack-pairs.result.1 before.rising before.narrow);
      datagrams = before.datagrams ++ nack ∷ [];
      asked = one_more_asks c.args.places.now before.datagrams c.loop-left.left.now nack others before.asked asks;
      pushed = subst (Appends (g.S.Sink.contents c.args.sink.now) (g.S.Sink.contents c.push_line.new.sink)) (sym (one_more_line before.datagrams nack))
          (both_appended _ _ _ _ _ before.pushed pushed);
    }
