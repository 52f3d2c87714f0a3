use Rattle.std.proofs.Common.{◌++◌, [], ◌∙◌, sym, subst}
use Rattle.std.specs.Io.KnownBytes.{Appends}
use Rattle.lines.proofs.HexText.{no_digits, digits_append, digits_around, octets_around}
use Rattle.lines.proofs.SinkLemmas.{none_appended, both_appended, fails_first, stopped_in_next}
use Rattle.lines.proofs.word.push_hex.Goals as goal

pub loop-piece-init : goal.loop-piece-init
loop-piece-init g c =
    let same = c.into_iter-piece-iterator.ensures.into_iter_gives in
    let octets = c.chunks-piece-items.ensures.rest in
    let none = none_appended (g.S.Sink.contents c.args.sink.now) in (
      rw same c.chunks-piece-items.ensures.size,
      [],
      rw same (sym octets),
      subst (Appends (g.S.Sink.contents c.args.sink.now) (g.S.Sink.contents c.args.sink.now)) (sym no_digits) none,
    )

pub loop-piece-preserved : goal.loop-piece-preserved
loop-piece-preserved g c =
    let (size, done, parts, pushed) = c.loop-piece.invariant in
    let piece = c.in-Some.ensures.steps in (
      piece.0 ∙ size,
      done ++ c.in-Some.piece.now,
      octets_around _ done _ _ _ parts piece.1.0,
      subst (Appends (g.S.Sink.contents c.args.sink.now) (g.S.Sink.contents c.push_digits.new.sink)) (sym (digits_append done c.in-Some.piece.now))
          (both_appended _ _ _ _ _ pushed c.in_ok-push_digits.ensures),
    )

pub returns-in_err-push_digits : goal.returns-in_err-push_digits
returns-in_err-push_digits g c =
    let (size, done, parts, pushed) = c.loop-piece.invariant in
    let piece = c.in-Some.ensures.steps in
    fails_first _ _ _ _ _ _ c.from_residual.ensures.0 (digits_around _ done _ _ _ parts piece.1.0)
    (stopped_in_next _ _ _ _ _ pushed c.in_err-push_digits.ensures)
