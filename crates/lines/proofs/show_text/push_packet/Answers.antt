use Rattle.std.proofs.Common.{map}
use Rattle.lines.specs.ShowText.{header_words}
use Rattle.lines.specs.WordText.{word_text}
use Rattle.lines.proofs.LineLemmas.{line_parts}
use Rattle.lines.proofs.SinkLemmas.{both_appended, ends_with, fails_first, stopped_in_first, stopped_in_next}
use Rattle.lines.proofs.show_text.push_packet.Goals as goal

pub returns-in_err-push : goal.returns-in_err-push
returns-in_err-push g c =
    let parts = line_parts c.args.kind.now (header_words c.args.view.now) (map word_text c.args.carried.now) in
    fails_first _ _ _ _ _ _ c.from_residual.ensures.0 parts (stopped_in_first _ _ _ _ (stopped_in_first _ _ _ _ c.in_err-push.ensures))

pub returns-in_err-push_header : goal.returns-in_err-push_header
returns-in_err-push_header g c =
    let parts = line_parts c.args.kind.now (header_words c.args.view.now) (map word_text c.args.carried.now) in
    fails_first _ _ _ _ _ _ c.from_residual-in_err-push_header.ensures.0 parts
    (stopped_in_first _ _ _ _ (stopped_in_next _ _ _ _ _ c.in_ok-push.ensures c.in_err-push_header.ensures))

pub returns-in_err-push_more : goal.returns-in_err-push_more
returns-in_err-push_more g c =
    let parts = line_parts c.args.kind.now (header_words c.args.view.now) (map word_text c.args.carried.now) in
    fails_first _ _ _ _ _ _ c.from_residual-in_err-push_more.ensures.0 parts
    (stopped_in_next _ _ _ _ _ (both_appended _ _ _ _ _ c.in_ok-push.ensures c.in_ok-push_header.ensures) c.in_err-push_more.ensures)

pub returns : goal.returns
returns g c =
    let parts = line_parts c.args.kind.now (header_words c.args.view.now) (map word_text c.args.carried.now) in
    let header = both_appended _ _ _ _ _ c.in_ok-push.ensures c.in_ok-push_header.ensures in
    ends_with _ _ _ _ _ _ _ parts (both_appended _ _ _ _ _ header c.in_ok-push_more.ensures) c.push-2.ensures
