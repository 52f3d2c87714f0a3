use Rattle.std.proofs.Common.{◌≡◌, Ok, Err, refl, sym, ◌∙◌}
use Rattle.receiver.specs.Window.{window_of}
use Rattle.receiver.proofs.Numbered.{hears_long, hears_number, hears_short, hears_stranger}
use Rattle.receiver.proofs.Found.{learnt_in, learns_candidate, learns_nothing, refused_number, takes_number, refuses_number}
use Rattle.receiver.proofs.receiver.hear_packet.Goals as goal
use Rattle.receiver.proofs.receiver.hear_packet.Goals.{in-Candidate, in_default}

pub returns-in_err-stream-clause-hears : goal.returns-in_err-stream-clause-hears
returns-in_err-stream-clause-hears g c = λ octets spelled.
    let s = g.W.Window.meaning c.args.window.now in
    hears_stranger c.args.config.now c.args.learnt.now s c.requires spelled c.args.now c.from_residual.result c.in_err-stream.field-0.0 c.in_err-stream.ensures c.from_residual.ensures.1

pub returns-in_err-seq-clause-hears : goal.returns-in_err-seq-clause-hears
returns-in_err-seq-clause-hears g c = λ octets spelled.
    let s = g.W.Window.meaning c.args.window.now in
    hears_short c.args.config.now c.args.learnt.now s c.requires spelled c.args.now c.from_residual-in_err-seq.result c.in_ok-stream.stream c.in_ok-stream.ensures (c.in_err-seq.ensures.too_short.0 refl)
    c.in_err-seq.field-0.0 c.in_err-seq.ensures.fault c.from_residual-in_err-seq.ensures.1

pub returns-in_err-content-clause-hears : goal.returns-in_err-content-clause-hears
returns-in_err-content-clause-hears g c = λ octets spelled.
    let s = g.W.Window.meaning c.args.window.now in
    hears_long c.args.config.now c.args.learnt.now s c.requires spelled c.in_ok-stream.ensures c.in_ok-seq.seq c.in_ok-seq.payload.now c.in_ok-seq.ensures.ok c.args.now c.from_residual-in_err-content.result
    (c.in_err-content.ensures.too_long.0 refl) c.in_err-content.field-0.0 c.from_residual-in_err-content.ensures.1

pub returns-in_err-place-clause-hears : goal.returns-in_err-place-clause-hears
returns-in_err-place-clause-hears g c = λ octets spelled.
    let s = g.W.Window.meaning c.args.window.now in
    let answer = c.from_residual-in_err-place.result in
    let old = window_of c.args.learnt.now s in
    hears_number c.args.config.now c.args.learnt.now s c.requires spelled c.in_ok-stream.ensures c.in_ok-seq.seq c.in_ok-seq.payload.now c.in_ok-seq.ensures.ok c.args.now answer
    c.in_ok-content.content c.in_ok-content.ensures.ok c.in_ok-content.ensures.too_long.1 old
    (refused_number s.capacity c.in_ok-seq.seq c.in_ok-content.content c.args.now c.in_ok-stream.stream old c.in_err-place.field-0.0 answer (c.in_err-place.ensures c.args.learnt.now) c.from_residual-in_err-place.ensures.1)

pub returns-clause-hears : goal.returns-clause-hears
returns-clause-hears g c = λ octets spelled.
    let s = g.W.Window.meaning c.args.window.now in
    let t = g.W.Window.meaning c.put_from.new.self in
    let is = g.met.W.Window.is_span c.args.window.now in
    let step = c.window_by_place.ensures.put s t c.in_ok-place.place c.args.now c.in_ok-content.content (Ok c.in_ok-overrun.overrun) is c.in_ok-overrun.ensures.answer c.in_ok-overrun.ensures.ok c.in_ok-overrun.ensures.err in
    let learns : c.match-stream.learnt ≡ learnt_in c.in_ok-stream.stream c.args.learnt.now =
    elim c.match-stream.branch [
      | in-Candidate w ↦ w.learnt-is ∙ sym (learns_candidate c.args.learnt.now c.in_ok-stream.stream w.in-Candidate.ssrc w.in-Candidate.is)
      | in_default w ↦ w.learnt-is ∙ sym (learns_nothing c.args.learnt.now c.in_ok-stream.stream w.in_default.not-Candidate)
    ] in
    hears_number c.args.config.now c.args.learnt.now s c.requires spelled c.in_ok-stream.ensures c.in_ok-seq.seq c.in_ok-seq.payload.now c.in_ok-seq.ensures.ok c.args.now _
    c.in_ok-content.content c.in_ok-content.ensures.ok c.in_ok-content.ensures.too_long.1 (window_of c.match-stream.learnt t)
    (takes_number c.args.learnt.now s.slots s.capacity c.in_ok-seq.seq c.in_ok-content.content c.args.now c.in_ok-place.place c.in_ok-stream.stream s.cursor c.in_ok-overrun.overrun t c.match-stream.learnt
    learns c.requires is (c.in_ok-place.ensures c.args.learnt.now) step)

pub returns-in_err-overrun-clause-hears : goal.returns-in_err-overrun-clause-hears
returns-in_err-overrun-clause-hears g c = λ octets spelled.
    let answer = c.from_residual-in_err-overrun.result in
    let s = g.W.Window.meaning c.args.window.now in
    let t = g.W.Window.meaning c.put_from.new.self in
    let is = g.met.W.Window.is_span c.args.window.now in
    let step = c.window_by_place.ensures.put s t c.in_ok-place.place c.args.now c.in_ok-content.content (Err c.in_err-overrun.field-0.0) is c.in_err-overrun.ensures.answer c.in_err-overrun.ensures.ok c.in_err-overrun.ensures.err in
    hears_number c.args.config.now c.args.learnt.now s c.requires spelled c.in_ok-stream.ensures c.in_ok-seq.seq c.in_ok-seq.payload.now c.in_ok-seq.ensures.ok c.args.now answer
    c.in_ok-content.content c.in_ok-content.ensures.ok c.in_ok-content.ensures.too_long.1 (window_of c.args.learnt.now t)
    (refuses_number c.args.learnt.now s.slots s.capacity c.in_ok-seq.seq c.in_ok-content.content c.args.now c.in_ok-place.place c.in_ok-stream.stream s.cursor c.in_err-overrun.field-0.0 answer t
    (c.in_ok-place.ensures c.args.learnt.now) step c.from_residual-in_err-overrun.ensures.1)
