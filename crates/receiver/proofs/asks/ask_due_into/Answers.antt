use Rattle.std.proofs.Common.{rules, ◌≡◌, ℕ, ◌+◌, ◌*◌, length, refl, sym, subst, ap, take, ◌∙◌, List, arith}
use Rattle.rtpwire.specs.Buffer.{in_front}
use Rattle.rtpwire.specs.Session.{Streams}
use Rattle.fbwire.specs.Nack.{Nack, NackSpells}
use Rattle.stores.specs.Span.{Span}
use Rattle.receiver.specs.Counted.{CountsAsks}
use Rattle.receiver.specs.Asks.{AnyNeedsRoom}
use Rattle.receiver.specs.Window.{window_of}
use Rattle.receiver.proofs.Asking.{pairs_found, asks_some, needs_room}
use Rattle.receiver.proofs.asks.ask_due_into.Goals as goal

pub returns-then-out-needed-clause-asks : goal.returns-then-out-needed-clause-asks
returns-then-out-needed-clause-asks g c = λ learnt.
    let s = g.W.Window.meaning c.args.window.now in
    let found = pairs_found s c.args.now c.args.config.now.delay c.args.config.now.retry c.args.config.now.asks c.args.most c.pairs_due-count.new.pairs.items c.pairs_due-count.result c.pairs_due-count.new.due
    c.pairs_due-count.ensures.found c.if-count-eq0.false in
    let room = needs_room s.slots s.capacity c.args.config.now c.args.now c.args.most learnt s.cursor c.pairs_due-count.new.pairs.items c.pairs_due-count.result
    c.pairs_due-count.ensures.lists
    found.some
    found.packing in
    (subst (λ n. AnyNeedsRoom c.args.config.now (window_of learnt s) c.args.now c.args.most (12 + 4 * n)) (sym c.len.ensures.value) room, c.if-out-needed.true, refl, ap (λ (t : Span). window_of learnt t) c.pairs_due-count.ensures.same)

pub returns-clause-asks : goal.returns-clause-asks
returns-clause-asks g c = λ learnt.
    let s = g.W.Window.meaning c.args.window.now in
    let found = pairs_found s c.args.now c.args.config.now.delay c.args.config.now.retry c.args.config.now.asks c.args.most c.pairs_due-count.new.pairs.items c.pairs_due-count.result c.pairs_due-count.new.due
    c.pairs_due-count.ensures.found c.if-count-eq0.false in
    let reporter : c.receiver_ssrc-reporter.result ≡ c.args.config.now.session.receiver_ssrc = c.receiver_ssrc-reporter.ensures ∙ ap (λ (streams : Streams). streams.receiver_ssrc) c.session-session.ensures in
    let media : c.media_ssrc-media.result ≡ c.args.config.now.session.media_ssrc = c.media_ssrc-media.ensures ∙ ap (λ (streams : Streams). streams.media_ssrc) c.session-session.ensures in
    let writes = c.write_nack_into-len in
    let counted = writes.ensures.len in
    let not = c.if-out-needed.false in
    let same = ap length c.as_slice.ensures.value in
    let many = c.len.ensures.value in
    let as_long : length writes.new.out ≡ length c.args.out.now = search rules in (
      asks_some s.slots s.capacity c.args.config.now c.args.now c.args.most learnt s.cursor c.pairs_due-count.new.pairs.items c.pairs_due-count.result (record { items = take writes.result writes.new.out }) (g.W.Window.meaning c.count_asks.new.window)
          c.pairs_due-count.ensures.lists
          found.narrow
          found.some
          found.covers
          found.packing
          (subst (λ (n : Nack). NackSpells n (take writes.result writes.new.out)) (λ i. record { reporter = reporter i; media = media i; pairs = c.as_slice.ensures.value i }) writes.ensures.spells)
          (subst (λ (places : List ℕ). CountsAsks s (g.W.Window.meaning c.count_asks.new.window) places c.args.now) found.covered
          (subst (λ (t : Span). CountsAsks t (g.W.Window.meaning c.count_asks.new.window) (take c.pairs_due-count.result c.pairs_due-count.new.due) c.args.now) c.pairs_due-count.ensures.same c.count_asks.ensures)),
      record {
        within = omega (arith, as_long, counted, not, same, many);
        behind = writes.ensures.written ∙ ap (λ (front : List ℕ). in_front front c.args.out.now) (sym writes.ensures.spells.spelled);
      },
    )
