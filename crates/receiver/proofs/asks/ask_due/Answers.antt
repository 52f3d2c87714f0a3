use Rattle.std.proofs.Common.{◌≡◌, ℕ, subst, ap, take, ◌∙◌, List}
use Rattle.rtpwire.specs.Session.{Streams}
use Rattle.fbwire.specs.Nack.{Nack, NackSpells}
use Rattle.stores.specs.Span.{Span}
use Rattle.receiver.specs.Counted.{CountsAsks}
use Rattle.receiver.proofs.Asking.{pairs_found, asks_some}
use Rattle.receiver.proofs.asks.ask_due.Goals as goal

pub returns-clause-asks : goal.returns-clause-asks
returns-clause-asks g c = λ learnt.
    let s = g.W.Window.meaning c.args.window.now in
    let found = pairs_found s c.args.now c.args.config.now.delay c.args.config.now.retry c.args.config.now.asks c.args.most c.pairs_due-count.new.pairs.items c.pairs_due-count.result c.pairs_due-count.new.due
    c.pairs_due-count.ensures.found c.if-count-eq0.false in
    let reporter : c.receiver_ssrc.result ≡ c.args.config.now.session.receiver_ssrc = c.receiver_ssrc.ensures ∙ ap (λ (streams : Streams). streams.receiver_ssrc) c.session-session.ensures in
    let media : c.media_ssrc.result ≡ c.args.config.now.session.media_ssrc = c.media_ssrc.ensures ∙ ap (λ (streams : Streams). streams.media_ssrc) c.session-session.ensures in
    asks_some s.slots s.capacity c.args.config.now c.args.now c.args.most learnt s.cursor c.pairs_due-count.new.pairs.items c.pairs_due-count.result c.write_nack.result (g.W.Window.meaning c.count_asks.new.window)
    c.pairs_due-count.ensures.lists
    found.narrow
    found.some
    found.covers
    found.packing
    (subst (λ (n : Nack). NackSpells n c.write_nack.result.items) (λ i. record { reporter = reporter i; media = media i; pairs = c.as_slice.ensures.value i }) c.write_nack.ensures)
    (subst (λ (places : List ℕ). CountsAsks s (g.W.Window.meaning c.count_asks.new.window) places c.args.now) found.covered
    (subst (λ (t : Span). CountsAsks t (g.W.Window.meaning c.count_asks.new.window) (take c.pairs_due-count.result c.pairs_due-count.new.due) c.args.now) c.pairs_due-count.ensures.same c.count_asks.ensures))
