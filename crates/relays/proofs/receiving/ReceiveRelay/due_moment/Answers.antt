use Rattle.std.proofs.Common.{◌≡◌, ℕ, rules, subst}
use Rattle.stores.specs.Asking.{IsNextDue}
use Rattle.stores.specs.Span.{Span}
use Rattle.relays.proofs.Waking.{asks_nothing}
use Rattle.relays.proofs.receiving.ReceiveRelay.due_moment.Goals as goal

pub returns : goal.returns
returns g c = λ now fits never.
    let core = c.args.self.now.core in
    let moment = c.next_due.result in
    let span : g.W.Window.meaning c.window.result.now ≡ core.span = search rules in
    let delay : c.delay.result ≡ core.config.delay = search rules in
    let retry : c.retry.result ≡ core.config.retry = search rules in
    let asks : c.asks.result ≡ core.config.asks = search rules in
    let due : IsNextDue core.span core.config.delay core.config.retry core.config.asks moment =
    subst (λ (n : ℕ). IsNextDue core.span core.config.delay core.config.retry n moment) asks
    (subst (λ (n : ℕ). IsNextDue core.span core.config.delay n c.asks.result moment) retry
    (subst (λ (n : ℕ). IsNextDue core.span n c.retry.result c.asks.result moment) delay
    (subst (λ (s : Span). IsNextDue s c.delay.result c.retry.result c.asks.result moment) span c.next_due.ensures))) in
    asks_nothing core.config core.learnt core.span now (c.window_by_place.ensures.due core.span now core.config.delay core.config.retry core.config.asks) ((due now fits).1 never)
