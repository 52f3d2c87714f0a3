use Rattle.std.proofs.Common.{ap, subst, ◌∙◌, sym}
use Rattle.stores.specs.declared.ask_rule.AskRule.{AskRule}
use Rattle.stores.specs.Asking.{has_come, IsNextDue}
use Rattle.receiver.specs.Peeking.{is_ready}
use Rattle.receiver.proofs.Wakes.{quiet}
use Rattle.receiver.proofs.waking.moment_of.Goals as goal

pub returns : goal.returns
returns g c = λ learnt now fits.
    let s = g.W.Window.meaning c.args.window.now in
    let config = record c.args.config.now { patience = c.args.patience } in
    let law = c.window_by_place.ensures in
    let is = g.met.W.Window.is_span c.args.window.now in
    let due : IsNextDue s config.delay config.retry config.asks c.next_due-ask.result = subst (λ (r : AskRule). IsNextDue s r.delay r.retry r.asks c.next_due-ask.result) c.rule.ensures.value c.next_due-ask.ensures in
    quiet s.slots s.capacity config now learnt s.cursor is (λ k at. law.front s k at) (law.due s now config.delay config.retry config.asks)
    (has_come c.ready_from-play.result now) (has_come c.next_due-ask.result now) (has_come c.sooner.result now)
    (ap (is_ready c.args.patience now) (sym c.front.ensures) ∙ c.ready_from-play.ensures now fits)
    (due now fits) (c.sooner.ensures now)
