use Rattle.std.proofs.Common.{◌≡◌, [], take, ap, sym, subst, ◌∙◌}
use Rattle.stores.specs.declared.ask_rule.AskRule.{AskRule}
use Rattle.stores.specs.Asking.{due_places}
use Rattle.receiver.specs.Asks.{looked_at}
use Rattle.receiver.proofs.Asking.{asks_none, nothing_due, take_none}
use Rattle.receiver.proofs.asks.asks_nothing.Goals as goal

-- nothing is missing
pub returns-then-missing-eq0 : goal.returns-then-missing-eq0
returns-then-missing-eq0 g c = λ _ most learnt.
    let s = g.W.Window.meaning c.args.window.now in
    let config = c.args.config.now in
    let nothing = c.if-missing-eq0.true in
    asks_none s.slots s.capacity config c.args.now most learnt s.cursor (c.window_by_place.ensures.due s c.args.now config.delay config.retry config.asks)
    (ap (take (looked_at most)) (nothing_due s c.args.now config.delay config.retry config.asks (sym c.missing.ensures ∙ nothing)) ∙ take_none (looked_at most))

pub returns : goal.returns
returns g c = λ none most learnt.
    let s = g.W.Window.meaning c.args.window.now in
    let config = c.args.config.now in
    let by_rule : due_places s c.args.now config.delay config.retry config.asks ≡ [] = subst (λ (r : AskRule). due_places s c.args.now r.delay r.retry r.asks ≡ []) c.rule.ensures.value (c.has_none_due.ensures none) in
    asks_none s.slots s.capacity config c.args.now most learnt s.cursor (c.window_by_place.ensures.due s c.args.now config.delay config.retry config.asks)
    (ap (take (looked_at most)) by_rule ∙ take_none (looked_at most))
