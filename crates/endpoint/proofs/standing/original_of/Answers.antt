use Rattle.std.proofs.Common.{◌≡◌, ℕ, Option, Some, ap, sym, subst, ◌∙◌}
use Rattle.rtpwire.specs.Session.{Streams}
use Rattle.stores.specs.Span.{Span, highest_of}
use Rattle.endpoint.specs.Measuring.{IsOriginal}
use Rattle.endpoint.proofs.standing.original_of.Goals as goal

pub returns-in-Some : goal.returns-in-Some
returns-in-Some g c =
    let at : highest_of c.args.core.now.span ≡ Some c.in-Some.highest = ap (λ (s : Span). highest_of s) (sym c.window.ensures.span) ∙ sym c.highest.ensures ∙ c.in-Some.is in
    let session : c.session.result ≡ c.args.core.now.config.session = c.session.ensures ∙ ap (λ k. k.session) c.config.ensures in
    let near : IsOriginal c.session.result (Some c.in-Some.highest) c.args.octets.now c.original_near.result = c.original_near.ensures in
    subst (λ (s : Streams). IsOriginal s (highest_of c.args.core.now.span) c.args.octets.now c.original_near.result) session
    (subst (λ (h : Option ℕ). IsOriginal c.session.result h c.args.octets.now c.original_near.result) (sym at) near)
