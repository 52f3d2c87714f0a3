use Rattle.std.proofs.Common.{◌≡◌, ◌∙◌, ap, refl, subst, sym}
use Rattle.rtpwire.specs.Session.{Streams}
use Rattle.sender.specs.Config.{Config}
use Rattle.relays.specs.declared.relay.Turn.{Turn}
use Rattle.relays.specs.declared.stream.Stream.{Stream}
use Rattle.relays.specs.SendRelay.{Carries, Forwards, SendSide}
use Rattle.relays.proofs.sending.SendRelay.forward.Goals as goal

pub returns-in_default-clause-forwards : goal.returns-in_default-clause-forwards
returns-in_default-clause-forwards g c =
    let old = c.args.self.now in
    let its : old.core.config.session ≡ c.session-session.result =
    ap (λ (s : SendSide). s.core.config.session) (sym c.self.view_is) ∙ ap (λ (config : Config). config.session) (sym c.self.invariant.0) ∙ sym c.session-session.ensures in
    let followed : old.stream ≡ c.self.inside.stream = ap (λ (s : SendSide). s.stream) (sym c.self.view_is) in
    subst (λ (turn : Turn). Forwards old c.args.from c.args.octets.now c.args.now turn.note turn.leaves c.args.out.now old) (sym c.silent.ensures) (
      (λ packet content carries. absurd (c.carried.ensures.none c.in_default.is packet content
          (subst (λ (s : Streams). Carries s c.self.inside.stream c.args.from c.args.octets.now c.args.now packet content) its
          (subst (λ (s : Stream). Carries old.core.config.session s c.args.from c.args.octets.now c.args.now packet content) followed carries)))),
      refl,
    )
