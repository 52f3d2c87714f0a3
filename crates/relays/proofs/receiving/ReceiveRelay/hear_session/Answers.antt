use Rattle.std.proofs.Common.{◌≡◌, rules, subst}
use Rattle.receiver.specs.Receiver.{Receiving}
use Rattle.endpoint.specs.Measuring.{IsStanding}
use Rattle.relays.proofs.receiving.ReceiveRelay.hear_session.Goals as goal

pub returns : goal.returns
returns g c =
    let same : c.core.result.now ≡ c.args.self.now.core = search rules in
    record {
      hears = search rules;
      standing = c.before-standing.result;
      stood = subst (λ (r : Receiving). IsStanding r c.args.octets.now c.before-standing.result) same c.before-standing.ensures;
      is_kind = search rules;
      rest = search rules;
    }
