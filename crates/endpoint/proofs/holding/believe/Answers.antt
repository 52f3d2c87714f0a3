use Rattle.std.proofs.Common.{refl}
use Rattle.endpoint.proofs.holding.believe.Goals as goal

pub returns : goal.returns
returns g c = λ octets spelled spare. record { taken = c.hand-taken.result; handed = c.hand-taken.ensures octets spelled; answered = c.as_heard.ensures; spare = refl; run = c.after.ensures }
