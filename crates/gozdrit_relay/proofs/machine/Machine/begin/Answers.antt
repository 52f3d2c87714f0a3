use Rattle.std.proofs.Common.{rules, ◌≡◌, Bool, true, false, Option, Some, refl, subst}
use Rattle.gozdrit_relay.specs.declared.machine.Beginning.{Beginning}
use Rattle.gozdrit_relay.specs.Machine.{FallsTo}
use Rattle.gozdrit_relay.proofs.machine.Machine.begin.Goals as goal

pub returns-then-not-falls_to : goal.returns-then-not-falls_to
returns-then-not-falls_to g c =
    let old = c.args.self.now in
    let b = c.in-Some.beginning in
    let stays : c.falls_to.result ≡ false = search rules in
    let begins = subst (λ (o : Option Beginning). g.L.Learner.begins old.learner c.args.side c.args.from c.args.octets.now old.relay c.args.now o) c.in-Some.is c.beginning.ensures in
    (Some b, begins, (false, c.falls_to.new.self, subst (λ (falls : Bool). FallsTo old b c.args.from c.args.now falls c.falls_to.new.self) stays c.falls_to.ensures, refl))

pub returns : goal.returns
returns g c =
    let old = c.args.self.now in
    let b = c.in-Some.beginning in
    let mid = c.falls_to.new.self in
    let falls : c.falls_to.result ≡ true = search rules in
    let begins = subst (λ (o : Option Beginning). g.L.Learner.begins old.learner c.args.side c.args.from c.args.octets.now old.relay c.args.now o) c.in-Some.is c.beginning.ensures in
    (Some b, begins, (true, mid, subst (λ (falls : Bool). FallsTo old b c.args.from c.args.now falls mid) falls c.falls_to.ensures, c.replace.ensures))
