use Rattle.std.proofs.Common.{rules, ◌≡◌, Bool, true, false, None, Option, Some, ap, refl, subst, sym, if◌then◌else◌}
use Rattle.relays.specs.declared.relay.Turn.{Turn}
use Rattle.gozdrit_relay.specs.Machine.{HandsOn, HearsWhere, after, is_taken, is_turned_away}
use Rattle.gozdrit_relay.proofs.machine.MachineRelay.hear.Goals as goal

pub returns-in_default-clause-hears : goal.returns-in_default-clause-hears
returns-in_default-clause-hears g c =
    let old = c.args.self.now in
    let mid = c.begin.new.self in
    let listens = g.L.Learner.listens old.learner in
    let turn : Turn = record { note = c.unlearnt.result; leaves = None } in
    let heard : is_turned_away listens c.args.side c.args.from old.peers ≡ false = search rules in
    let hands : HandsOn g.R.Relay.hears listens None mid c.args.side c.args.from c.args.octets.now c.args.now turn c.args.out.now mid = search rules in
    subst (λ (away : Bool). HearsWhere away g.R.Relay.hears listens g.L.Learner.begins g.L.Learner.makes old c.args.side c.args.from c.args.octets.now c.args.now turn c.args.out.now mid) (sym heard)
    (mid, c.begin.ensures, subst (λ (o : Option g.row.R.Denot). HandsOn g.R.Relay.hears listens o mid c.args.side c.args.from c.args.octets.now c.args.now turn c.args.out.now mid) (sym c.in_default.is) hands)

pub returns-then-is_taken-clause-hears : goal.returns-then-is_taken-clause-hears
returns-then-is_taken-clause-hears g c =
    let old = c.args.self.now in
    let mid = c.begin.new.self in
    let listens = g.L.Learner.listens old.learner in
    let turn = c.hear-turn.result in
    let next = c.hear-turn.new.self in
    let new = record mid { relay = Some next; last = c.args.now; claims = c.take.new.self } in
    let heard : is_turned_away listens c.args.side c.args.from old.peers ≡ false = search rules in
    let took : is_taken turn.note ≡ true = search rules in
    let is : new ≡ after mid next turn.note c.args.now = search rules in
    subst (λ (away : Bool). HearsWhere away g.R.Relay.hears listens g.L.Learner.begins g.L.Learner.makes old c.args.side c.args.from c.args.octets.now c.args.now turn c.hear-turn.new.out new) (sym heard) (
      mid,
      c.begin.ensures,
      subst (λ (o : Option g.row.R.Denot). HandsOn g.R.Relay.hears listens o mid c.args.side c.args.from c.args.octets.now c.args.now turn c.hear-turn.new.out new) (sym c.in-Some.is)
          (next, c.hear-turn.ensures.hears, is),
    )

pub returns-else-is_taken-clause-hears : goal.returns-else-is_taken-clause-hears
returns-else-is_taken-clause-hears g c =
    let old = c.args.self.now in
    let mid = c.begin.new.self in
    let listens = g.L.Learner.listens old.learner in
    let turn = c.hear-turn.result in
    let next = c.hear-turn.new.self in
    let new = record mid { relay = Some next } in
    let heard : is_turned_away listens c.args.side c.args.from old.peers ≡ false = search rules in
    let took : is_taken turn.note ≡ false = search rules in
    let is : new ≡ after mid next turn.note c.args.now = search rules in
    subst (λ (away : Bool). HearsWhere away g.R.Relay.hears listens g.L.Learner.begins g.L.Learner.makes old c.args.side c.args.from c.args.octets.now c.args.now turn c.hear-turn.new.out new) (sym heard) (
      mid,
      c.begin.ensures,
      subst (λ (o : Option g.row.R.Denot). HandsOn g.R.Relay.hears listens o mid c.args.side c.args.from c.args.octets.now c.args.now turn c.hear-turn.new.out new) (sym c.in-Some.is)
          (next, c.hear-turn.ensures.hears, is),
    )
