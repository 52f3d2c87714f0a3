use Rattle.std.proofs.Common.{rules, ◌≡◌, Bool, true, false, refl, sym, subst}
use Rattle.endpoint.specs.Measuring.{IsStanding}
use Rattle.gozdrit.specs.Following.{Measures, core_of}
use Rattle.gozdrit.proofs.following.MeteredReceiver.on_datagram.Goals as goal

pub returns-then-not-self : goal.returns-then-not-self
returns-then-not-self c =
    let off : c.args.self.now.follows ≡ false = search rules in
    record {
      mid = c.hear.new.self;
      own = c.hear.ensures.own;
      meter = c.hear.ensures.meter;
      follows = c.hear.ensures.follows;
      by_sent = c.hear.ensures.by_sent;
      copies = c.hear.ensures.copies;
      again = c.hear.ensures.again;
      budget = c.hear.ensures.budget;
      measures = subst (λ (b : Bool). Measures b c.args.self.now c.args.octets.now c.args.now c.hear.result c.hear.new.self c.hear.new.self) (sym off) refl;
    }

pub returns : goal.returns
returns c =
    let on : c.args.self.now.follows ≡ true = search rules in
    let stood : IsStanding (core_of c.args.self.now) c.args.octets.now c.before-standing.result = search rules in
    record {
      mid = c.hear-answer.new.self;
      own = c.hear-answer.ensures.own;
      meter = c.hear-answer.ensures.meter;
      follows = c.hear-answer.ensures.follows;
      by_sent = c.hear-answer.ensures.by_sent;
      copies = c.hear-answer.ensures.copies;
      again = c.hear-answer.ensures.again;
      budget = c.hear-answer.ensures.budget;
      measures = subst (λ (b : Bool). Measures b c.args.self.now c.args.octets.now c.args.now c.hear-answer.result c.hear-answer.new.self c.measure.new.self) (sym on)
          (c.before-standing.result, stood, search rules);
    }
