use Rattle.std.proofs.Common.{◌≡◌, ◌∙◌, ◌&&◌, Bool, ℕ, Err, ap, nat_lt, refl, subst, sym, true, false}
use Rattle.rtpwire.specs.Session.{Streams}
use Rattle.stores.specs.declared.slot.PutFault.TheVariants.{Late}
use Rattle.receiver.specs.Config.{Config}
use Rattle.receiver.specs.declared.fault.ReceiveFault.TheVariants.{Put}
use Rattle.endpoint.specs.Receiving.{HearsUnless, HearsWanted, IsMediaNumber, ends_of, wanted_at}
use Rattle.endpoint.specs.Seen.{is_repeat}
use Rattle.endpoint.proofs.receiving.ReceivingEndpoint.hear_read.Goals as goal

pub returns-then-is_held_repeat-clause-hears : goal.returns-then-is_held_repeat-clause-hears
returns-then-is_held_repeat-clause-hears g c =
    let self = c.args.self.now in
    let octets = c.args.octets.now in
    let number = c.number_in-number.result in
    let ends = ends_of self.core self.spare self.run in
    let session = c.session-session.ensures ∙ ap (λ (k : Config). k.session) c.config.ensures in
    let held : (nat_lt 0 (wanted_at self.probation self.core.span number) && is_repeat self.seen number octets) ≡ true =
    sym (ap (λ (w : ℕ). nat_lt 0 w && is_repeat self.seen number octets) c.wanted_at-wanted.ensures) ∙ sym c.is_held_repeat.ensures ∙ c.if-is_held_repeat.true in
    record {
      number = number;
      is_number = subst (λ (s : Streams). IsMediaNumber s octets number) session (c.number_in-number.ensures.number octets c.requires);
      spelled = c.number_in-number.ensures.spelled octets c.requires;
      heard =
          subst (λ (b : Bool). HearsUnless b self.probation ends (wanted_at self.probation self.core.span number) number octets c.args.now (Err (Put Late)) ends)
          (sym held) (refl, refl);
    }

pub returns-clause-hears : goal.returns-clause-hears
returns-clause-hears g c =
    let self = c.args.self.now in
    let octets = c.args.octets.now in
    let number = c.number_in-number.result in
    let ends = ends_of self.core self.spare self.run in
    let after = ends_of c.hear_wanted.new.core c.hear_wanted.new.spare c.hear_wanted.new.run in
    let session = c.session-session.ensures ∙ ap (λ (k : Config). k.session) c.config.ensures in
    let new : (nat_lt 0 (wanted_at self.probation self.core.span number) && is_repeat self.seen number octets) ≡ false =
    sym (ap (λ (w : ℕ). nat_lt 0 w && is_repeat self.seen number octets) c.wanted_at-wanted.ensures) ∙ sym c.is_held_repeat.ensures ∙ c.if-is_held_repeat.false in
    record {
      number = number;
      is_number = subst (λ (s : Streams). IsMediaNumber s octets number) session (c.number_in-number.ensures.number octets c.requires);
      spelled = c.number_in-number.ensures.spelled octets c.requires;
      heard =
          subst (λ (b : Bool). HearsUnless b self.probation ends (wanted_at self.probation self.core.span number) number octets c.args.now c.hear_wanted.result after)
          (sym new) (subst (λ (w : ℕ). HearsWanted self.probation ends w number octets c.args.now c.hear_wanted.result after) c.wanted_at-wanted.ensures (c.hear_wanted.ensures octets c.requires));
    }
