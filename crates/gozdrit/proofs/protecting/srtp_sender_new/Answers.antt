use Rattle.std.proofs.Common.{rules, refl, sym, subst, ◌∙◌, take, drop, inr}
use Rattle.std.proofs.lemmas.Option.{same_Some}
use Rattle.contexts.specs.Outbound.{IsSealedWith}
use Rattle.gozdrit.proofs.protecting.srtp_sender_new.Goals as goal

pub returns : goal.returns
returns c = record {
  held = search rules;
  bad = search rules;
  made = λ profile none known len.
      let key = take 16 c.args.key.now in
      let salt = drop 16 c.args.key.now in
      let same = same_Some c.in-Some.profile profile (sym c.in-Some.ensures.0 ∙ known) in
      let keyed = subst (λ p. IsSealedWith c.in-Ok.made p key salt) same (c.in-Ok.ensures.keyed key salt c.in-Some.ensures.2) in
      inr (refl, rw (c.put.ensures, c.in-Ok-new.ensures.ok) (keyed, c.in-Ok.ensures.empty.0, c.in-Ok.ensures.empty.1));
}
