use Rattle.std.proofs.Common.{◌≡◌, ◌∙◌, refl, take, arith}
use Rattle.std.proofs.lemmas.List.{take_all}
use Rattle.srtp.proofs.SameOctets.{same_more}
use Rattle.srtp.proofs.seal.same_tag.Goals as goal

pub loop-i-preserved : goal.loop-i-preserved
loop-i-preserved c =
    let b = c.requires in
    same_more c.args.a.now c.args.b.now c.loop-i.i c.loop-i.differing (omega arith) (omega arith) c.loop-i.invariant

pub returns : goal.returns
returns c =
    let a : take c.loop-i.i c.args.a.now ≡ c.args.a.now = take_all c.loop-i.i c.args.a.now (omega arith) in
    let b : take c.loop-i.i c.args.b.now ≡ c.args.b.now = take_all c.loop-i.i c.args.b.now (omega arith) in
    c.loop-i.invariant ∙ rw (a, b) refl
