use Rattle.std.proofs.Common.{sym, add-one, arith}
use Rattle.srtp.proofs.Xor.{xor_none, xor_more}
use Rattle.srtp.proofs.octets.xor_into.Goals as goal

pub loop-i-init : goal.loop-i-init
loop-i-init c = sym (xor_none c.args.octets.now)

pub loop-i-preserved : goal.loop-i-preserved
loop-i-preserved c =
    rw (add-one, c.loop-i.invariant) (xor_more c.args.octets.now c.args.with.now c.loop-i.i (omega arith) (omega arith))
