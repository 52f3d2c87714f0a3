use Rattle.std.proofs.Common.{◌*◌, ◌∙◌, sym, length, rules, arith}
use Rattle.srtp.specs.Counter.{keystream, encrypted, block_count}
use Rattle.srtp.proofs.Xor.{xor_none}
use Rattle.srtp.proofs.Keystream.{chunk_is, next_chunk, no_longer}
use Rattle.srtp.proofs.counter.encrypt.Goals as goal

pub loop-j-init : goal.loop-j-init
unfolding keystream
loop-j-init c = λ master keys. sym (xor_none c.args.text.now)

pub loop-j-preserved : goal.loop-j-preserved
loop-j-preserved c = λ master keys.
    next_chunk master c.args.base.now c.args.text.now c.loop-j.text _ _ c.blocks-in-loop-j.result c.loop-j.j _
    (c.loop-j.invariant master keys) (omega arith)
    c.min-len.ensures (search rules)
    (chunk_is master c.args.base.now _ _ c.blocks-in-loop-j.result (16 * c.loop-j.j) c.counters-states.ensures
    (λ empty j b. c.encrypt_lanes.ensures master empty j b keys) c.blocks-in-loop-j.ensures)
    c.as_flattened.ensures.value c.xor_at.ensures

pub returns : goal.returns
unfolding encrypted
returns c = λ master keys.
    let n = block_count (length c.args.text.now) in
    c.loop-j.invariant master keys
    ∙ no_longer master c.args.base.now c.args.text.now n (16 * c.loop-j.j) (omega arith) (omega arith)
