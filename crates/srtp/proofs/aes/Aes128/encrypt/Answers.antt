use Rattle.std.proofs.Common.{◌∙◌, [], ap, arith}
use Rattle.srtp.specs.Aes.{aes128}
use Rattle.srtp.proofs.aes.Aes128.encrypt.Goals as goal

pub returns : goal.returns
returns c = λ key keys.
    c.unpack.ensures [] 0 (omega arith) ∙ c.encrypt_lanes.ensures key [] 0 0 keys (omega arith) (omega arith)
    ∙ ap (aes128 key) (c.pack-states.ensures 0 (omega arith))
