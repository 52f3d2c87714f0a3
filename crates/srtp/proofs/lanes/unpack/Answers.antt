use Rattle.std.proofs.Common.{◌≡◌, [], ◌∷◌, get_or, rules, arith}
use Rattle.srtp.specs.Lanes.{state_in}
use Rattle.srtp.proofs.Each.{each_of_4}
use Rattle.srtp.proofs.Packing.{unpacked}
use Rattle.srtp.proofs.lanes.unpack.Goals as goal

pub returns : goal.returns
returns c = λ none.
    each_of_4 (λ b. get_or
    (c.block_of.result ∷ c.block_of-2.result ∷ c.block_of-3.result ∷ c.block_of-4.result ∷ []) b none
    ≡ state_in c.args.words.now b)
    (unpacked _ _ _ 0 (omega arith) (search rules) (search rules) c.turned.ensures c.block_of.ensures)
    (unpacked _ _ _ 1 (omega arith) (search rules) (search rules) c.turned.ensures c.block_of-2.ensures)
    (unpacked _ _ _ 2 (omega arith) (search rules) (search rules) c.turned.ensures c.block_of-3.ensures)
    (unpacked _ _ _ 3 (omega arith) (search rules) (search rules) c.turned.ensures c.block_of-4.ensures)
