use Rattle.std.proofs.Common.{◌∙◌, ◌++◌, ℕ, List, drop, arith, ap, sym}
use Rattle.std.proofs.lemmas.List.{take_rest}
use Rattle.byteorder.specs.Endian.{big_bytes}
use Rattle.rtpwire.proofs.Repairs.{number_and_rest}
use Rattle.rtpwire.proofs.retransmission.split_original.Goals as goal

pub returns-clause-some : goal.returns-clause-some
returns-clause-some c = (
  omega arith,
  number_and_rest c.args.payload.now (λ i. omega (arith, c.type_inv.payload i)) (omega arith)
      ∙ ap (λ (n : ℕ). big_bytes 2 n ++ drop 2 c.args.payload.now) (sym c.u16_at.ensures)
      ∙ ap (λ (x : List ℕ). big_bytes 2 c.u16_at.result ++ x) (sym (take_rest c.args.payload.now 2)),
)
