use Rattle.std.proofs.Common.{ap, ◌∷◌, List, ℕ}
use Rattle.lines.proofs.HexText.{pair_digits}
use Rattle.lines.proofs.nack_text.spaced_pair.Goals as goal

pub returns : goal.returns
returns c =
    let written = rw c.unwrap.ensures at c.encode_to_slice.ensures.written in
    ap (λ (x : List ℕ). 32 ∷ x) (rw (c.to_be_bytes.ensures, c.to_be_bytes-2.ensures) at (pair_digits _ _ _ _ _ written))
