-- The text of a NACK.
use Rattle.std.proofs.Common.{◌≡◌, ℕ, List, [], ◌∷◌, ◌++◌, map, ap, sym, ◌∙◌, append_assoc, codes}
use Rattle.std.specs.List.{flat_map}
use Rattle.std.proofs.lemmas.Grind.{flat_map-append}
use Rattle.fbwire.specs.Nack.{Nack}
use Rattle.lines.specs.Line.{behind_space, joined}
use Rattle.lines.specs.ShowText.{nack_text, pair_text, ssrc_text}
use Rattle.lines.proofs.LineLemmas.{spaced}

-- what stands before the pairs, and the pairs
pub nack_parts : (n : Nack) → nack_text n ≡ joined (codes "nack" ∷ ssrc_text n.reporter ∷ ssrc_text n.media ∷ []) ++ spaced pair_text n.pairs
nack_parts n =
    let ssrcs : List (List ℕ) = ssrc_text n.reporter ∷ ssrc_text n.media ∷ [] in
    ap (λ (x : List ℕ). codes "nack" ++ x) (flat_map-append behind_space ssrcs (map pair_text n.pairs))
    ∙ sym (append_assoc (codes "nack") (flat_map behind_space ssrcs) (spaced pair_text n.pairs))
