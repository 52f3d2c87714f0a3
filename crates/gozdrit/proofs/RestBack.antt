-- A struct whose octets behind its fields were lent and are the same again.
use Rattle.std.proofs.Common.{◌≡◌, ℕ, List, length, refl, ap, ◌∙◌}
use Rattle.std.specs.List.{refill}
use lib.ListN.{drop as drop_l}
use lib.Seq.{take_at}
use Rattle.gozdrit.specs.declared.sized.LentSized.{LentSized}
use Rattle.gozdrit.specs.Lends.{with_rest}

pub rest_back : {X : Type 0} (p : LentSized X) (ws : List ℕ) → ws ≡ p.rest → with_rest p ws ≡ p
rest_back p ws same =
    let whole : refill (length p.rest) p.rest p.rest ≡ p.rest = take_at p.rest (drop_l (length p.rest) p.rest) (length p.rest) refl in
    ap (λ (l : List ℕ). with_rest p l) same ∙ ap (λ (l : List ℕ). record p { rest = l }) whole
