-- An octet that is not 0 lies in no blank octets.
use Rattle.std.proofs.Common.{◌≡◌, ℕ, ◌<◌, List, [], ◌∷◌, ◌++◌, arith}
use Rattle.std.specs.Prelude.{All}
use Rattle.std.proofs.lemmas.List.Elements.{All-head, All-tail}

abbrev zero : ℕ → Type 0
zero octet = octet ≡ 0

pub none_blank : (before : List ℕ) (octet : ℕ) (after : List ℕ) → 0 < octet → All (λ octet. octet ≡ 0) (before ++ octet ∷ after) → ⊥
none_blank [] octet after some blank =
    let is : octet ≡ 0 = All-head zero octet after blank in
    absurd (omega (arith, some, is))
none_blank (x ∷ before) octet after some blank = none_blank before octet after some (All-tail zero x (before ++ octet ∷ after) blank)
