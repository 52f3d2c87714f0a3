-- What is told of an SSRC is what one of those that answered told.
use Rattle.std.proofs.Common.{◌≡◌, ℕ, ◌==◌, Bool, true, false, List, [], ◌∷◌, Option, Some, None, Contains, if◌then◌else◌, refl, sym, subst, ap, arith}
use Rattle.std.proofs.lemmas.Bool.{eqb-true}
use Rattle.std.proofs.lemmas.List.Elements.{Contains-append_right}
use Rattle.liveness.specs.Living.{source_of}
use Rattle.liveness.specs.declared.living.Source.{Source}

source_in : (other : Source) → Option Source → Source
source_in other None = other
source_in other (Some source) = source

step : (b : Bool) (one : Source) (others : List Source) (ssrc : ℕ) (source : Source) → (one.ssrc == ssrc) ≡ b
    → (if b then Some one else source_of others ssrc) ≡ Some source
    → (source_of others ssrc ≡ Some source → Contains others source × (source.ssrc ≡ ssrc)) → Contains (one ∷ others) source × (source.ssrc ≡ ssrc)
unfolding source_in
step true one others ssrc source is e more =
    let same : one ≡ source = ap (source_in one) e in
    (subst (λ s. Contains (s ∷ others) source) (sym same) (0, omega arith, refl), subst (λ s. s.ssrc ≡ ssrc) same (eqb-true _ _ is))
step false one others ssrc source is e more =
    let among = more e in
    (Contains-append_right (one ∷ []) others source among.0, among.1)

pub told_is_among : (sources : List Source) (ssrc : ℕ) (source : Source) → source_of sources ssrc ≡ Some source
    → Contains sources source × (source.ssrc ≡ ssrc)
told_is_among [] ssrc source e = cc
told_is_among (one ∷ others) ssrc source e = step (one.ssrc == ssrc) one others ssrc source refl e (told_is_among others ssrc source)
