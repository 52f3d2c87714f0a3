-- What was written to the front of a slice, read there.
use Rattle.std.proofs.Common.{◌≡◌, ℕ, ◌++◌, List, [], ◌∷◌, length, take, drop, ap, sym, ◌∙◌, refl, arith, length-append}
use Rattle.rtpwire.specs.Buffer.{in_front, WritesFront}

taken : (xs ys : List ℕ) → take (length xs) (xs ++ ys) ≡ xs
taken [] ys = refl
taken (x ∷ xs) ys = ap (λ l. x ∷ l) (taken xs ys)

pub front_written : (items out out' : List ℕ) (n : ℕ) → out' ≡ in_front items out → n ≡ length items → (take n out' ≡ items) × WritesFront n out out'
front_written items out out' n is long =
    let same : take n out' ≡ items = ap (λ k. take k out') long ∙ ap (λ l. take (length items) l) is ∙ taken items (drop (length items) out) in
    let joined = ap length is ∙ length-append items (drop (length items) out) in
    (same, record { within = omega (arith, joined, long); behind = is ∙ ap (λ l. in_front l out) (sym same) })
