use Rattle.std.proofs.Common.{◌≡◌, ℕ, ◌-◌, List, [], ◌∷◌, ◌++◌, take, replicate, ◌∙◌, ap, sym, arith, append_assoc}
use Rattle.std.proofs.lemmas.List.{take-replicate}
use Rattle.rtpwire.proofs.Written.{written_padding-some}
use Rattle.rtpwire.proofs.write.push_padding.Goals as goal

pub returns-then-padding-gt0 : goal.returns-then-padding-gt0
returns-then-padding-gt0 c =
    let some = c.if-padding-gt0.true in
    let before : c.from.result - 1 ≡ c.args.padding - 1 = omega (arith, c.from.ensures) in
    let fits = c.ranges.padding in
    let zeros : take (c.from.result - 1) (replicate 254 0) ≡ replicate (c.args.padding - 1) 0 =
    ap (λ k. take k (replicate 254 0)) before ∙ take-replicate (c.args.padding - 1) 254 0 (omega arith) in
    c.push_octets-then-padding-gt0.ensures
    ∙ ap (λ (x : List ℕ). x ++ c.args.padding ∷ []) (c.push_octets.ensures ∙ ap (λ (x : List ℕ). c.args.out.now.items ++ x) zeros)
    ∙ append_assoc c.args.out.now.items (replicate (c.args.padding - 1) 0) (c.args.padding ∷ [])
    ∙ ap (λ (x : List ℕ). c.args.out.now.items ++ x) (sym (written_padding-some c.args.padding some))
