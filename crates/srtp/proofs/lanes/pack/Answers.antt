use Rattle.std.proofs.Common.{◌≡◌, ℕ, List, [], ◌∷◌, get_or, arith}
use Rattle.srtp.specs.Lanes.{state_in}
use Rattle.srtp.proofs.Each.{each_of_4}
use Rattle.srtp.proofs.Packing.{packed}
use Rattle.srtp.proofs.lanes.pack.Goals as goal

pub returns : goal.returns
returns c =
    let words : List ℕ = c.columns.result ∷ c.columns-2.result ∷ c.columns-3.result ∷ c.columns-4.result
    ∷ c.columns-5.result ∷ c.columns-6.result ∷ c.columns-7.result ∷ c.columns-8.result ∷ [] in
    each_of_4 (λ b. state_in c.turned.result b
    ≡ get_or (c.args.first.now ∷ c.args.second.now ∷ c.args.third.now ∷ c.args.fourth.now ∷ []) b [])
    (packed words _ _ 0 (omega arith) c.told-first c.fits-first c.turned.ensures c.columns.ensures c.columns-5.ensures)
    (packed words _ _ 1 (omega arith) c.told-second c.fits-second c.turned.ensures c.columns-2.ensures c.columns-6.ensures)
    (packed words _ _ 2 (omega arith) c.told-third c.fits-third c.turned.ensures c.columns-3.ensures c.columns-7.ensures)
    (packed words _ _ 3 (omega arith) c.told-fourth c.fits-fourth c.turned.ensures c.columns-4.ensures c.columns-8.ensures)
