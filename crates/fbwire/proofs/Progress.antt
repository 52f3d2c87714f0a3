-- An iterator whose list of what is left loses its first item gets nearer its end.
use Rattle.std.proofs.Common.{◌≡◌, List, ◌∷◌, length, Some, ap, arith}
use Rattle.std.specs.Iterator.{MakesProgress, item_count}

pub progress : {A : Type 0} (old new : List A) (x : A) → old ≡ x ∷ new → MakesProgress (λ _. Unit {0}) (item_count (λ s. s)) old (Some x) new
progress old new x e =
    let less = ap length e in
    record { on = λ _. (tt, tt, omega arith); keeps = tt; rests = λ _. tt }
