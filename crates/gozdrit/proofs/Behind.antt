-- A struct that has no room for a field behind what version 2.0 had stays as it was.
use Rattle.std.proofs.Common.{◌≡◌, ◌++◌, ◌<◌, ℕ, true, nat_lt, List, drop, length, sym, ap, arith, if◌then◌else◌}
use Rattle.std.proofs.lemmas.Bool.Decides.{nat_tests}
use Rattle.byteorder.specs.Endian.{little_bytes}
use Rattle.gozdrit.specs.declared.sized.LentSized.{LentSized}
use Rattle.gozdrit.specs.Sizes.{told_behind}

nothing_told : (number : ℕ) (rest : List ℕ) → length rest < 8 → told_behind number rest ≡ rest
nothing_told number rest short =
    let is : nat_lt (length rest) 8 ≡ true = grind (arith, nat_tests, short) in
    ap (λ b. if b then rest else little_bytes 8 number ++ drop 8 rest) is

pub stays : {X : Type 0} (p : LentSized X) (number : ℕ) → length p.rest < 8 → p ≡ record p { rest = told_behind number p.rest }
stays p number short = ap (λ (l : List ℕ). record p { rest = l }) (sym (nothing_told number p.rest short))
