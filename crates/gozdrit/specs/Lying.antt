-- What lies where a pointer of C points.
use Rattle.std.specs.Prelude.{ℕ, zero, suc, ◌+◌, ◌*◌, List, [], length, Option, Some, None, ◌^◌}
use Rattle.std.specs.Mem.{type_size}
use base.Fml.{Fml, ftrue, ffalse, fsep, feq, flt}
use base.Fraction.{full_share}
use denote.Builtin.{u8}
use denote.Memory.{mem}
use denote.RattleType.{RattleType}
use types.SemTy.{cells}
use denote.RawPtr.{Ptr, block_ptr, null_ptr, lies_at}

-- the pointer is null and there is no value, or the value lies there, at an address that may be compared with null
abbrev pub value_lies_at : (R : RattleType) → Ptr → Option R.Denot → Fml
value_lies_at R (block_ptr b o) (Some x) = fsep (flt o (2 ^ 63)) (lies_at R full_share (block_ptr b o) x)
value_lies_at R null_ptr None = ftrue
value_lies_at R (block_ptr b o) None = ffalse
value_lies_at R null_ptr (Some x) = ffalse

-- as many values as are said lie there, one after another; null has none of them, which is none at all where their number is 0
abbrev pub slice_lies_at : (R : RattleType) → Ptr → ℕ → Option (List R.Denot) → Fml
slice_lies_at R (block_ptr b o) n (Some xs) = fsep (flt o (2 ^ 63)) (fsep (feq ℕ (length xs) n) (fsep (flt (n * type_size R) (2 ^ 63)) (cells (mem R) xs b o)))
slice_lies_at R null_ptr zero (Some []) = ftrue
slice_lies_at R null_ptr (suc n) None = ftrue
slice_lies_at R p n v = ffalse

-- the pointer is null and there is no value, or the value lies there, and behind it these octets
abbrev pub sized_lies_at : (R : RattleType) → Ptr → Option R.Denot → List ℕ → Fml
sized_lies_at R (block_ptr b o) (Some x) ys =
    fsep (flt o (2 ^ 63)) (fsep (flt (type_size R) (2 ^ 63)) (fsep (flt (length ys) (2 ^ 63)) (fsep (lies_at R full_share (block_ptr b o) x) (cells (mem u8) ys b (o + type_size R)))))
sized_lies_at R null_ptr None [] = ftrue
sized_lies_at R p v ys = ffalse
