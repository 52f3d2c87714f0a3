-- What a handle is once a borrow of its value has ended.
use Rattle.std.specs.Prelude.{Some}
use Rattle.std.specs.Borrow.{Lends, MutBor, Fml}
use denote.RattleType.{RattleType}
use Rattle.gozdrit.specs.declared.handle.Handle.{Handle}
use Rattle.gozdrit.specs.contracts.handle.Handle.{the_row}

-- h with the value w
abbrev pub with_inside : {X : Type 0} → Handle X → X → Handle X
with_inside h w = record h { inside = Some w }

-- h ends with the last value behind r
abbrev pub LendsHeld : (R : RattleType) → MutBor (Handle R.Denot) → MutBor R.Denot → Fml
LendsHeld R h r = Lends (the_row R) R h r (with_inside h.now)
