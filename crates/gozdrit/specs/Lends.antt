-- What a lent value, or slice, is once a borrow of it has ended.
use Rattle.std.specs.Prelude.{ℕ, List, [], length, Option, Some, None}
use Rattle.std.specs.Borrow.{Lends, MutBor, Fml, Array, u8}
use denote.RattleType.{RattleType}
use Rattle.gozdrit.specs.declared.lent.Lent.{Lent}
use Rattle.gozdrit.specs.contracts.lent.Lent.{the_row}
use Rattle.std.specs.List.{refill}
use Rattle.gozdrit.specs.declared.lent.LentSlice.{LentSlice}
use Rattle.gozdrit.specs.declared.sized.LentSized.{LentSized}
use Rattle.gozdrit.specs.contracts.sized.LentSized.{the_row as sized_row}
use Rattle.gozdrit.specs.contracts.lent.LentSlice.{the_row as slice_row}

-- p with the value w
abbrev pub with_value : {X : Type 0} → Lent X → X → Lent X
with_value p w = record p { value = Some w }

-- p ends with the last value behind r
abbrev pub LendsValue : (R : RattleType) → MutBor (Lent R.Denot) → MutBor R.Denot → Fml
LendsValue R p r = Lends (the_row R) R p r (with_value p.now)

-- the values, if there are any
abbrev pub listed : {X : Type 0} → Option (List X) → List X
listed (Some xs) = xs
listed None = []

-- s with the values ws, of which as many count as there were
abbrev pub with_items : {X : Type 0} → LentSlice X → List X → LentSlice X
with_items s ws = record s { items = Some (refill (length (listed s.items)) (listed s.items) ws) }

-- s ends with the last values behind r
abbrev pub LendsItems : (R : RattleType) → MutBor (LentSlice R.Denot) → MutBor (List R.Denot) → Fml
LendsItems R s r = Lends (slice_row R) (Array R 0) s r (with_items s.now)

-- a struct with these fields, which are known, and the octets behind them as they were
abbrev pub with_known : {X : Type 0} → LentSized X → X → LentSized X
with_known p w = record p { value = Some w }

abbrev pub LendsKnown : (R : RattleType) → MutBor (LentSized R.Denot) → MutBor R.Denot → Fml
LendsKnown R p r = Lends (sized_row R) R p r (with_known p.now)

-- a struct with these octets behind its fields, of which as many count as there were
abbrev pub with_rest : {X : Type 0} → LentSized X → List ℕ → LentSized X
with_rest p ws = record p { rest = refill (length p.rest) p.rest ws }

abbrev pub LendsRest : (R : RattleType) → MutBor (LentSized R.Denot) → MutBor (List ℕ) → Fml
LendsRest R p r = Lends (sized_row R) (Array u8 0) p r (with_rest p.now)
