-- What a handle owns: the block of a value, and the right to free it, or nothing.
use Rattle.std.specs.Prelude.{Bool, true, false, Option, Some, None}
use base.Fml.{Fml, ftrue, ffalse}
use denote.RattleType.{RattleType}
use denote.RawPtr.{Ptr}
use Rattle.std.specs.Box.Ownership.{box_owns}
use Rattle.std.specs.contracts.alloc.Global as global
use Rattle.std.specs.contracts.impls.GlobalAllocator.TheImpl.{ghosts}

-- a block with a value, as its box owns it
abbrev pub boxed_at : (R : RattleType) → global.the_row.Denot → Ptr → R.Denot → Fml
boxed_at R alloc at value = box_owns (ghosts.dealloc_token alloc) R at value

-- what a handle owns, by whether it says that it owns a value
abbrev pub held_at : (R : RattleType) → global.the_row.Denot → Ptr → Bool → Option R.Denot → Fml
held_at R alloc at true (Some value) = boxed_at R alloc at value
held_at R alloc at false None = ftrue
held_at R alloc at true None = ffalse
held_at R alloc at false (Some value) = ffalse
