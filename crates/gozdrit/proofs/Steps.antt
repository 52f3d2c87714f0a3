-- The names that an export's proof cites.
pub use Rattle.std.proofs.Common.{◌≡◌, ℕ, ℤ, List, [], ◌∷◌, refl, w8, w16, w64}
pub use Rattle.std.specs.Prelude.{Option}
pub use Rattle.std.proofs.raw_atomic.Walks.{proved}
pub use Rattle.std.proofs.RcSteps.{word, word_ty, word-Good}
pub use Rattle.std.proofs.Handle.{heap_val, heap_Tells}
pub use base.Logic.{id⊢, emp, ex, ex_i, sep}
pub use base.Fml.{ftrue}
pub use contract.Monad.{fact, fact_i}
pub use contract.Running.{tables}
pub use mir.Syntax.{ty_int, w32}
pub use types.Logic.{sem}
pub use types.Kit.{‵, raw, ◌⊛◌, ◌$◌, ◌∵◌, !, qed, by, move, keep, drop, use0, use1, split, join, fjoin}
pub use types.Run.{enter, of_opd, stop, fld, no_more, and_then, returns}
pub use types.ByLocal.{alloc_all, pass_all, free_all, look_at, get, get_in, sets, lands_as}
pub use types.Part.{agg, sub, whole}
pub use denote.Builtin.{i32, u8, u16, u32, u64, usize}
pub use denote.Plain.{uint_vals, uint_Tells, uint_Makes}
pub use denote.RattleType.{RattleType}
pub use denote.RawPtr.{Ptr, RawPtr, rawptr_vals, rawptr_Tells}
pub use denote.Steps.{nothing, heard, owned}
pub use denote.Triple.Call.{calls_at}
pub use denote.Triple.Entry.{on_entry, Vals}
pub use denote.Triple.Spec.{triple_of}
pub use denote.Triple.Table.{framed}
pub use Rattle.std.specs.contracts.alloc.Global.{the_row as Heap}
pub use Rattle.gozdrit.specs.Lying.{value_lies_at, slice_lies_at, sized_lies_at}
pub use Rattle.gozdrit.proofs.LentMemory.{Lent, ptr_good, value_made}
pub use Rattle.gozdrit.proofs.Handed.{Back, a_value, a_slice, a_sized, code_val, answer1_had, answer2_had, answer3_had, answer4_had, answer5_had}
pub use Rattle.gozdrit.proofs.SliceMemory.{LentSlice, lent_slice_val, lent_slice-Good, slice_made}
pub use Rattle.gozdrit.proofs.Exports.{drops, answered, gone_ptr, gone_int, gone_heap, alloc_made, moved_to, sized_moved, slice_moved, leave}
pub use Rattle.gozdrit.proofs.SizedMemory.{LentSized, sized_made}
