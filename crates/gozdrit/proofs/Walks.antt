-- The names that this crate's walks cite.
pub use Rattle.std.proofs.Common.{◌≡◌, ℕ, ◌+◌, ◌<◌, ◌^◌, ◌*◌, List, [], ◌∷◌, refl, sym, ap, ◌∙◌, subst, arith}
pub use Rattle.std.specs.Prelude.{Option, Some, IsSome, is_none}
pub use Rattle.std.proofs.RcSteps.{word}
pub use base.Logic.{emp, ent, sep, id⊢}
pub use contract.Monad.{fact_i}
pub use contract.Running.{tables}
pub use denote.Builtin.{bool}
pub use denote.Exit.{yes, no}
pub use denote.Param.{param, layouts}
pub use denote.RawPtr.{Ptr, block_ptr, null_ptr}
pub use denote.Ref.{mut_vals}
pub use denote.Slice.{slice_val}
pub use lib.Dec.{lit<}
pub use mir.Val.{Val, vptr}
pub use Rattle.std.proofs.VecSteps.Shapes.{after}
pub use denote.Plain.{bool_Makes}
pub use denote.RawPtr.{tests_null}
pub use denote.Signature.{plain, mut_ref_to, mut_slice_of}
pub use denote.Steps.{nothing, heard}
pub use denote.Triple.Walked.{says, Goes-ref, Goes-spent_ref}
pub use mir.MapTy.{inst_fn}
pub use mir.Syntax.{Args, a_type}
pub use types.Kit.{‵, raw, at_ret, ◌⊛◌, ◌$◌, ◌∵◌, !, qed, by, move, drop, done, rewrite}
pub use types.Part.{whole, sub, look_in, agg}
pub use types.Run.{enter, of_opd, lit, bin, load, addr, stop, fld, hop, first, blocks, branches, exec, no_more, and_then, returns}
pub use types.ByLocal.{alloc_all, pass_all, free_all, look_at, get, through, sets, sets_last, is, env}
pub use Rattle.gozdrit.proofs.Method.{Method, stays, leaves_it, Self, walks, unchanged, lent_out, self_closes, Cell, asked, Walk, bound}
pub use Rattle.gozdrit.proofs.LentMemory.{Lent, ptr_good, value_made, value_opens, value_there, value_lends}
pub use Rattle.gozdrit.proofs.SliceMemory.{LentSlice, lent_slice_val, slice_made, slice_tested, slice_opens, slice_begins, slice_lends}
pub use denote.Array.{Array}
pub use denote.Follow.{follows}
pub use Rattle.gozdrit.specs.Lends.{with_value, with_items}
