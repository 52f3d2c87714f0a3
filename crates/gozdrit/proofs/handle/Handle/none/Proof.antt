-- `none` owns nothing.
use Rattle.std.proofs.Common.{◌≡◌, List, [], ◌∷◌, refl}
use base.Fml.{ftrue, flft}
use base.Logic.{emp}
use contract.BorrowLft.{◌⊑◌}
use contract.Monad.{fact, fact_i}
use contract.Running.{tables}
use denote.Param.{layouts}
use denote.RattleType.{owns}
use denote.Signature.{types_at, plain}
use denote.Steps.{nothing}
use mir.MapTy.{inst_fn}
use mir.Syntax.{a_type}
use types.ByLocal.{alloc_all, pass_all, free_all, look_at, get, sets}
use types.Kit.{‵, raw, ◌⊛◌, ◌$◌, ◌∵◌, !, qed, move, drop, use0, split, join, fjoin, suffices, done}
use types.Part.{agg}
use types.Run.{enter, lit, false_lit, no_more, and_then, returns}
use Rattle.std.proofs.raw_atomic.Walks.{proved, leaves}
use Rattle.std.proofs.Handle.{heap_val, heap_Tells}
use Rattle.std.specs.Prelude.{false, None}
use denote.RawPtr.{null_ptr}
use denote.Triple.Walked.{Goes-dropped}
use Rattle.gozdrit.proofs.Exports.{drops}
use Rattle.gozdrit.proofs.Fields.{heap_good}
use Rattle.gozdrit.proofs.HandleMemory.{handle_val, handle-Good, fields_made}
use Rattle.std.specs.contracts.alloc.Global as heap
use Rattle.gozdrit.specs.contracts.handle.Handle.none as f
use Rattle.gozdrit.proofs.handle.Handle.none.Statement.{statement}
use Rattle.gozdrit.proofs.handle.Handle.none.Code as code

pub none_spec : {M : Type 1} → statement M
none_spec 𝓤 𝓛 𝓜 𝓡 wired T L =
    let E = f.ended T in let c = f.clauses T 𝓛 𝓜.mem 𝓡.returns in let hs = drops E.signature.params E.kept in
    let 𝓣 = tables 𝓤 𝓛.H 𝓜 𝓡 𝓡.env in let args = layouts (a_type ∷ []) (T, tt) in let fn = inst_fn args code.function in
    proved 𝓛 E hs c 𝓜 𝓡 (Goes-dropped 𝓛 1 (plain (λ _. heap.the_row)) E.kept.0 (λ κs x w. refl), tt) (f.Key.name args) fn (code.unfolded 𝓤 𝓛.H 𝓜 𝓡 wired (T, tt))
    (λ κs. ((λ d. heap_val ∷ []), tt)) (λ κs. (heap_Tells, tt)) (λ κs qs bounds a x are.
    let d = a.0 in let κ = κs.0 in let q = qs.0 in let vals : List _ = heap_val ∷ [] in
    qed 𝓛 (((‵ (flft κ q) ⊛ ‵ ftrue) ⊛ ‵ (owns (types_at E.signature.params κs) a (vals, tt))) ∷ (raw (fact 𝓤 (κ ⊑ T.lives)) ⊛ ‵ ftrue) ∷ []) ∵ move ! (1 ∷ []) $ drop ! $ split ! $ move ! (1 ∷ []) $ drop ! $
    enter ! _ _ _ _ _ $ alloc_all ! (λ l. pass_all ! refl (heap_good, tt) $
    sets ! (agg ! (and_then ! (lit ! tt) (and_then ! (get ! refl) (and_then ! (false_lit !) (no_more !))))) refl (handle-Good null_ptr false) $
    nothing ! $ fields_made null_ptr d false ! are.0 $ fjoin ! $
    returns ! (look_at ! 0 refl) $ free_all ! refl $
    suffices ! _ (leaves 𝓛 E hs c ((κs, qs, bounds, a, (vals, tt)), x) (handle_val null_ptr false) (record { at = null_ptr; alloc = d; held = false; inside = None }) (tt, tt) (tt, tt)) $
    use0 𝓛 (raw (fact 𝓤 (None ≡ None))) (fact_i 𝓤 (None ≡ None) (emp 𝓤) refl) $ move ! (1 ∷ 0 ∷ []) $ join ! $
    nothing ! $ nothing ! $ fjoin ! $ join ! $ move ! (1 ∷ []) $ join ! $ done !))
