-- `holding` hands the block on.
use Rattle.std.proofs.Common.{◌≡◌, List, [], ◌∷◌, refl}
use base.Fml.{ftrue, flft}
use base.Logic.{emp}
use contract.BorrowLft.{◌⊑◌}
use contract.Monad.{fact, fact_i}
use contract.Running.{tables}
use denote.Param.{param, layouts}
use denote.RattleType.{owns}
use denote.Signature.{types_at, plain}
use denote.Steps.{nothing}
use mir.MapTy.{inst_fn}
use mir.Syntax.{a_type}
use types.ByLocal.{alloc_all, pass_all, free_all, look_at, get, get_in, sets}
use types.Kit.{‵, raw, ◌⊛◌, ◌$◌, ◌∵◌, !, qed, move, drop, use0, split, join, fsplit, fjoin, suffices, done}
use types.Part.{agg, sub, whole}
use types.Run.{enter, of_opd, true_lit, stop, fld, no_more, and_then, returns}
use Rattle.std.proofs.alloc.Calls.{Goes-blank}
use Rattle.std.proofs.raw_atomic.Walks.{proved, leaves}
use Rattle.std.specs.Prelude.{true, Some}
use Rattle.gozdrit.proofs.Exports.{drops}
use Rattle.gozdrit.proofs.LentMemory.{ptr_good}
use Rattle.gozdrit.proofs.Fields.{heap_good, held_val, held-Good, held_told, heap_in}
use Rattle.gozdrit.proofs.HandleMemory.{handle_val, handle-Good, fields_made}
use Rattle.gozdrit.specs.contracts.unboxed.Unboxed as unboxed
use Rattle.gozdrit.specs.contracts.handle.Handle.holding as f
use Rattle.gozdrit.proofs.handle.Handle.holding.Statement.{statement}
use Rattle.gozdrit.proofs.handle.Handle.holding.Code as code

pub holding_spec : {M : Type 1} → statement M
holding_spec 𝓤 𝓛 𝓜 𝓡 wired T L =
    let E = f.ended T in let c = f.clauses T 𝓛 𝓜.mem 𝓡.returns in let hs = drops E.signature.params E.kept in
    let 𝓣 = tables 𝓤 𝓛.H 𝓜 𝓡 𝓡.env in let args = layouts (a_type ∷ []) (T, tt) in let fn = inst_fn args code.function in
    proved 𝓛 E hs c 𝓜 𝓡 (Goes-blank 𝓛 1 (plain (λ _. unboxed.the_row (param 0 T))) E.kept.0 (λ κs x w. tt), tt) (f.Key.name args) fn (code.unfolded 𝓤 𝓛.H 𝓜 𝓡 wired (T, tt))
    (λ κs. ((λ d. held_val d.at ∷ []), tt)) (λ κs. ((λ d vs is. held_told d.at d.heap vs is.0), tt)) (λ κs qs bounds a x are.
    let d = a.0 in let κ = κs.0 in let q = qs.0 in let vals : List _ = held_val d.at ∷ [] in
    qed 𝓛 (((‵ (flft κ q) ⊛ ‵ ftrue) ⊛ ‵ (owns (types_at E.signature.params κs) a (vals, tt))) ∷ (raw (fact 𝓤 (κ ⊑ T.lives)) ⊛ ‵ ftrue) ∷ []) ∵ move ! (1 ∷ []) $ drop ! $ split ! $ move ! (1 ∷ []) $ fsplit ! $ fsplit ! $ drop ! $
    -- [the block; nothing; the token]
    move ! (1 ∷ []) $ drop ! $
    enter ! _ _ _ _ _ $ alloc_all ! (λ l. pass_all ! refl (held-Good d.at, tt) $
    sets ! (of_opd ! (get_in ! (fld ! refl (stop !)) (sub ! 0 refl (whole !)))) refl (ptr_good d.at) $
    sets ! (of_opd ! (get_in ! (fld ! refl (stop !)) (sub ! 1 refl (whole !)))) refl heap_good $
    sets ! (agg ! (and_then ! (get ! refl) (and_then ! (get ! refl) (and_then ! (true_lit !) (no_more !))))) refl (handle-Good d.at true) $
    fields_made d.at d.heap true ! (heap_in d.at d.heap vals are.0.0) $ fjoin ! $
    returns ! (look_at ! 0 refl) $ free_all ! refl $
    suffices ! _ (leaves 𝓛 E hs c ((κs, qs, bounds, a, (vals, tt)), x) (handle_val d.at true) (record { at = d.at; alloc = d.heap; held = true; inside = Some d.content }) (tt, tt) (tt, tt)) $
    use0 𝓛 (raw (fact 𝓤 (Some d.content ≡ Some d.content))) (fact_i 𝓤 (Some d.content ≡ Some d.content) (emp 𝓤) refl) $ move ! (1 ∷ 0 ∷ []) $ join ! $
    nothing ! $ nothing ! $ fjoin ! $ join ! $ move ! (1 ∷ []) $ join ! $ done !))
