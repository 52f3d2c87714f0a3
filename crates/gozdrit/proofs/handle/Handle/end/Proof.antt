-- `end` lets the fields go.
use Rattle.std.proofs.Common.{◌≡◌, List, [], ◌∷◌, refl}
use base.Fml.{ftrue, flft}
use contract.BorrowLft.{◌⊑◌}
use contract.Monad.{fact}
use contract.Running.{tables}
use denote.Param.{param, layouts}
use denote.RattleType.{owns}
use denote.Signature.{types_at, plain}
use denote.Steps.{nothing}
use mir.MapTy.{inst_fn}
use mir.Syntax.{a_type}
use types.ByLocal.{alloc_all, pass_all, free_all, look_at, get_in, sets}
use types.Kit.{‵, raw, ◌⊛◌, ◌$◌, ◌∵◌, !, qed, move, drop, split, join, fjoin, suffices, done, feq_i}
use types.Part.{sub, whole}
use types.Run.{enter, of_opd, unit_lit, stop, fld, returns}
use Rattle.std.proofs.alloc.Calls.{Goes-blank}
use Rattle.std.proofs.raw_atomic.Walks.{proved, leaves}
use Rattle.std.specs.Prelude.{None}
use mir.Val.{vunit}
use Rattle.gozdrit.proofs.Exports.{drops}
use Rattle.gozdrit.proofs.LentMemory.{ptr_good}
use Rattle.gozdrit.proofs.Fields.{heap_good}
use Rattle.gozdrit.proofs.HandleMemory.{handle_val, handle-Good, handle_told}
use Rattle.gozdrit.specs.contracts.handle.Handle as handle
use Rattle.gozdrit.specs.contracts.handle.Handle.end as f
use Rattle.gozdrit.proofs.handle.Handle.end.Statement.{statement}
use Rattle.gozdrit.proofs.handle.Handle.end.Code as code

pub end_spec : {M : Type 1} → statement M
end_spec 𝓤 𝓛 𝓜 𝓡 wired T L =
    let E = f.ended T in let c = f.clauses T 𝓛 𝓜.mem 𝓡.returns in let hs = drops E.signature.params E.kept in
    let 𝓣 = tables 𝓤 𝓛.H 𝓜 𝓡 𝓡.env in let args = layouts (a_type ∷ []) (T, tt) in let fn = inst_fn args code.function in
    proved 𝓛 E hs c 𝓜 𝓡 (Goes-blank 𝓛 1 (plain (λ _. handle.the_row (param 0 T))) E.kept.0 (λ κs x w. tt), tt) (f.Key.name args) fn (code.unfolded 𝓤 𝓛.H 𝓜 𝓡 wired (T, tt))
    (λ κs. ((λ d. handle_val d.at d.held ∷ []), tt)) (λ κs. ((λ d vs is. handle_told d.at d.alloc d.held vs is.0), tt)) (λ κs qs bounds a x are.
    let d = a.0 in let κ = κs.0 in let q = qs.0 in let vals : List _ = handle_val d.at d.held ∷ [] in
    qed 𝓛 (((‵ (flft κ q) ⊛ ‵ ftrue) ⊛ ‵ (owns (types_at E.signature.params κs) a (vals, tt))) ∷ (raw (fact 𝓤 (κ ⊑ T.lives)) ⊛ raw (fact 𝓤 (d.inside ≡ None))) ∷ []) ∵ move ! (1 ∷ []) $ drop ! $ split ! $ move ! (1 ∷ []) $ drop ! $
    enter ! _ _ _ _ _ $ alloc_all ! (λ l. pass_all ! refl (handle-Good d.at d.held, tt) $
    sets ! (of_opd ! (get_in ! (fld ! refl (stop !)) (sub ! 0 refl (whole !)))) refl (ptr_good d.at) $
    sets ! (of_opd ! (get_in ! (fld ! refl (stop !)) (sub ! 1 refl (whole !)))) refl heap_good $
    sets ! (of_opd ! (get_in ! (fld ! refl (stop !)) (sub ! 2 refl (whole !)))) refl (tt, tt) $
    sets ! (of_opd ! (unit_lit !)) refl (tt, tt) $ feq_i ! _ (vunit ∷ []) _ refl $ nothing ! $
    returns ! (look_at ! 0 refl) $ free_all ! refl $
    suffices ! _ (leaves 𝓛 E hs c ((κs, qs, bounds, a, (vals, tt)), x) vunit tt (tt, tt) (tt, tt)) $ move ! (1 ∷ 0 ∷ []) $ join ! $
    nothing ! $ nothing ! $ fjoin ! $ join ! $ move ! (1 ∷ []) $ join ! $ done !))
