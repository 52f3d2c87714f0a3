-- `held` hands the block on.
use Rattle.std.proofs.Common.{◌≡◌, List, [], ◌∷◌, refl, sym}
use base.Fml.{ftrue, flft}
use base.Logic.{emp}
use contract.BorrowLft.{◌⊑◌}
use contract.Monad.{fact, fact_i}
use contract.Running.{tables}
use denote.Param.{param, layouts}
use denote.RattleType.{owns}
use denote.Signature.{types_at, plain}
use denote.Steps.{nothing, heard}
use mir.MapTy.{inst_fn}
use mir.Syntax.{a_type}
use types.ByLocal.{alloc_all, pass_all, free_all, look_at, get, get_in, sets}
use types.Kit.{‵, raw, ◌⊛◌, ◌$◌, ◌∵◌, !, qed, move, drop, use0, split, join, fsplit, fjoin, suffices, done, rewrite}
use types.Part.{agg, sub, whole}
use types.Run.{enter, of_opd, stop, fld, no_more, and_then, returns}
use Rattle.std.proofs.alloc.Calls.{Goes-blank}
use Rattle.std.proofs.raw_atomic.Walks.{proved, leaves}
use Rattle.std.specs.Prelude.{Some, IsSome}
use denote.RawPtr.{Ptr}
use Rattle.gozdrit.specs.Held.{boxed_at}
use Rattle.gozdrit.proofs.Exports.{drops}
use Rattle.gozdrit.proofs.LentMemory.{ptr_good}
use Rattle.gozdrit.proofs.Fields.{heap_good, held_val, held-Good, held_made}
use Rattle.gozdrit.proofs.HandleMemory.{handle_val, handle-Good, handle_told, heap_of, held_there}
use Rattle.gozdrit.specs.contracts.handle.Handle as handle
use Rattle.gozdrit.specs.contracts.handle.Handle.held as f
use Rattle.gozdrit.proofs.handle.Handle.held.Statement.{statement}
use Rattle.gozdrit.proofs.handle.Handle.held.Code as code

pub held_spec : {M : Type 1} → statement M
held_spec 𝓤 𝓛 𝓜 𝓡 wired T L =
    let E = f.ended T in let c = f.clauses T 𝓛 𝓜.mem 𝓡.returns in let hs = drops E.signature.params E.kept in
    let 𝓣 = tables 𝓤 𝓛.H 𝓜 𝓡 𝓡.env in let args = layouts (a_type ∷ []) (T, tt) in let fn = inst_fn args code.function in
    proved 𝓛 E hs c 𝓜 𝓡 (Goes-blank 𝓛 1 (plain (λ _. handle.the_row (param 0 T))) E.kept.0 (λ κs x w. tt), tt) (f.Key.name args) fn (code.unfolded 𝓤 𝓛.H 𝓜 𝓡 wired (T, tt))
    (λ κs. ((λ d. handle_val d.at d.held ∷ []), tt)) (λ κs. ((λ d vs is. handle_told d.at d.alloc d.held vs is.0), tt)) (λ κs qs bounds a x are.
    let d = a.0 in let κ = κs.0 in let q = qs.0 in let vals : List _ = handle_val d.at d.held ∷ [] in
    qed 𝓛 (((‵ (flft κ q) ⊛ ‵ ftrue) ⊛ ‵ (owns (types_at E.signature.params κs) a (vals, tt))) ∷ (raw (fact 𝓤 (κ ⊑ T.lives)) ⊛ raw (fact 𝓤 (IsSome d.inside))) ∷ []) ∵ move ! (1 ∷ []) $ split ! $ drop ! $ heard ! (IsSome d.inside) (λ some. split ! $ move ! (1 ∷ []) $ fsplit ! $ fsplit ! $ drop ! $
    -- [the block; nothing; the token]
    move ! (1 ∷ []) $ drop ! $ held_there (param 0 T) ! d.alloc d.at d.held d.inside some (λ b o y at flag is.
    fjoin ! $ rewrite ! 0 (λ (p : Ptr). ‵ (boxed_at (param 0 T) d.alloc p y)) (sym at) refl $
    enter ! _ _ _ _ _ $ alloc_all ! (λ l. pass_all ! refl (handle-Good d.at d.held, tt) $
    sets ! (of_opd ! (get_in ! (fld ! refl (stop !)) (sub ! 0 refl (whole !)))) refl (ptr_good d.at) $
    sets ! (of_opd ! (get_in ! (fld ! refl (stop !)) (sub ! 1 refl (whole !)))) refl heap_good $
    sets ! (of_opd ! (get_in ! (fld ! refl (stop !)) (sub ! 2 refl (whole !)))) refl (tt, tt) $
    sets ! (agg ! (and_then ! (get ! refl) (and_then ! (get ! refl) (no_more !)))) refl (held-Good d.at) $
    held_made d.at d.alloc ! (heap_of d.at d.alloc d.held vals are.0.0) $ fjoin ! $
    returns ! (look_at ! 0 refl) $ free_all ! refl $
    suffices ! _ (leaves 𝓛 E hs c ((κs, qs, bounds, a, (vals, tt)), x) (held_val d.at) (record { at = d.at; heap = d.alloc; content = y }) (tt, tt) (tt, tt)) $
    use0 𝓛 (raw (fact 𝓤 (Some y ≡ d.inside))) (fact_i 𝓤 (Some y ≡ d.inside) (emp 𝓤) (sym is)) $ move ! (1 ∷ 0 ∷ []) $ join ! $
    nothing ! $ nothing ! $ fjoin ! $ join ! $ move ! (1 ∷ []) $ join ! $ done !))))
