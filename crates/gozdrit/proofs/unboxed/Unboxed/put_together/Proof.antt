-- `put_together` hands its parts to `from_raw`.
use Rattle.std.proofs.Common.{◌≡◌, List, [], ◌∷◌, refl, sym, ap, subst}
use base.Fml.{ftrue, flft}
use base.Fraction.{full_share}
use base.Logic.{id⊢}
use contract.BorrowLft.{◌⊑◌}
use contract.Monad.{fact}
use contract.Running.{tables}
use denote.Laws.{Is, shows}
use denote.Param.{param, layouts}
use denote.RattleType.{owns}
use denote.RawPtr.{ptr_val}
use denote.Signature.{types_at, type_at, plain}
use denote.Steps.{nothing, peeks, only}
use denote.Triple.Call.{calls_at_last}
use denote.Triple.Spec.{triple_of}
use denote.Triple.Table.{framed}
use denote.Triple.Walked.{walk_of}
use mir.MapTy.{inst_fn}
use mir.Syntax.{a_type}
use mir.Val.{Val}
use types.ByLocal.{alloc_all, pass_all, free_all, look_at, get, get_in, sets, lands_last, env}
use types.Kit.{‵, raw, ◌⊛◌, at_ret, ◌$◌, ◌∵◌, !, qed, move, drop, use1, split, split3, join, group, fsplit, fjoin, feq_i, suffices, done}
use types.Part.{sub, whole}
use types.Run.{enter, of_opd, stop, fld, no_more, and_then, first, blocks, exec, returns}
use Rattle.std.proofs.alloc.Calls.{Goes-blank}
use Rattle.std.proofs.alloc.Shapes.{after}
use Rattle.std.proofs.Handle.{heap_val}
use Rattle.std.proofs.RcSteps.{Good}
use Rattle.std.proofs.raw_atomic.Walks.{proved, leaves}
use Rattle.std.specs.contracts.impls.GlobalAllocator.TheImpl.{ghosts, dict}
use Rattle.std.proofs.impls.GlobalAllocator.TheImpl.Met.{passed}
use Rattle.gozdrit.proofs.Destruct++none.drop.Symbol as none
use Rattle.gozdrit.proofs.Exports.{drops, alloc_made}
use Rattle.gozdrit.proofs.LentMemory.{ptr_good}
use Rattle.gozdrit.proofs.Fields.{held_val, held_ty, heap_good, held-Good, held_told, heap_in}
use Rattle.gozdrit.proofs.Calls.{Passed, passed_laws, let_go, both_tokens, asks_heap, gives_back, answer}
use Rattle.std.specs.contracts.boxed.Box.from_raw as g
use Rattle.std.proofs.boxed.Box.from_raw.Met.{met}
use Rattle.gozdrit.specs.contracts.unboxed.Unboxed as unboxed
use Rattle.gozdrit.specs.contracts.unboxed.Unboxed.put_together as f
use Rattle.gozdrit.proofs.unboxed.Unboxed.put_together.Statement.{statement}
use Rattle.gozdrit.proofs.unboxed.Unboxed.put_together.Code as code

pub put_together_spec : {M : Type 1} → statement M
put_together_spec 𝓤 𝓛 𝓜 𝓡 wired T L =
    let E = f.ended T in let c = f.clauses T 𝓛 𝓜.mem 𝓡.returns in let hs = drops E.signature.params E.kept in let W = walk_of 𝓛 E hs c in
    let 𝓣 = tables 𝓤 𝓛.H 𝓜 𝓡 𝓡.env in let args = layouts (a_type ∷ []) (T, tt) in let fn = inst_fn args code.function in
    let known = met 𝓤 𝓛 𝓜 𝓡 (code.calls-std_alloc::boxed::Box::from_raw 𝓡.env wired) T Passed L passed_laws ghosts dict let_go
    (passed 𝓡.env (code.calls-std_heap::GlobalAllocator::allocate 𝓡.env wired) (code.calls-std_heap::GlobalAllocator::deallocate 𝓡.env wired) (code.calls-std_heap::GlobalAllocator::grow 𝓡.env wired) (code.calls-std_heap::GlobalAllocator::shrink 𝓡.env wired) _ 𝓤 𝓛 𝓜 𝓡)
    (none.glues 𝓡.env (code.calls-gozdrit::Destruct++none::drop 𝓡.env wired) Passed passed_laws _ 𝓤 𝓛 𝓜 𝓡) in
    proved 𝓛 E hs c 𝓜 𝓡 (Goes-blank 𝓛 1 (plain (λ _. unboxed.the_row (param 0 T))) E.kept.0 (λ κs x w. tt), tt) (f.Key.name args) fn (code.unfolded 𝓤 𝓛.H 𝓜 𝓡 wired (T, tt))
    (λ κs. ((λ d. held_val d.at ∷ []), tt)) (λ κs. ((λ d vs is. held_told d.at d.heap vs is.0), tt)) (λ κs qs bounds a x are.
    let d = a.0 in let κ = κs.0 in let q = qs.0 in let vals : List Val = held_val d.at ∷ [] in
    let G = triple_of 𝓛 (g.signature T Passed ghosts dict let_go) (g.spec T Passed ghosts dict let_go 𝓛 𝓜.mem 𝓡.returns) in
    let z : G.Ghost = (((κ, ([], tt)), (q, (full_share, tt)), tt, (d.heap, (d.at, tt)), (heap_val ∷ [], (ptr_val d.at ∷ [], tt))), d.content) in
    let y : W.Ghost = ((κs, qs, bounds, a, (vals, tt)), x) in
    qed 𝓛 (((‵ (flft κ q) ⊛ ‵ ftrue) ⊛ ‵ (owns (types_at E.signature.params κs) a (vals, tt))) ∷ (raw (fact 𝓤 (κ ⊑ T.lives)) ⊛ ‵ ftrue) ∷ []) ∵ split ! $ move ! (0 ∷ 2 ∷ []) $
    asks_heap T κ q ! $ move ! (1 ∷ 2 ∷ []) $ split3 ! $ move ! (3 ∷ []) $ fsplit ! $ fsplit ! $
    -- [the fields; the block; nothing; two bounds; nothing; the tokens]
    move ! (3 ∷ 4 ∷ 1 ∷ []) $ group ! 3 $ move ! (1 ∷ 2 ∷ []) $ drop ! $ drop ! $
    move ! (1 ∷ []) $ feq_i ! (List Val) (ptr_val d.at ∷ []) (ptr_val d.at ∷ []) refl $ fjoin ! $ alloc_made ! d.heap (heap_in d.at d.heap vals are.0.0) $ fjoin ! $
    move ! (2 ∷ 0 ∷ []) $ join ! $ join ! $ use1 𝓛 (raw (G.pre z)) (id⊢ 𝓤 _) $
    enter ! _ _ _ _ _ $ alloc_all ! (λ l. pass_all ! refl (held-Good d.at, tt) $
    sets ! (of_opd ! (get_in ! (fld ! refl (stop !)) (sub ! 0 refl (whole !)))) refl (ptr_good d.at) $
    sets ! (of_opd ! (get_in ! (fld ! refl (stop !)) (sub ! 1 refl (whole !)))) refl heap_good $ first ! $ blocks ! $
    calls_at_last ! (framed 𝓤 𝓛.H 𝓜 𝓣) G known z (and_then ! (get ! refl) (and_then ! (get ! refl) (no_more !))) (λ u.
    answer ! tt (g.ended T Passed ghosts dict let_go) (g.clauses T Passed ghosts dict let_go 𝓛 𝓜.mem 𝓡.returns) z u (λ r ws.
    -- [the box; what it holds, and its allocator; the tokens]
    let R = type_at (g.signature T Passed ghosts dict let_go).result z.0.0 in peeks ! R (Is R) (shows 𝓛 R) r (u ∷ []) (λ is. move ! (1 ∷ []) $
    use1 𝓛 (raw (fact 𝓤 (r.value ≡ d.content)) ⊛ raw (fact 𝓤 (r.alloc ≡ d.heap))) (id⊢ 𝓤 _) $ split ! $ move ! (1 ∷ []) $ drop ! $
    let good : Good held_ty u = subst (Good held_ty) (sym (ap only (held_told r.ptr r.alloc (u ∷ []) is.0))) (held-Good r.ptr) in
    lands_last ! refl good $ exec ! 𝓣.C 𝓣.Λ (env fn.locals l) (after 3 fn.body) (at_ret _ (W.post y)) $ sets ! (of_opd ! (get ! refl)) refl good $
    returns ! (look_at ! 0 refl) $ free_all ! refl $ move ! (2 ∷ []) $ use1 𝓛 (both_tokens κ q) (id⊢ 𝓤 _) $ gives_back T κ q ! $
    suffices ! _ (leaves 𝓛 E hs c y u r (tt, tt) (tt, tt)) $ move ! (2 ∷ 1 ∷ []) $ join ! $
    nothing ! $ nothing ! $ fjoin ! $ join ! $ move ! (1 ∷ []) $ join ! $ done !)))))
