-- `take_apart` hands on what `into_raw_with_allocator` gives.
use Rattle.std.proofs.Common.{◌≡◌, [], ◌∷◌, refl, ap}
use base.Fml.{ftrue, flft}
use base.Fraction.{full_share}
use base.Logic.{emp, id⊢}
use contract.BorrowLft.{◌⊑◌}
use contract.Monad.{fact, fact_i}
use contract.Running.{tables}
use denote.Laws.{Is, shows}
use denote.Param.{param, bounded}
use denote.RattleType.{owns}
use denote.Signature.{types_at, type_at, plain}
use denote.Steps.{nothing, facts, only}
use denote.Triple.Call.{calls_at}
use denote.Triple.Spec.{triple_of}
use denote.Triple.Table.{framed}
use mir.MapTy.{inst_fn}
use mir.Syntax.{a_type, dcons, dnil}
use types.Kit.{‵, raw, ◌⊛◌, ◌$◌, ◌∵◌, !, qed, move, drop, use0, use1, split, join, fjoin, suffices, done}
use types.Part.{agg, sub, whole}
use types.Run.{enter, of_opd, stop, fld, no_more, and_then, returns}
use types.ByLocal.{alloc_all, pass_all, free_all, look_at, get, get_in, sets, lands_as}
use Rattle.std.proofs.alloc.Calls.{Goes-blank}
use Rattle.std.proofs.raw_atomic.Walks.{proved, leaves}
use Rattle.std.specs.contracts.alloc.Global.{the_row as Heap}
use Rattle.std.specs.contracts.impls.GlobalAllocator.TheImpl.{ghosts, dict}
use Rattle.std.proofs.impls.GlobalAllocator.TheImpl.Met.{passed}
use Rattle.gozdrit.proofs.Destruct++none.drop.Symbol as none
use Rattle.gozdrit.proofs.Exports.{drops}
use Rattle.gozdrit.proofs.LentMemory.{ptr_good}
use Rattle.gozdrit.specs.Held.{boxed_at}
use Rattle.gozdrit.proofs.Fields.{held_val, heap_good, held-Good, held_told, heap_in, held_made}
use Rattle.gozdrit.proofs.Calls.{Passed, passed_laws, let_go, both_tokens, asks_heap, gives_back, answer}
use Rattle.std.specs.contracts.boxed.Box as box
use Rattle.std.specs.contracts.boxed.Box.into_raw_with_allocator as g
use Rattle.std.proofs.boxed.Box.into_raw_with_allocator.Met.{met}
use Rattle.gozdrit.specs.contracts.unboxed.Unboxed.take_apart as f
use Rattle.gozdrit.proofs.unboxed.Unboxed.take_apart.Statement.{statement}
use Rattle.gozdrit.proofs.unboxed.Unboxed.take_apart.Code as code

pub take_apart_spec : {M : Type 1} → statement M
take_apart_spec 𝓤 𝓛 𝓜 𝓡 wired T L dx glue =
    let E = f.ended T dx in let c = f.clauses T dx 𝓛 𝓜.mem 𝓡.returns in let hs = drops E.signature.params E.kept in
    let 𝓣 = tables 𝓤 𝓛.H 𝓜 𝓡 𝓡.env in let args = bounded (a_type ∷ []) (T, tt) (dcons dx dnil) in let fn = inst_fn args code.function in
    let known = met 𝓤 𝓛 𝓜 𝓡 (code.calls-std_alloc::boxed::Box::into_raw_with_allocator 𝓡.env wired) T Passed L passed_laws ghosts dict let_go dx
    (passed 𝓡.env (code.calls-std_heap::GlobalAllocator::allocate 𝓡.env wired) (code.calls-std_heap::GlobalAllocator::deallocate 𝓡.env wired) (code.calls-std_heap::GlobalAllocator::grow 𝓡.env wired) (code.calls-std_heap::GlobalAllocator::shrink 𝓡.env wired) _ 𝓤 𝓛 𝓜 𝓡)
    (none.glues 𝓡.env (code.calls-gozdrit::Destruct++none::drop 𝓡.env wired) Passed passed_laws _ 𝓤 𝓛 𝓜 𝓡) glue in
    proved 𝓛 E hs c 𝓜 𝓡 (Goes-blank 𝓛 1 (plain (λ _. box.the_row (param 0 T) Heap ghosts)) E.kept.0 (λ κs x w. tt), tt) (f.Key.name args) fn (code.unfolded 𝓤 𝓛.H 𝓜 𝓡 wired (T, tt) dx)
    (λ κs. ((λ d. held_val d.ptr ∷ []), tt)) (λ κs. ((λ d vs is. held_told d.ptr d.alloc vs is.0), tt)) (λ κs qs bounds a x are.
    let v = a.0 in let κ = κs.0 in let q = qs.0 in let G = triple_of 𝓛 (g.signature T Passed ghosts dict let_go dx) (g.spec T Passed ghosts dict let_go dx 𝓛 𝓜.mem 𝓡.returns) in
    let z : G.Ghost = (((κ, ([], tt)), (q, (full_share, tt)), tt, a, (held_val v.ptr ∷ [], tt)), tt) in
    qed 𝓛 (((‵ (flft κ q) ⊛ ‵ ftrue) ⊛ ‵ (owns (types_at E.signature.params κs) a (held_val v.ptr ∷ [], tt))) ∷ (raw (fact 𝓤 (κ ⊑ T.lives)) ⊛ ‵ ftrue) ∷ []) ∵ split ! $ move ! (0 ∷ 2 ∷ []) $
    asks_heap T κ q ! $ move ! (0 ∷ 2 ∷ []) $ join ! $ join ! $ use1 𝓛 (raw (G.pre z)) (id⊢ 𝓤 _) $
    enter ! _ _ _ _ _ $ alloc_all ! (λ l. pass_all ! refl (held-Good v.ptr, tt) $ sets ! (of_opd ! (get ! refl)) refl (held-Good v.ptr) $
    calls_at ! (framed 𝓤 𝓛.H 𝓜 𝓣) G known z (and_then ! (get ! refl) (no_more !)) (λ u.
    answer ! tt (g.ended T Passed ghosts dict let_go dx) (g.clauses T Passed ghosts dict let_go dx 𝓛 𝓜.mem 𝓡.returns) z u (λ r ws.
    -- [the pair; the allocator's fact with the block; the tokens]
    let R = type_at (g.signature T Passed ghosts dict let_go dx).result z.0.0 in facts ! R (Is R) (shows 𝓛 R) r (u ∷ []) (λ is.
    use1 𝓛 (raw (fact 𝓤 (r.1 ≡ v.alloc)) ⊛ ‵ (boxed_at (param 0 T) v.alloc r.0 v.value)) (id⊢ 𝓤 _) $ split ! $ drop ! $
    lands_as ! (ap only (held_told r.0 r.1 (u ∷ []) is)) refl (held-Good r.0) $
    sets ! (of_opd ! (get_in ! (fld ! refl (stop !)) (sub ! 0 refl (whole !)))) refl (ptr_good r.0) $
    sets ! (of_opd ! (get_in ! (fld ! refl (stop !)) (sub ! 1 refl (whole !)))) refl heap_good $
    sets ! (agg ! (and_then ! (get ! refl) (and_then ! (get ! refl) (no_more !)))) refl (held-Good r.0) $
    held_made r.0 r.1 ! (heap_in r.0 r.1 (u ∷ []) is) $ fjoin ! $ move ! (1 ∷ []) $
    use1 𝓛 (both_tokens κ q) (id⊢ 𝓤 _) $ gives_back T κ q ! $
    returns ! (look_at ! 0 refl) $ free_all ! refl $
    suffices ! _ (leaves 𝓛 E hs c ((κs, qs, bounds, a, (held_val v.ptr ∷ [], tt)), x) (held_val r.0) (record { at = r.0; heap = r.1; content = v.value }) (tt, tt) (tt, tt)) $
    use0 𝓛 (raw (fact 𝓤 (v.value ≡ v.value))) (fact_i 𝓤 (v.value ≡ v.value) (emp 𝓤) refl) $ move ! (2 ∷ 0 ∷ []) $ join ! $
    nothing ! $ nothing ! $ fjoin ! $ join ! $ move ! (1 ∷ []) $ join ! $ done !)))))
