-- `rest` lends the octets behind the value, and `self` follows them.
use Rattle.gozdrit.proofs.Walks.{◌≡◌, ℕ, ◌<◌, ◌+◌, ◌*◌, ◌^◌, [], ◌∷◌, refl, sym, word, tables, param, layouts, Ptr, slice_val, after, plain, mut_vals, says, Goes-spent_ref, inst_fn, a_type, raw, at_ret, ‵, ◌⊛◌, ◌$◌, ◌∵◌, !, qed, by, move, drop, done, nothing, heard, rewrite, whole, sub, look_in, agg, enter, of_opd, lit, bin, load, stop, fld, first, blocks, exec, no_more, and_then, returns, alloc_all, pass_all, free_all, look_at, get, through, sets, sets_last, env, Cell, follows, Array, id⊢, yes, arith}
use Rattle.gozdrit.proofs.SizedMemory.{LentSized, sized_opens, sized_there, rest_lends}
use Rattle.gozdrit.proofs.Exports.{drops}
use Rattle.gozdrit.specs.Lends.{with_rest}
use Rattle.std.specs.Prelude.{length, IsSome}
use Rattle.std.specs.Mem.{type_size}
use Rattle.std.proofs.raw_atomic.Walks.{proved, leaves}
use base.Fml.{ftrue, flft}
use contract.BorrowLft.{◌⊑◌}
use contract.Monad.{fact}
use denote.Builtin.{u8, usize}
use denote.Plain.{UInt, uint_vals, uint_Tells}
use denote.Ref.{MutRef, mut_Tells}
use denote.Triple.Clauses.{at_exit}
use denote.Triple.Entry.{Res}
use denote.Triple.Walked.{walk_of, Goes-dropped}
use mir.Syntax.{named, w64}
use types.Kit.{use1, split, join, fjoin}
use types.Run.{size_lit}
use Rattle.gozdrit.specs.contracts.sized.LentSized.rest as f
use Rattle.gozdrit.proofs.sized.LentSized.rest.Statement.{statement}
use Rattle.gozdrit.proofs.sized.LentSized.rest.Code as code

pub rest_spec : {M : Type 1} → statement M
rest_spec 𝓤 𝓛 𝓜 𝓡 wired X LX =
    let args = layouts (a_type ∷ []) (X, tt) in let R = param 0 X in let P = LentSized R in let T = f.ended X in let c = f.clauses X 𝓛 𝓜.mem 𝓡.returns in let hs = drops T.signature.params T.kept in
    let F = inst_fn args code.function in let 𝓣 = tables 𝓤 𝓛.H 𝓜 𝓡 𝓡.env in let E = env F.locals in
    proved 𝓛 T hs c 𝓜 𝓡 (Goes-spent_ref 𝓛 2 (0 ∷ []) tt (plain (λ _. P)), (Goes-dropped 𝓛 2 (plain (λ _. UInt w64)) yes (λ κs x w. refl), tt)) (f.Key.name args) F (code.unfolded 𝓤 𝓛.H 𝓜 𝓡 wired (X, tt))
    (λ κs. (mut_vals, (uint_vals w64, tt)))
    (λ κs. (mut_Tells (named 0) κs.0 P, (uint_Tells w64, tt))) (λ κs qs bounds a g are.
    let m = a.0 in let n = a.1.0 in let d = m.now in let fits = are.1.0.1 in
    let y : (walk_of 𝓛 T hs c).Ghost = ((κs, qs, bounds, a, (mut_vals m, (uint_vals w64 n, tt))), g) in let Post = (walk_of 𝓛 T hs c).post y in
    let Ends = λ (δ : ℕ). follows P (Array u8 0) m.ghost_name δ (with_rest d) in let there : Type 0 = IsSome d.value in let counts : Type 0 = n ≡ length d.rest in
    qed 𝓛 (((‵ (flft κs.0 qs.0) ⊛ ‵ (flft κs.1.0 qs.1.0) ⊛ ‵ ftrue) ⊛ ‵ ((MutRef (named 0) κs.0 P).own_val m (mut_vals m)) ⊛ ‵ (usize.own_val n (uint_vals w64 n)) ⊛ ‵ ftrue) ∷ raw ((c κs a).requires g) ∷ []) ∵
    split ! $ move ! (1 ∷ []) $ split ! $ move ! (1 ∷ []) $ split ! $ drop ! $ move ! (1 ∷ 0 ∷ []) $ join ! $ move ! (1 ∷ 0 ∷ []) $ join ! $ move ! (1 ∷ []) $
    use1 𝓛 (raw (fact 𝓤 (κs.1.0 ⊑ X.lives)) ⊛ raw (fact 𝓤 there) ⊛ raw (fact 𝓤 counts)) (id⊢ 𝓤 _) $ split ! $ drop ! $ split ! $ heard ! there (λ some. heard ! counts (λ count.
    enter ! _ _ _ _ _ $ alloc_all ! (λ l. pass_all ! refl ((tt, tt), ((tt, record { fits = fits }), tt)) $ sized_opens R ! tt κs qs m (λ may. move ! (1 ∷ []) $ sized_there R ! d.at d.value d.rest some (λ b o x at is low size few.
    let once : 1 * type_size R < 2 ^ 64 = omega (arith, size) in
    move ! (2 ∷ []) $ rewrite ! 0 (λ (p : Ptr). Cell 𝓛 P κs qs m (word p ∷ [])) at refl $
    first ! $ blocks ! $ sets ! (of_opd ! (load ! (through ! refl (fld ! refl (stop !))) (look_in ! 0 (sub ! 0 refl (whole !))))) refl (tt, tt) $
    sets ! (bin ! (lit ! tt) (size_lit ! (record { fits = omega (arith, size) })) (record { fits = once })) refl (tt, record { fits = once }) $
    sets ! (bin ! (get ! refl) (get ! refl) tt) refl (tt, tt) $ sets ! (of_opd ! (get ! refl)) refl (tt, tt) $
    sets_last ! (agg ! (and_then ! (get ! refl) (and_then ! (get ! refl) (no_more !)))) refl (tt, (tt, (record { fits = fits }, tt))) $
    exec ! 𝓣.C 𝓣.Λ (E l) (after 1 F.body) (at_ret (E l) Post) $ sets ! (of_opd ! (get ! refl)) refl (tt, (tt, (record { fits = fits }, tt))) $
    rest_lends R κs qs m b o x at is low size few (1 * type_size R + o) (omega arith) n (sym count) (omega (arith, few), omega (arith, few)) ! tt (λ δ. returns ! (look_at ! 0 refl) $ free_all ! refl $
    let out : Res T.signature κs = record { ref_ptr = (b, 1 * type_size R + o); ghost_name = δ; now = d.rest } in
    move ! (1 ∷ []) $ use1 𝓛 (raw ((c κs a).ensures g out (at_exit T κs a (tt, (tt, tt))))) (qed 𝓛 (‵ (Ends δ) ∷ []) ∵ says ! refl $ done !) $ move ! (1 ∷ 0 ∷ []) $ join ! $
    nothing ! $ nothing ! $ fjoin ! $ nothing ! $ fjoin ! $ join ! $ nothing ! $ move ! (3 ∷ 0 ∷ []) $ join ! $ move ! (2 ∷ 0 ∷ []) $ join ! $ join ! $
    by ! (leaves 𝓛 T hs c y (slice_val (b, 1 * type_size R + o) n) out (tt, (tt, tt)) (tt, (tt, tt))))))))))
