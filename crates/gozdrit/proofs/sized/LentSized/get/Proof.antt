-- `get` lends the value, and `self` follows it.
use Rattle.gozdrit.proofs.Walks.{ℕ, [], ◌∷◌, refl, sym, word, tables, no, param, layouts, Ptr, vptr, after, plain, mut_ref_to, says, asked, Goes-spent_ref, inst_fn, a_type, raw, at_ret, ‵, ◌$◌, ◌∵◌, !, qed, by, move, done, rewrite, whole, sub, look_in, enter, of_opd, addr, stop, fld, hop, first, blocks, exec, returns, alloc_all, pass_all, free_all, look_at, get, through, sets, sets_last, env, leaves_it, Walk, bound, Self, Cell, walks, lent_out, follows}
use Rattle.gozdrit.proofs.SizedMemory.{LentSized, sized_opens, sized_there, known_lends}
use Rattle.gozdrit.specs.Lends.{with_known}
use Rattle.gozdrit.specs.contracts.sized.LentSized.get as f
use Rattle.gozdrit.proofs.sized.LentSized.get.Statement.{statement}
use Rattle.gozdrit.proofs.sized.LentSized.get.Code as code

pub get_spec : {M : Type 1} → statement M
get_spec 𝓤 𝓛 𝓜 𝓡 wired X LX =
    let args = layouts (a_type ∷ []) (X, tt) in let R = param 0 X in let P = LentSized R in let Q = mut_ref_to (0 ∷ []) tt (plain (λ _. R)) in let c = f.clauses X 𝓛 𝓜.mem 𝓡.returns in
    let F = inst_fn args code.function in let 𝓣 = tables 𝓤 𝓛.H 𝓜 𝓡 𝓡.env in let E = env F.locals in
    walks 𝓛 P Q no (leaves_it P Q) c (Goes-spent_ref 𝓛 2 (0 ∷ []) tt (plain (λ _. P)), tt) 𝓜 𝓡 (f.Key.name args) F (code.unfolded 𝓤 𝓛.H 𝓜 𝓡 wired (X, tt)) (λ κs qs bounds a g.
    let d = a.0.now in let Post = Walk 𝓛 P Q no (leaves_it P Q) c (bound 𝓛 P Q no (leaves_it P Q) c κs qs bounds a g) in let Ends = λ (δ : ℕ). follows P R a.0.ghost_name δ (with_known d) in
    qed 𝓛 (Self 𝓛 P κs qs a.0 ∷ raw ((c κs a).requires g) ∷ []) ∵ move ! (1 ∷ []) $ asked ! (λ some.
    enter ! _ _ _ _ _ $ alloc_all ! (λ l. pass_all ! refl ((tt, tt), tt) $ sized_opens R ! tt κs qs a.0 (λ may. move ! (1 ∷ []) $ sized_there R ! d.at d.value d.rest some (λ b o x at is low size few.
    move ! (2 ∷ []) $ rewrite ! 0 (λ (p : Ptr). Cell 𝓛 P κs qs a.0 (word p ∷ [])) at refl $
    first ! $ blocks ! $ sets_last ! (addr ! (through ! refl (fld ! refl (hop ! (look_in ! 0 (sub ! 0 refl (whole !))) (stop !))))) refl (tt, tt) $
    exec ! 𝓣.C 𝓣.Λ (E l) (after 1 F.body) (at_ret (E l) Post) $ sets ! (of_opd ! (get ! refl)) refl (tt, tt) $
    known_lends R κs qs a.0 b o x at low size few ! tt (λ δ. returns ! (look_at ! 0 refl) $ free_all ! refl $
    by ! (lent_out 𝓛 P Q κs qs c bounds a g (vptr b o) (record { ref_ptr = (b, o); ghost_name = δ; now = x }) (Ends δ) (qed 𝓛 (‵ (Ends δ) ∷ []) ∵ says ! (sym is) $ done !))))))))
