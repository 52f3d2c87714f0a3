-- `lend` lends the value, and `self` follows it.
use Rattle.gozdrit.proofs.Walks.{ℕ, [], ◌∷◌, refl, sym, tables, no, param, layouts, Ptr, block_ptr, vptr, after, plain, mut_ref_to, says, asked, Goes-spent_ref, inst_fn, a_type, raw, at_ret, ‵, ◌$◌, ◌∵◌, !, qed, by, move, done, rewrite, whole, sub, look_in, enter, of_opd, addr, stop, fld, hop, first, blocks, exec, returns, alloc_all, pass_all, free_all, look_at, get, through, sets, sets_last, env, leaves_it, Walk, bound, Self, Cell, walks, lent_out, follows}
use Rattle.std.specs.Prelude.{Bool}
use Rattle.gozdrit.specs.HandleLends.{with_inside}
use Rattle.gozdrit.proofs.HandleMemory.{Handle, handle_val, handle_opens, held_there, handle_lends}
use Rattle.gozdrit.specs.contracts.handle.Handle.lend as f
use Rattle.gozdrit.proofs.handle.Handle.lend.Statement.{statement}
use Rattle.gozdrit.proofs.handle.Handle.lend.Code as code

pub lend_spec : {M : Type 1} → statement M
lend_spec 𝓤 𝓛 𝓜 𝓡 wired X LX =
    let args = layouts (a_type ∷ []) (X, tt) in let R = param 0 X in let P = Handle R in let Q = mut_ref_to (0 ∷ []) tt (plain (λ _. R)) in let c = f.clauses X 𝓛 𝓜.mem 𝓡.returns in
    let F = inst_fn args code.function in let 𝓣 = tables 𝓤 𝓛.H 𝓜 𝓡 𝓡.env in let E = env F.locals in
    walks 𝓛 P Q no (leaves_it P Q) c (Goes-spent_ref 𝓛 2 (0 ∷ []) tt (plain (λ _. P)), tt) 𝓜 𝓡 (f.Key.name args) F (code.unfolded 𝓤 𝓛.H 𝓜 𝓡 wired (X, tt)) (λ κs qs bounds a g.
    let d = a.0.now in let Post = Walk 𝓛 P Q no (leaves_it P Q) c (bound 𝓛 P Q no (leaves_it P Q) c κs qs bounds a g) in let Ends = λ (δ : ℕ). follows P R a.0.ghost_name δ (with_inside d) in
    qed 𝓛 (Self 𝓛 P κs qs a.0 ∷ raw ((c κs a).requires g) ∷ []) ∵ move ! (1 ∷ []) $ asked ! (λ some.
    enter ! _ _ _ _ _ $ alloc_all ! (λ l. pass_all ! refl ((tt, tt), tt) $ handle_opens R ! tt κs qs a.0 (λ heap. move ! (1 ∷ []) $ held_there R ! d.alloc d.at d.held d.inside some (λ b o x at flag is.
    move ! (2 ∷ []) $ rewrite ! 0 (λ (p : Ptr). Cell 𝓛 P κs qs a.0 (handle_val p d.held ∷ [])) at refl $ rewrite ! 0 (λ (b' : Bool). Cell 𝓛 P κs qs a.0 (handle_val (block_ptr b o) b' ∷ [])) flag refl $
    first ! $ blocks ! $ sets_last ! (addr ! (through ! refl (fld ! refl (hop ! (look_in ! 0 (sub ! 0 refl (whole !))) (stop !))))) refl (tt, tt) $
    exec ! 𝓣.C 𝓣.Λ (E l) (after 1 F.body) (at_ret (E l) Post) $ sets ! (of_opd ! (get ! refl)) refl (tt, tt) $
    handle_lends R κs qs a.0 b o x at flag heap ! tt (λ δ. returns ! (look_at ! 0 refl) $ free_all ! refl $
    by ! (lent_out 𝓛 P Q κs qs c bounds a g (vptr b o) (record { ref_ptr = (b, o); ghost_name = δ; now = x }) (Ends δ) (qed 𝓛 (‵ (Ends δ) ∷ []) ∵ says ! (sym is) $ done !))))))))
