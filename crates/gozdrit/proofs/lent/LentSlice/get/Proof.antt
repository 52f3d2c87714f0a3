-- `get` lends the values, and the slice follows them.
use Rattle.gozdrit.proofs.Walks.{[], ◌∷◌, refl, sym, subst, arith, ℕ, ◌<◌, ◌*◌, ◌^◌, lit<, tables, no, param, layouts, Ptr, block_ptr, null_ptr, slice_val, tests_null, after, plain, mut_slice_of, says, asked, Goes-spent_ref, inst_fn, a_type, raw, at_ret, ‵, ◌$◌, ◌∵◌, !, qed, by, move, done, nothing, rewrite, whole, sub, look_in, agg, enter, of_opd, lit, bin, load, addr, stop, fld, first, blocks, branches, exec, no_more, and_then, returns, alloc_all, pass_all, free_all, look_at, get, through, sets, sets_last, env, leaves_it, Walk, bound, Self, Cell, walks, lent_out, Array, follows, with_items, LentSlice, lent_slice_val, slice_opens, slice_begins, slice_lends}
use native.Mathlib.Nat.{zero-mul}
use Rattle.std.specs.Mem.{type_size}
use Rattle.gozdrit.specs.contracts.lent.LentSlice.get as f
use Rattle.gozdrit.proofs.lent.LentSlice.get.Statement.{statement}
use Rattle.gozdrit.proofs.lent.LentSlice.get.Code as code

pub get_spec : {M : Type 1} → statement M
get_spec 𝓤 𝓛 𝓜 𝓡 wired X LX =
    let args = layouts (a_type ∷ []) (X, tt) in let R = param 0 X in let P = LentSlice R in let Q = mut_slice_of (0 ∷ []) tt (plain (λ _. R)) in let c = f.clauses X 𝓛 𝓜.mem 𝓡.returns in
    let F = inst_fn args code.function in let 𝓣 = tables 𝓤 𝓛.H 𝓜 𝓡 𝓡.env in let E = env F.locals in
    walks 𝓛 P Q no (leaves_it P Q) c (Goes-spent_ref 𝓛 2 (0 ∷ []) tt (plain (λ _. P)), tt) 𝓜 𝓡 (f.Key.name args) F (code.unfolded 𝓤 𝓛.H 𝓜 𝓡 wired (X, tt)) (λ κs qs bounds a g.
    let m = a.0 in let d = m.now in let Post = Walk 𝓛 P Q no (leaves_it P Q) c (bound 𝓛 P Q no (leaves_it P Q) c κs qs bounds a g) in let Ends = λ (δ : ℕ). follows P (Array R 0) m.ghost_name δ (with_items d) in
    qed 𝓛 (Self 𝓛 P κs qs m ∷ raw ((c κs a).requires g) ∷ []) ∵ move ! (1 ∷ []) $ asked ! (λ some.
    enter ! _ _ _ _ _ $ alloc_all ! (λ l. pass_all ! refl ((tt, tt), tt) $ slice_opens R ! tt κs qs m (λ fits. move ! (1 ∷ []) $ slice_begins R ! d.at d.len d.items some
    -- the values lie in a block
    (λ b o xs at is low count small lays. move ! (1 ∷ []) $ rewrite ! 0 (λ (p : Ptr). Cell 𝓛 P κs qs m (lent_slice_val p d.len ∷ [])) at refl $
    sets ! (of_opd ! (load ! (through ! refl (fld ! refl (stop !))) (look_in ! 0 (sub ! 0 refl (whole !))))) refl (tt, tt) $
    sets ! (bin ! (get ! refl) (lit ! tt) (tests_null (block_ptr b o) low)) refl (tt, tt) $
    first ! $ branches ! (get ! refl) (λ null. absurd null) (λ _. sets_last ! (of_opd ! (load ! (through ! refl (fld ! refl (stop !))) (look_in ! 0 (sub ! 0 refl (whole !))))) refl (tt, tt) $
    exec ! 𝓣.C 𝓣.Λ (E l) (after 3 F.body) (at_ret (E l) Post) $ sets ! (of_opd ! (get ! refl)) refl (tt, tt) $
    first ! $ blocks ! $ sets ! (of_opd ! (load ! (through ! refl (fld ! refl (stop !))) (look_in ! 0 (sub ! 1 refl (whole !))))) refl (tt, record { fits = fits }) $
    sets_last ! (agg ! (and_then ! (get ! refl) (and_then ! (get ! refl) (no_more !)))) refl (tt, (tt, (record { fits = fits }, tt))) $
    exec ! 𝓣.C 𝓣.Λ (E l) (after 5 F.body) (at_ret (E l) Post) $ sets ! (of_opd ! (get ! refl)) refl (tt, (tt, (record { fits = fits }, tt))) $
    slice_lends R κs qs m (block_ptr b o) b o xs at is count fits (omega (arith, count, fits), subst (λ (n : ℕ). n * type_size R < 2 ^ 63) (sym count) small) lays ! tt (λ δ. returns ! (look_at ! 0 refl) $ free_all ! refl $
    by ! (lent_out 𝓛 P Q κs qs c bounds a g (slice_val (b, o) d.len) (record { ref_ptr = (b, o); ghost_name = δ; now = xs }) (Ends δ) (qed 𝓛 (‵ (Ends δ) ∷ []) ∵ says ! (sym is) $ done !)))))
    -- there are none: an empty slice at `self`
    (λ at is count lays. rewrite ! 0 (λ (p : Ptr). Cell 𝓛 P κs qs m (lent_slice_val p d.len ∷ [])) at refl $
    sets ! (of_opd ! (load ! (through ! refl (fld ! refl (stop !))) (look_in ! 0 (sub ! 0 refl (whole !))))) refl (tt, record { fits = lit< tt }) $
    sets ! (bin ! (get ! refl) (lit ! tt) (tests_null null_ptr (omega arith))) refl (tt, tt) $
    first ! $ branches ! (get ! refl) (λ _. sets ! (addr ! (through ! refl (stop !))) refl (tt, tt) $ sets_last ! (of_opd ! (get ! refl)) refl (tt, tt) $
    exec ! 𝓣.C 𝓣.Λ (E l) (after 3 F.body) (at_ret (E l) Post) $ sets ! (of_opd ! (get ! refl)) refl (tt, tt) $
    first ! $ blocks ! $ sets ! (of_opd ! (load ! (through ! refl (fld ! refl (stop !))) (look_in ! 0 (sub ! 1 refl (whole !))))) refl (tt, record { fits = fits }) $
    sets_last ! (agg ! (and_then ! (get ! refl) (and_then ! (get ! refl) (no_more !)))) refl (tt, (tt, (record { fits = fits }, tt))) $
    exec ! 𝓣.C 𝓣.Λ (E l) (after 5 F.body) (at_ret (E l) Post) $ sets ! (of_opd ! (get ! refl)) refl (tt, (tt, (record { fits = fits }, tt))) $
    nothing ! $ move ! (1 ∷ []) $
    slice_lends R κs qs m null_ptr m.ref_ptr.0 m.ref_ptr.1 [] at is count fits (omega arith, omega (arith, zero-mul (type_size R))) (lays m.ref_ptr.0 m.ref_ptr.1) ! tt (λ δ. returns ! (look_at ! 0 refl) $ free_all ! refl $
    by ! (lent_out 𝓛 P Q κs qs c bounds a g (slice_val m.ref_ptr d.len) (record { ref_ptr = m.ref_ptr; ghost_name = δ; now = [] }) (Ends δ) (qed 𝓛 (‵ (Ends δ) ∷ []) ∵ says ! (sym is) $ done !))))
    (λ some. absurd some))))))
