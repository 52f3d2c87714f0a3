-- `is_missing` compares the pointer with null, and the length with 0.
use Rattle.gozdrit.proofs.Walks.{[], ◌∷◌, refl, is_none, emp, fact_i, bool, yes, param, layouts, bool_Makes, tests_null, plain, Goes-ref, says, inst_fn, a_type, raw, ◌$◌, ◌∵◌, !, qed, by, move, drop, whole, sub, look_in, enter, of_opd, lit, bin, load, stop, fld, returns, alloc_all, pass_all, free_all, look_at, get, through, sets, is, stays, Self, walks, unchanged, self_closes, LentSlice, lent_slice_val, ptr_good, slice_made, slice_tested, slice_opens}
use Rattle.gozdrit.specs.contracts.lent.LentSlice.is_missing as f
use Rattle.gozdrit.proofs.lent.LentSlice.is_missing.Statement.{statement}
use Rattle.gozdrit.proofs.lent.LentSlice.is_missing.Code as code

pub is_missing_spec : {M : Type 1} → statement M
is_missing_spec 𝓤 𝓛 𝓜 𝓡 wired X LX =
    let args = layouts (a_type ∷ []) (X, tt) in let R = param 0 X in let P = LentSlice R in let Q = plain (λ _. bool) in let c = f.clauses X 𝓛 𝓜.mem 𝓡.returns in
    walks 𝓛 P Q yes (stays P Q) c (Goes-ref 𝓛 2 0 tt (plain (λ _. P)), tt) 𝓜 𝓡 (f.Key.name args) (inst_fn args code.function) (code.unfolded 𝓤 𝓛.H 𝓜 𝓡 wired (X, tt)) (λ κs qs bounds a g.
    let d = a.0.now in
    qed 𝓛 (Self 𝓛 P κs qs a.0 ∷ raw ((c κs a).requires g) ∷ []) ∵ move ! (1 ∷ []) $ drop ! $
    enter ! _ _ _ _ _ $ alloc_all ! (λ l. pass_all ! refl ((tt, tt), tt) $ slice_opens R ! tt κs qs a.0 (λ fits. move ! (1 ∷ []) $ slice_tested R ! d.at d.len d.items (λ may. move ! (1 ∷ []) $
    sets ! (of_opd ! (load ! (through ! refl (fld ! refl (stop !))) (look_in ! 0 (sub ! 0 refl (whole !))))) refl (ptr_good d.at) $
    sets ! (bin ! (get ! refl) (lit ! tt) (tests_null d.at may.0)) refl (tt, tt) $
    sets ! (of_opd ! (load ! (through ! refl (fld ! refl (stop !))) (look_in ! 0 (sub ! 1 refl (whole !))))) refl (tt, record { fits = fits }) $
    sets ! (bin ! (get ! refl) (lit ! tt) tt) refl (tt, tt) $ sets ! (is ! (bin ! (get ! refl) (get ! refl) tt) may.1) refl (tt, tt) $
    move ! (1 ∷ []) $ slice_made R ! d fits $ self_closes P κs qs a.0 ! tt (lent_slice_val d.at d.len ∷ []) $ returns ! (look_at ! 0 refl) $ free_all ! refl $
    by ! (unchanged 𝓛 P Q κs qs c bounds a g _ (is_none d.items) (bool_Makes 𝓛 (is_none d.items) _ refl) (qed 𝓛 [] ∵ says ! refl $ by ! (fact_i 𝓤 _ (emp 𝓤) refl)))))))
