-- `is_null` compares the pointer with null.
use Rattle.gozdrit.proofs.Walks.{[], ◌∷◌, refl, is_none, word, emp, fact_i, bool, yes, param, layouts, bool_Makes, tests_null, plain, Goes-ref, inst_fn, a_type, raw, ◌$◌, ◌∵◌, !, qed, by, move, drop, whole, sub, look_in, enter, of_opd, lit, bin, load, stop, fld, returns, alloc_all, pass_all, free_all, look_at, get, through, sets, is, stays, Self, walks, unchanged, self_closes, ptr_good}
use Rattle.gozdrit.proofs.SizedMemory.{LentSized, sized_made, sized_opens}
use Rattle.gozdrit.specs.contracts.sized.LentSized.is_null as f
use Rattle.gozdrit.proofs.sized.LentSized.is_null.Statement.{statement}
use Rattle.gozdrit.proofs.sized.LentSized.is_null.Code as code

pub is_null_spec : {M : Type 1} → statement M
is_null_spec 𝓤 𝓛 𝓜 𝓡 wired X LX =
    let args = layouts (a_type ∷ []) (X, tt) in let R = param 0 X in let P = LentSized R in let Q = plain (λ _. bool) in let c = f.clauses X 𝓛 𝓜.mem 𝓡.returns in
    walks 𝓛 P Q yes (stays P Q) c (Goes-ref 𝓛 2 0 tt (plain (λ _. P)), tt) 𝓜 𝓡 (f.Key.name args) (inst_fn args code.function) (code.unfolded 𝓤 𝓛.H 𝓜 𝓡 wired (X, tt)) (λ κs qs bounds a g.
    let d = a.0.now in
    qed 𝓛 (Self 𝓛 P κs qs a.0 ∷ raw ((c κs a).requires g) ∷ []) ∵ move ! (1 ∷ []) $ drop ! $
    enter ! _ _ _ _ _ $ alloc_all ! (λ l. pass_all ! refl ((tt, tt), tt) $ sized_opens R ! tt κs qs a.0 (λ may.
    sets ! (of_opd ! (load ! (through ! refl (fld ! refl (stop !))) (look_in ! 0 (sub ! 0 refl (whole !))))) refl (ptr_good d.at) $
    sets ! (is ! (bin ! (get ! refl) (lit ! tt) (tests_null d.at may.0)) may.1) refl (tt, tt) $
    move ! (1 ∷ []) $ sized_made R ! d $ self_closes P κs qs a.0 ! tt (word d.at ∷ []) $ returns ! (look_at ! 0 refl) $ free_all ! refl $
    by ! (unchanged 𝓛 P Q κs qs c bounds a g _ (is_none d.value) (bool_Makes 𝓛 (is_none d.value) _ refl) (fact_i 𝓤 _ (emp 𝓤) (refl, refl))))))
