-- `is_held` reads the flag.
use Rattle.gozdrit.proofs.Walks.{[], ◌∷◌, refl, emp, fact_i, bool, yes, param, layouts, bool_Makes, plain, Goes-ref, inst_fn, a_type, raw, ◌$◌, ◌∵◌, !, qed, by, move, drop, whole, sub, look_in, enter, of_opd, load, stop, fld, returns, alloc_all, pass_all, free_all, look_at, through, sets, stays, Self, walks, unchanged, self_closes}
use Rattle.gozdrit.proofs.HandleMemory.{Handle, handle_val, handle_opens, handle_made, held_tells}
use Rattle.gozdrit.specs.contracts.handle.Handle.is_held as f
use Rattle.gozdrit.proofs.handle.Handle.is_held.Statement.{statement}
use Rattle.gozdrit.proofs.handle.Handle.is_held.Code as code

pub is_held_spec : {M : Type 1} → statement M
is_held_spec 𝓤 𝓛 𝓜 𝓡 wired X LX =
    let args = layouts (a_type ∷ []) (X, tt) in let R = param 0 X in let P = Handle R in let Q = plain (λ _. bool) in let c = f.clauses X 𝓛 𝓜.mem 𝓡.returns in
    walks 𝓛 P Q yes (stays P Q) c (Goes-ref 𝓛 2 0 tt (plain (λ _. P)), tt) 𝓜 𝓡 (f.Key.name args) (inst_fn args code.function) (code.unfolded 𝓤 𝓛.H 𝓜 𝓡 wired (X, tt)) (λ κs qs bounds a g.
    let d = a.0.now in
    qed 𝓛 (Self 𝓛 P κs qs a.0 ∷ raw ((c κs a).requires g) ∷ []) ∵ move ! (1 ∷ []) $ drop ! $
    enter ! _ _ _ _ _ $ alloc_all ! (λ l. pass_all ! refl ((tt, tt), tt) $ handle_opens R ! tt κs qs a.0 (λ heap. move ! (1 ∷ []) $ held_tells R ! d.alloc d.at d.held d.inside (λ tells. move ! (1 ∷ []) $
    sets ! (of_opd ! (load ! (through ! refl (fld ! refl (stop !))) (look_in ! 0 (sub ! 2 refl (whole !))))) refl (tt, tt) $
    move ! (1 ∷ []) $ handle_made R ! d heap $ self_closes P κs qs a.0 ! tt (handle_val d.at d.held ∷ []) $ returns ! (look_at ! 0 refl) $ free_all ! refl $
    by ! (unchanged 𝓛 P Q κs qs c bounds a g _ d.held (bool_Makes 𝓛 d.held _ refl) (fact_i 𝓤 _ (emp 𝓤) (tells, refl)))))))
