-- `gozdrit_set_nack_budget` hands what it was passed to `budget_lent`, and gives the memory back.
use Rattle.gozdrit.proofs.Steps.{ℤ, [], ◌∷◌, refl, w8, Option, proved, word, word-Good, id⊢, emp, ex, ex_i, sep, fact, fact_i, tables, sem, ‵, raw, ◌$◌, ◌∵◌, !, qed, by, move, drop, use0, use1, join, fjoin, enter, of_opd, stop, fld, no_more, and_then, returns, alloc_all, pass_all, free_all, look_at, get, get_in, sets, lands_as, agg, sub, whole, u8, uint_vals, uint_Tells, uint_Makes, rawptr_vals, rawptr_Tells, nothing, heard, owned, calls_at, on_entry, Vals, triple_of, framed, value_lies_at, Lent, ptr_good, value_made, a_value, code_val, answer1_had, drops, answered, gone_ptr, gone_int, moved_to, leave}
use Rattle.gozdrit.specs.Lent.{BudgetFor}
use Rattle.gozdrit.specs.Ends.{Receiver, ReceiverRow}
use Rattle.gozdrit.specs.declared.handle.Handle.{Handle}
use Rattle.gozdrit.specs.contracts.receiver_exports.gozdrit_set_nack_budget as f
use Rattle.gozdrit.proofs.receiver_exports.gozdrit_set_nack_budget.Statement.{statement}
use Rattle.gozdrit.proofs.receiver_exports.gozdrit_set_nack_budget.Code as code
use Rattle.gozdrit.specs.contracts.receiver_exports.budget_lent as g
use Rattle.gozdrit.proofs.receiver_exports.budget_lent.Met.{met}

pub gozdrit_set_nack_budget_spec : {M : Type 1} → statement M
gozdrit_set_nack_budget_spec 𝓤 𝓛 𝓜 𝓡 wired =
    let c = f.clauses 𝓛 𝓜.mem 𝓡.returns in let 𝓣 = tables 𝓤 𝓛.H 𝓜 𝓡 𝓡.env in
    proved 𝓛 f.ended (drops f.ended.signature.params f.ended.kept) c 𝓜 𝓡 (gone_ptr 𝓛, (gone_int 𝓛 w8, tt))
    f.Key.name code.function (code.unfolded 𝓤 𝓛.H 𝓜 𝓡 wired)
    (λ κs. (rawptr_vals, (uint_vals w8, tt)))
    (λ κs. (rawptr_Tells, (uint_Tells w8, tt))) (λ κs qs bounds a before are.
    let p1 = a.0 in let n2 = a.1.0 in let fits2 = are.1.0.1 in
    let vss : Vals f.signature κs = (rawptr_vals p1, (uint_vals w8 n2, tt)) in
    let d1 : (Lent ReceiverRow).Denot = record { at = p1; value = before } in
    let G = triple_of 𝓛 g.signature (g.spec 𝓛 𝓜.mem 𝓡.returns) in
    let z : G.Ghost = ((κs, qs, bounds, (d1, (n2, tt)), (word p1 ∷ [], (uint_vals w8 n2, tt))), tt) in
    let F = λ (r : ℤ) (after : Option (Handle Receiver)). sep 𝓤 (sem 𝓛 (value_lies_at ReceiverRow p1 after)) (fact 𝓤 (BudgetFor n2 before r after)) in
    qed 𝓛 (raw (on_entry 𝓛 f.signature κs qs a vss) ∷ (‵ (value_lies_at ReceiverRow p1 before)) ∷ []) ∵ drop ! $
    -- what `budget_lent` takes, from the last parameter on
    nothing ! $ owned ! u8 _ (uint_Makes 𝓛 w8) n2 _ (refl, fits2) $ fjoin ! $ move ! (1 ∷ []) $ value_made ReceiverRow ! d1 $ fjoin ! $
    nothing ! $ join ! $ nothing ! $ move ! (1 ∷ 0 ∷ []) $ join ! $ use1 𝓛 (raw (G.pre z)) (id⊢ 𝓤 _) $
    enter ! _ _ _ _ _ $ alloc_all ! (λ l. pass_all ! refl (ptr_good p1, ((tt, record { fits = fits2 }), tt)) $
    sets ! (of_opd ! (get ! refl)) refl (ptr_good p1) $ sets ! (agg ! (and_then ! (get ! refl) (no_more !))) refl (word-Good [] p1) $
    calls_at ! (framed 𝓤 𝓛.H 𝓜 𝓣) G (met 𝓤 𝓛 𝓜 𝓡 (code.calls-gozdrit::receiver_exports::budget_lent 𝓡.env wired)) z
    (and_then ! (get ! refl) (and_then ! (get ! refl) (no_more !))) (λ v.
    answered ! tt g.ended (g.clauses 𝓛 𝓜.mem 𝓡.returns) z v (λ r ws. answer1_had (a_value ReceiverRow) ! r v (λ is whole' good. move ! (2 ∷ []) $ heard ! _ (λ said.
    -- [the code; what lies at the pointers]
    lands_as ! is refl whole' $ sets ! (of_opd ! (get_in ! (fld ! refl (stop !)) (sub ! 0 refl (whole !)))) refl good $
    returns ! (look_at ! 0 refl) $ free_all ! refl $
    let after : Option (Handle Receiver) = r.1.value in let fits = said.1 in
    use0 𝓛 (raw (fact 𝓤 (BudgetFor n2 before r.0 after))) (fact_i 𝓤 (BudgetFor n2 before r.0 after) (emp 𝓤) fits) $
    move ! (2 ∷ []) $ moved_to ! ReceiverRow r.1.value (said.0) $ join ! $
    use1 𝓛 (raw (ex 𝓤 (F r.0))) (ex_i 𝓤 (F r.0) after) $
    move ! (1 ∷ 0 ∷ []) $ by ! (leave 𝓛 f.ended c ((κs, qs, bounds, a, vss), before) (code_val r.0) r.0 (tt, (tt, tt)) (id⊢ 𝓤 (emp 𝓤)))))))))
