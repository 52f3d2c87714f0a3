-- `gozdrit_receiver_new` hands what it was passed to `receiver_new_lent`, and gives the memory back.
use Rattle.gozdrit.proofs.Steps.{ℕ, ℤ, List, [], ◌∷◌, refl, Option, proved, word, word-Good, heap_val, heap_Tells, id⊢, emp, ex, ex_i, sep, fact, fact_i, tables, sem, ‵, raw, ◌⊛◌, ◌$◌, ◌∵◌, !, qed, by, move, drop, use0, use1, split, join, fjoin, enter, of_opd, stop, fld, no_more, and_then, returns, alloc_all, pass_all, free_all, look_at, get, get_in, sets, lands_as, agg, sub, whole, rawptr_vals, rawptr_Tells, nothing, heard, calls_at, on_entry, Vals, triple_of, framed, value_lies_at, sized_lies_at, Lent, LentSized, ptr_good, value_made, sized_made, a_value, a_sized, code_val, answer2_had, drops, answered, gone_ptr, gone_heap, alloc_made, moved_to, sized_moved, leave}
use Rattle.gozdrit.specs.Lent.{ReceiverNewFor}
use Rattle.gozdrit.specs.Sizes.{HasRest}
use Rattle.gozdrit.specs.declared.sizes.TheConstants.{RECEIVER_CONFIG}
use Rattle.gozdrit.specs.Ends.{Receiver, ReceiverRow}
use Rattle.gozdrit.specs.contracts.config.ReceiverFields.{the_row as receiver_config_row}
use Rattle.gozdrit.specs.declared.config.ReceiverFields.{ReceiverFields}
use Rattle.gozdrit.specs.declared.handle.Handle.{Handle}
use Rattle.gozdrit.specs.contracts.receiver_exports.gozdrit_receiver_new as f
use Rattle.gozdrit.proofs.receiver_exports.gozdrit_receiver_new.Statement.{statement}
use Rattle.gozdrit.proofs.receiver_exports.gozdrit_receiver_new.Code as code
use Rattle.gozdrit.specs.contracts.receiver_exports.receiver_new_lent as g
use Rattle.gozdrit.proofs.receiver_exports.receiver_new_lent.Met.{met}

pub gozdrit_receiver_new_spec : {M : Type 1} → statement M
gozdrit_receiver_new_spec 𝓤 𝓛 𝓜 𝓡 wired =
    let c = f.clauses 𝓛 𝓜.mem 𝓡.returns in let 𝓣 = tables 𝓤 𝓛.H 𝓜 𝓡 𝓡.env in
    proved 𝓛 f.ended (drops f.ended.signature.params f.ended.kept) c 𝓜 𝓡 (gone_heap 𝓛, (gone_ptr 𝓛, (gone_ptr 𝓛, tt)))
    f.Key.name code.function (code.unfolded 𝓤 𝓛.H 𝓜 𝓡 wired)
    (λ κs. ((λ _. heap_val ∷ []), (rawptr_vals, (rawptr_vals, tt))))
    (λ κs. (heap_Tells, (rawptr_Tells, (rawptr_Tells, tt)))) (λ κs qs bounds a before are.
    let p1 = a.1.0 in let p2 = a.1.1.0 in let has : Type 0 = HasRest (λ (fields : ReceiverFields). fields.size) RECEIVER_CONFIG before.0 before.1 in
    let vss : Vals f.signature κs = (heap_val ∷ [], (rawptr_vals p1, (rawptr_vals p2, tt))) in
    let d1 : (LentSized receiver_config_row).Denot = record { at = p1; value = before.0; rest = before.1 } in let d2 : (Lent ReceiverRow).Denot = record { at = p2; value = before.2 } in
    let G = triple_of 𝓛 g.signature (g.spec 𝓛 𝓜.mem 𝓡.returns) in
    let z : G.Ghost = ((κs, qs, bounds, (a.0, (d1, (d2, tt))), (heap_val ∷ [], (word p1 ∷ [], (word p2 ∷ [], tt)))), tt) in
    let F = λ (r : ℤ) (after : Option ReceiverFields × List ℕ × Option (Handle Receiver)). sep 𝓤 (sem 𝓛 (sized_lies_at receiver_config_row p1 after.0 after.1)) (sep 𝓤 (sem 𝓛 (value_lies_at ReceiverRow p2 after.2)) (fact 𝓤 (ReceiverNewFor before.0 before.1 before.2 r after.0 after.1 after.2))) in
    qed 𝓛 (raw (on_entry 𝓛 f.signature κs qs a vss) ∷ (raw (fact 𝓤 has) ⊛ ‵ (sized_lies_at receiver_config_row p1 before.0 before.1) ⊛ ‵ (value_lies_at ReceiverRow p2 before.2)) ∷ []) ∵ drop ! $ split ! $ heard ! has (λ rest. split ! $ move ! (1 ∷ []) $
    -- what `receiver_new_lent` takes, from the last parameter on
    nothing ! $ move ! (1 ∷ []) $ value_made ReceiverRow ! d2 $ fjoin ! $ move ! (1 ∷ []) $ sized_made receiver_config_row ! d1 $ fjoin ! $ alloc_made ! a.0 are.0 $ fjoin ! $
    nothing ! $ join ! $ use0 𝓛 (raw (fact 𝓤 has)) (fact_i 𝓤 has (emp 𝓤) rest) $ move ! (1 ∷ 0 ∷ []) $ join ! $ use1 𝓛 (raw (G.pre z)) (id⊢ 𝓤 _) $
    enter ! _ _ _ _ _ $ alloc_all ! (λ l. pass_all ! refl ((tt, ((tt, tt), tt)), (ptr_good p1, (ptr_good p2, tt))) $
    sets ! (agg ! (and_then ! (get ! refl) (no_more !))) refl (word-Good [] p1) $ sets ! (of_opd ! (get ! refl)) refl (ptr_good p2) $ sets ! (agg ! (and_then ! (get ! refl) (no_more !))) refl (word-Good [] p2) $
    calls_at ! (framed 𝓤 𝓛.H 𝓜 𝓣) G (met 𝓤 𝓛 𝓜 𝓡 (code.calls-gozdrit::receiver_exports::receiver_new_lent 𝓡.env wired)) z
    (and_then ! (get ! refl) (and_then ! (get ! refl) (and_then ! (get ! refl) (no_more !)))) (λ v.
    answered ! tt g.ended (g.clauses 𝓛 𝓜.mem 𝓡.returns) z v (λ r ws. answer2_had (a_sized receiver_config_row) (a_value ReceiverRow) ! r v (λ is whole' good. move ! (3 ∷ []) $ heard ! _ (λ said.
    -- [the code; what lies at the pointers]
    lands_as ! is refl whole' $ sets ! (of_opd ! (get_in ! (fld ! refl (stop !)) (sub ! 0 refl (whole !)))) refl good $
    returns ! (look_at ! 0 refl) $ free_all ! refl $
    let after : Option ReceiverFields × List ℕ × Option (Handle Receiver) = (r.1.value, r.1.rest, r.2.value) in let fits = said.1 in
    use0 𝓛 (raw (fact 𝓤 (ReceiverNewFor before.0 before.1 before.2 r.0 after.0 after.1 after.2))) (fact_i 𝓤 (ReceiverNewFor before.0 before.1 before.2 r.0 after.0 after.1 after.2) (emp 𝓤) fits) $
    move ! (3 ∷ []) $ moved_to ! ReceiverRow r.2.value (said.0.1) $ join ! $ move ! (2 ∷ []) $ sized_moved ! receiver_config_row r.1.value r.1.rest (said.0.0) $ join ! $
    use1 𝓛 (raw (ex 𝓤 (F r.0))) (ex_i 𝓤 (F r.0) after) $
    move ! (1 ∷ 0 ∷ []) $ by ! (leave 𝓛 f.ended c ((κs, qs, bounds, a, vss), before) (code_val r.0) r.0 (tt, (tt, (tt, tt))) (id⊢ 𝓤 (emp 𝓤))))))))))
