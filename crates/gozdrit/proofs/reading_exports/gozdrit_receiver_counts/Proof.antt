-- `gozdrit_receiver_counts` hands a receiver and a struct that may be longer to `receiver_counts_lent`, and gives the memory back.
use Rattle.gozdrit.proofs.Steps.{ℕ, ℤ, List, [], ◌∷◌, refl, Option, proved, word, word-Good, id⊢, emp, ex, ex_i, sep, fact, fact_i, tables, sem, ‵, raw, ◌⊛◌, ◌$◌, ◌∵◌, !, qed, by, move, drop, use0, use1, split, join, fjoin, enter, of_opd, stop, fld, no_more, and_then, returns, alloc_all, pass_all, free_all, look_at, get, get_in, sets, lands_as, agg, sub, whole, rawptr_vals, rawptr_Tells, nothing, heard, calls_at, on_entry, Vals, triple_of, framed, value_lies_at, sized_lies_at, Lent, LentSized, ptr_good, value_made, sized_made, a_value, a_sized, code_val, answer2_had, drops, answered, gone_ptr, moved_to, sized_moved, leave}
use Rattle.gozdrit.specs.Lent.{ReceiverCountsFor}
use Rattle.gozdrit.specs.Sizes.{HasRest}
use Rattle.gozdrit.specs.declared.sizes.TheConstants.{RECEIVE_COUNTS}
use Rattle.gozdrit.specs.Ends.{Receiver, ReceiverRow}
use Rattle.gozdrit.specs.contracts.counts.ReceiverCounts.{the_row as receiver_counts_row}
use Rattle.gozdrit.specs.declared.counts.ReceiverCounts.{ReceiverCounts}
use Rattle.gozdrit.specs.declared.handle.Handle.{Handle}
use Rattle.gozdrit.specs.contracts.reading_exports.gozdrit_receiver_counts as f
use Rattle.gozdrit.proofs.reading_exports.gozdrit_receiver_counts.Statement.{statement}
use Rattle.gozdrit.proofs.reading_exports.gozdrit_receiver_counts.Code as code
use Rattle.gozdrit.specs.contracts.reading_exports.receiver_counts_lent as g
use Rattle.gozdrit.proofs.reading_exports.receiver_counts_lent.Met.{met}

pub gozdrit_receiver_counts_spec : {M : Type 1} → statement M
gozdrit_receiver_counts_spec 𝓤 𝓛 𝓜 𝓡 wired =
    let c = f.clauses 𝓛 𝓜.mem 𝓡.returns in let 𝓣 = tables 𝓤 𝓛.H 𝓜 𝓡 𝓡.env in
    proved 𝓛 f.ended (drops f.ended.signature.params f.ended.kept) c 𝓜 𝓡 (gone_ptr 𝓛, (gone_ptr 𝓛, tt))
    f.Key.name code.function (code.unfolded 𝓤 𝓛.H 𝓜 𝓡 wired)
    (λ κs. (rawptr_vals, (rawptr_vals, tt)))
    (λ κs. (rawptr_Tells, (rawptr_Tells, tt))) (λ κs qs bounds a before are.
    let p1 = a.0 in let p2 = a.1.0 in let has : Type 0 = HasRest (λ (told : ReceiverCounts). told.size) RECEIVE_COUNTS before.1 before.2 in
    let vss : Vals f.signature κs = (rawptr_vals p1, (rawptr_vals p2, tt)) in
    let d1 : (Lent ReceiverRow).Denot = record { at = p1; value = before.0 } in let d2 : (LentSized receiver_counts_row).Denot = record { at = p2; value = before.1; rest = before.2 } in
    let G = triple_of 𝓛 g.signature (g.spec 𝓛 𝓜.mem 𝓡.returns) in
    let z : G.Ghost = ((κs, qs, bounds, (d1, (d2, tt)), (word p1 ∷ [], (word p2 ∷ [], tt))), tt) in
    let F = λ (r : ℤ) (after : Option (Handle Receiver) × Option ReceiverCounts × List ℕ). sep 𝓤 (sem 𝓛 (value_lies_at ReceiverRow p1 after.0)) (sep 𝓤 (sem 𝓛 (sized_lies_at receiver_counts_row p2 after.1 after.2)) (fact 𝓤 (ReceiverCountsFor before.0 before.1 before.2 r after.0 after.1 after.2))) in
    qed 𝓛 (raw (on_entry 𝓛 f.signature κs qs a vss) ∷ (raw (fact 𝓤 has) ⊛ ‵ (value_lies_at ReceiverRow p1 before.0) ⊛ ‵ (sized_lies_at receiver_counts_row p2 before.1 before.2)) ∷ []) ∵ drop ! $ split ! $ heard ! has (λ rest. split ! $ move ! (1 ∷ []) $
    -- what `receiver_counts_lent` takes, from the last parameter on
    nothing ! $ move ! (1 ∷ []) $ sized_made receiver_counts_row ! d2 $ fjoin ! $ move ! (1 ∷ []) $ value_made ReceiverRow ! d1 $ fjoin ! $
    nothing ! $ join ! $ use0 𝓛 (raw (fact 𝓤 has)) (fact_i 𝓤 has (emp 𝓤) rest) $ move ! (1 ∷ 0 ∷ []) $ join ! $ use1 𝓛 (raw (G.pre z)) (id⊢ 𝓤 _) $
    enter ! _ _ _ _ _ $ alloc_all ! (λ l. pass_all ! refl (ptr_good p1, (ptr_good p2, tt)) $
    sets ! (of_opd ! (get ! refl)) refl (ptr_good p1) $ sets ! (agg ! (and_then ! (get ! refl) (no_more !))) refl (word-Good [] p1) $ sets ! (agg ! (and_then ! (get ! refl) (no_more !))) refl (word-Good [] p2) $
    calls_at ! (framed 𝓤 𝓛.H 𝓜 𝓣) G (met 𝓤 𝓛 𝓜 𝓡 (code.calls-gozdrit::reading_exports::receiver_counts_lent 𝓡.env wired)) z
    (and_then ! (get ! refl) (and_then ! (get ! refl) (no_more !))) (λ v.
    answered ! tt g.ended (g.clauses 𝓛 𝓜.mem 𝓡.returns) z v (λ r ws. answer2_had (a_value ReceiverRow) (a_sized receiver_counts_row) ! r v (λ is whole' good. move ! (3 ∷ []) $ heard ! _ (λ said.
    -- [the code; what lies at the pointers]
    lands_as ! is refl whole' $ sets ! (of_opd ! (get_in ! (fld ! refl (stop !)) (sub ! 0 refl (whole !)))) refl good $
    returns ! (look_at ! 0 refl) $ free_all ! refl $
    let after : Option (Handle Receiver) × Option ReceiverCounts × List ℕ = (r.1.value, r.2.value, r.2.rest) in let fits = said.1 in
    use0 𝓛 (raw (fact 𝓤 (ReceiverCountsFor before.0 before.1 before.2 r.0 after.0 after.1 after.2))) (fact_i 𝓤 (ReceiverCountsFor before.0 before.1 before.2 r.0 after.0 after.1 after.2) (emp 𝓤) fits) $
    move ! (3 ∷ []) $ sized_moved ! receiver_counts_row r.2.value r.2.rest (said.0.1) $ join ! $ move ! (2 ∷ []) $ moved_to ! ReceiverRow r.1.value (said.0.0) $ join ! $
    use1 𝓛 (raw (ex 𝓤 (F r.0))) (ex_i 𝓤 (F r.0) after) $
    move ! (1 ∷ 0 ∷ []) $ by ! (leave 𝓛 f.ended c ((κs, qs, bounds, a, vss), before) (code_val r.0) r.0 (tt, (tt, tt)) (id⊢ 𝓤 (emp 𝓤))))))))))
