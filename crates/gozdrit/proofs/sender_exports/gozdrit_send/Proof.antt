-- `gozdrit_send` hands what it was passed to `send_lent`, and gives the memory back.
use Rattle.gozdrit.proofs.Steps.{ℕ, ℤ, List, [], ◌∷◌, refl, w8, w64, Option, proved, word, word-Good, id⊢, emp, ex, ex_i, sep, fact, fact_i, tables, sem, ‵, raw, ◌⊛◌, ◌$◌, ◌∵◌, !, qed, by, move, drop, use0, use1, split, join, fjoin, enter, of_opd, stop, fld, no_more, and_then, returns, alloc_all, pass_all, free_all, look_at, get, get_in, sets, lands_as, agg, sub, whole, u8, uint_vals, uint_Tells, uint_Makes, rawptr_vals, rawptr_Tells, nothing, heard, owned, calls_at, on_entry, Vals, triple_of, framed, value_lies_at, slice_lies_at, Lent, ptr_good, value_made, a_value, a_slice, code_val, answer5_had, LentSlice, lent_slice_val, lent_slice-Good, slice_made, drops, answered, gone_ptr, gone_int, moved_to, slice_moved, leave}
use Rattle.gozdrit.specs.Lent.{SendFor}
use Rattle.gozdrit.specs.Ends.{Sender, SenderRow}
use Rattle.gozdrit.specs.contracts.answers.SentPacket.{the_row as sent_row}
use Rattle.gozdrit.specs.contracts.header.Header.{the_row as header_row}
use Rattle.gozdrit.specs.declared.answers.SentPacket.{SentPacket}
use Rattle.gozdrit.specs.declared.handle.Handle.{Handle}
use Rattle.gozdrit.specs.declared.header.Header.{Header}
use Rattle.gozdrit.specs.contracts.sender_exports.gozdrit_send as f
use Rattle.gozdrit.proofs.sender_exports.gozdrit_send.Statement.{statement}
use Rattle.gozdrit.proofs.sender_exports.gozdrit_send.Code as code
use Rattle.gozdrit.specs.contracts.sender_exports.send_lent as g
use Rattle.gozdrit.proofs.sender_exports.send_lent.Met.{met}

pub gozdrit_send_spec : {M : Type 1} → statement M
gozdrit_send_spec 𝓤 𝓛 𝓜 𝓡 wired =
    let c = f.clauses 𝓛 𝓜.mem 𝓡.returns in let 𝓣 = tables 𝓤 𝓛.H 𝓜 𝓡 𝓡.env in
    proved 𝓛 f.ended (drops f.ended.signature.params f.ended.kept) c 𝓜 𝓡 (gone_ptr 𝓛, (gone_ptr 𝓛, (gone_ptr 𝓛, (gone_int 𝓛 w64, (gone_int 𝓛 w8, (gone_ptr 𝓛, (gone_ptr 𝓛, (gone_int 𝓛 w64, tt))))))))
    f.Key.name code.function (code.unfolded 𝓤 𝓛.H 𝓜 𝓡 wired)
    (λ κs. (rawptr_vals, (rawptr_vals, (rawptr_vals, (uint_vals w64, (uint_vals w8, (rawptr_vals, (rawptr_vals, (uint_vals w64, tt)))))))))
    (λ κs. (rawptr_Tells, (rawptr_Tells, (rawptr_Tells, (uint_Tells w64, (uint_Tells w8, (rawptr_Tells, (rawptr_Tells, (uint_Tells w64, tt))))))))) (λ κs qs bounds a before are.
    let p1 = a.0 in let p2 = a.1.0 in let p3 = a.1.1.0 in let n3 = a.1.1.1.0 in let n4 = a.1.1.1.1.0 in let p5 = a.1.1.1.1.1.0 in let p6 = a.1.1.1.1.1.1.0 in let n6 = a.1.1.1.1.1.1.1.0 in let fits3 = are.1.1.1.0.1 in let fits4 = are.1.1.1.1.0.1 in let fits6 = are.1.1.1.1.1.1.1.0.1 in
    let vss : Vals f.signature κs = (rawptr_vals p1, (rawptr_vals p2, (rawptr_vals p3, (uint_vals w64 n3, (uint_vals w8 n4, (rawptr_vals p5, (rawptr_vals p6, (uint_vals w64 n6, tt)))))))) in
    let d1 : (Lent SenderRow).Denot = record { at = p1; value = before.0 } in let d2 : (Lent header_row).Denot = record { at = p2; value = before.1 } in let d3 : (LentSlice u8).Denot = record { at = p3; len = n3; items = before.2 } in let d5 : (Lent sent_row).Denot = record { at = p5; value = before.3 } in let d6 : (LentSlice u8).Denot = record { at = p6; len = n6; items = before.4 } in
    let G = triple_of 𝓛 g.signature (g.spec 𝓛 𝓜.mem 𝓡.returns) in
    let z : G.Ghost = ((κs, qs, bounds, (d1, (d2, (d3, (n4, (d5, (d6, tt)))))), (word p1 ∷ [], (word p2 ∷ [], (lent_slice_val p3 n3 ∷ [], (uint_vals w8 n4, (word p5 ∷ [], (lent_slice_val p6 n6 ∷ [], tt))))))), tt) in
    let F = λ (r : ℤ) (after : Option (Handle Sender) × Option Header × Option (List ℕ) × Option SentPacket × Option (List ℕ)). sep 𝓤 (sem 𝓛 (value_lies_at SenderRow p1 after.0)) (sep 𝓤 (sem 𝓛 (value_lies_at header_row p2 after.1)) (sep 𝓤 (sem 𝓛 (slice_lies_at u8 p3 n3 after.2)) (sep 𝓤 (sem 𝓛 (value_lies_at sent_row p5 after.3)) (sep 𝓤 (sem 𝓛 (slice_lies_at u8 p6 n6 after.4)) (fact 𝓤 (SendFor n4 before.0 before.1 before.2 before.3 before.4 r after.0 after.1 after.2 after.3 after.4)))))) in
    qed 𝓛 (raw (on_entry 𝓛 f.signature κs qs a vss) ∷ (‵ (value_lies_at SenderRow p1 before.0) ⊛ ‵ (value_lies_at header_row p2 before.1) ⊛ ‵ (slice_lies_at u8 p3 n3 before.2) ⊛ ‵ (value_lies_at sent_row p5 before.3) ⊛ ‵ (slice_lies_at u8 p6 n6 before.4)) ∷ []) ∵ drop ! $ split ! $ move ! (1 ∷ []) $ split ! $ move ! (1 ∷ []) $ split ! $ move ! (1 ∷ []) $ split ! $ move ! (1 ∷ []) $
    -- what `send_lent` takes, from the last parameter on
    nothing ! $ move ! (1 ∷ []) $ slice_made u8 ! d6 fits6 $ fjoin ! $ move ! (1 ∷ []) $ value_made sent_row ! d5 $ fjoin ! $ owned ! u8 _ (uint_Makes 𝓛 w8) n4 _ (refl, fits4) $ fjoin ! $ move ! (1 ∷ []) $ slice_made u8 ! d3 fits3 $ fjoin ! $ move ! (1 ∷ []) $ value_made header_row ! d2 $ fjoin ! $ move ! (1 ∷ []) $ value_made SenderRow ! d1 $ fjoin ! $
    nothing ! $ join ! $ nothing ! $ move ! (1 ∷ 0 ∷ []) $ join ! $ use1 𝓛 (raw (G.pre z)) (id⊢ 𝓤 _) $
    enter ! _ _ _ _ _ $ alloc_all ! (λ l. pass_all ! refl (ptr_good p1, (ptr_good p2, (ptr_good p3, ((tt, record { fits = fits3 }), ((tt, record { fits = fits4 }), (ptr_good p5, (ptr_good p6, ((tt, record { fits = fits6 }), tt)))))))) $
    sets ! (of_opd ! (get ! refl)) refl (ptr_good p1) $ sets ! (agg ! (and_then ! (get ! refl) (no_more !))) refl (word-Good [] p1) $ sets ! (agg ! (and_then ! (get ! refl) (no_more !))) refl (word-Good [] p2) $ sets ! (agg ! (and_then ! (get ! refl) (and_then ! (get ! refl) (no_more !)))) refl (lent_slice-Good [] p3 n3 fits3) $ sets ! (agg ! (and_then ! (get ! refl) (no_more !))) refl (word-Good [] p5) $ sets ! (agg ! (and_then ! (get ! refl) (and_then ! (get ! refl) (no_more !)))) refl (lent_slice-Good [] p6 n6 fits6) $
    calls_at ! (framed 𝓤 𝓛.H 𝓜 𝓣) G (met 𝓤 𝓛 𝓜 𝓡 (code.calls-gozdrit::sender_exports::send_lent 𝓡.env wired)) z
    (and_then ! (get ! refl) (and_then ! (get ! refl) (and_then ! (get ! refl) (and_then ! (get ! refl) (and_then ! (get ! refl) (and_then ! (get ! refl) (no_more !))))))) (λ v.
    answered ! tt g.ended (g.clauses 𝓛 𝓜.mem 𝓡.returns) z v (λ r ws. answer5_had (a_value SenderRow) (a_value header_row) (a_slice u8) (a_value sent_row) (a_slice u8) ! r v (λ is whole' good. move ! (6 ∷ []) $ heard ! _ (λ said.
    -- [the code; what lies at the pointers]
    lands_as ! is refl whole' $ sets ! (of_opd ! (get_in ! (fld ! refl (stop !)) (sub ! 0 refl (whole !)))) refl good $
    returns ! (look_at ! 0 refl) $ free_all ! refl $
    let after : Option (Handle Sender) × Option Header × Option (List ℕ) × Option SentPacket × Option (List ℕ) = (r.1.value, r.2.value, r.3.items, r.4.value, r.5.items) in let fits = said.1 in
    use0 𝓛 (raw (fact 𝓤 (SendFor n4 before.0 before.1 before.2 before.3 before.4 r.0 after.0 after.1 after.2 after.3 after.4))) (fact_i 𝓤 (SendFor n4 before.0 before.1 before.2 before.3 before.4 r.0 after.0 after.1 after.2 after.3 after.4) (emp 𝓤) fits) $
    move ! (6 ∷ []) $ slice_moved ! u8 r.5.items (said.0.5) (said.0.6) $ join ! $ move ! (5 ∷ []) $ moved_to ! sent_row r.4.value (said.0.4) $ join ! $ move ! (4 ∷ []) $ slice_moved ! u8 r.3.items (said.0.2) (said.0.3) $ join ! $ move ! (3 ∷ []) $ moved_to ! header_row r.2.value (said.0.1) $ join ! $ move ! (2 ∷ []) $ moved_to ! SenderRow r.1.value (said.0.0) $ join ! $
    use1 𝓛 (raw (ex 𝓤 (F r.0))) (ex_i 𝓤 (F r.0) after) $
    move ! (1 ∷ 0 ∷ []) $ by ! (leave 𝓛 f.ended c ((κs, qs, bounds, a, vss), before) (code_val r.0) r.0 (tt, (tt, (tt, (tt, (tt, (tt, (tt, (tt, tt)))))))) (id⊢ 𝓤 (emp 𝓤)))))))))
