-- `gozdrit_srtp_receiver_new` hands what it was passed to `srtp_receiver_new_lent`, and gives the memory back.
use Rattle.gozdrit.proofs.Steps.{ℕ, ℤ, List, [], ◌∷◌, refl, w16, w64, Option, proved, word, word-Good, heap_val, heap_Tells, id⊢, emp, ex, ex_i, sep, fact, fact_i, tables, sem, ‵, raw, ◌⊛◌, ◌$◌, ◌∵◌, !, qed, by, move, drop, use0, use1, split, join, fjoin, enter, of_opd, stop, fld, no_more, and_then, returns, alloc_all, pass_all, free_all, look_at, get, get_in, sets, lands_as, agg, sub, whole, u8, u16, uint_vals, uint_Tells, uint_Makes, rawptr_vals, rawptr_Tells, nothing, heard, owned, calls_at, on_entry, Vals, triple_of, framed, value_lies_at, slice_lies_at, Lent, ptr_good, value_made, a_value, a_slice, code_val, answer2_had, LentSlice, lent_slice_val, lent_slice-Good, slice_made, drops, answered, gone_ptr, gone_int, gone_heap, alloc_made, moved_to, slice_moved, leave}
use Rattle.contexts.specs.declared.inbound.Inbound.{Inbound}
use Rattle.gozdrit.specs.Lent.{SrtpReceiverNewFor}
use Rattle.gozdrit.specs.Ends.{SrtpReceiverRow}
use Rattle.gozdrit.specs.declared.handle.Handle.{Handle}
use Rattle.gozdrit.specs.contracts.srtp_exports.gozdrit_srtp_receiver_new as f
use Rattle.gozdrit.proofs.srtp_exports.gozdrit_srtp_receiver_new.Statement.{statement}
use Rattle.gozdrit.proofs.srtp_exports.gozdrit_srtp_receiver_new.Code as code
use Rattle.gozdrit.specs.contracts.srtp_exports.srtp_receiver_new_lent as g
use Rattle.gozdrit.proofs.srtp_exports.srtp_receiver_new_lent.Met.{met}

pub gozdrit_srtp_receiver_new_spec : {M : Type 1} → statement M
gozdrit_srtp_receiver_new_spec 𝓤 𝓛 𝓜 𝓡 wired =
    let c = f.clauses 𝓛 𝓜.mem 𝓡.returns in let 𝓣 = tables 𝓤 𝓛.H 𝓜 𝓡 𝓡.env in
    proved 𝓛 f.ended (drops f.ended.signature.params f.ended.kept) c 𝓜 𝓡 (gone_heap 𝓛, (gone_int 𝓛 w16, (gone_ptr 𝓛, (gone_int 𝓛 w64, (gone_ptr 𝓛, tt)))))
    f.Key.name code.function (code.unfolded 𝓤 𝓛.H 𝓜 𝓡 wired)
    (λ κs. ((λ _. heap_val ∷ []), (uint_vals w16, (rawptr_vals, (uint_vals w64, (rawptr_vals, tt))))))
    (λ κs. (heap_Tells, (uint_Tells w16, (rawptr_Tells, (uint_Tells w64, (rawptr_Tells, tt)))))) (λ κs qs bounds a before are.
    let n1 = a.1.0 in let p2 = a.1.1.0 in let n2 = a.1.1.1.0 in let p3 = a.1.1.1.1.0 in let fits1 = are.1.0.1 in let fits2 = are.1.1.1.0.1 in
    let vss : Vals f.signature κs = (heap_val ∷ [], (uint_vals w16 n1, (rawptr_vals p2, (uint_vals w64 n2, (rawptr_vals p3, tt))))) in
    let d2 : (LentSlice u8).Denot = record { at = p2; len = n2; items = before.0 } in let d3 : (Lent SrtpReceiverRow).Denot = record { at = p3; value = before.1 } in
    let G = triple_of 𝓛 g.signature (g.spec 𝓛 𝓜.mem 𝓡.returns) in
    let z : G.Ghost = ((κs, qs, bounds, (a.0, (n1, (d2, (d3, tt)))), (heap_val ∷ [], (uint_vals w16 n1, (lent_slice_val p2 n2 ∷ [], (word p3 ∷ [], tt))))), tt) in
    let F = λ (r : ℤ) (after : Option (List ℕ) × Option (Handle Inbound)). sep 𝓤 (sem 𝓛 (slice_lies_at u8 p2 n2 after.0)) (sep 𝓤 (sem 𝓛 (value_lies_at SrtpReceiverRow p3 after.1)) (fact 𝓤 (SrtpReceiverNewFor n1 before.0 before.1 r after.0 after.1))) in
    qed 𝓛 (raw (on_entry 𝓛 f.signature κs qs a vss) ∷ (‵ (slice_lies_at u8 p2 n2 before.0) ⊛ ‵ (value_lies_at SrtpReceiverRow p3 before.1)) ∷ []) ∵ drop ! $ split ! $ move ! (1 ∷ []) $
    -- what `srtp_receiver_new_lent` takes, from the last parameter on
    nothing ! $ move ! (1 ∷ []) $ value_made SrtpReceiverRow ! d3 $ fjoin ! $ move ! (1 ∷ []) $ slice_made u8 ! d2 fits2 $ fjoin ! $ owned ! u16 _ (uint_Makes 𝓛 w16) n1 _ (refl, fits1) $ fjoin ! $ alloc_made ! a.0 are.0 $ fjoin ! $
    nothing ! $ join ! $ nothing ! $ move ! (1 ∷ 0 ∷ []) $ join ! $ use1 𝓛 (raw (G.pre z)) (id⊢ 𝓤 _) $
    enter ! _ _ _ _ _ $ alloc_all ! (λ l. pass_all ! refl ((tt, ((tt, tt), tt)), ((tt, record { fits = fits1 }), (ptr_good p2, ((tt, record { fits = fits2 }), (ptr_good p3, tt))))) $
    sets ! (agg ! (and_then ! (get ! refl) (and_then ! (get ! refl) (no_more !)))) refl (lent_slice-Good [] p2 n2 fits2) $ sets ! (of_opd ! (get ! refl)) refl (ptr_good p3) $ sets ! (agg ! (and_then ! (get ! refl) (no_more !))) refl (word-Good [] p3) $
    calls_at ! (framed 𝓤 𝓛.H 𝓜 𝓣) G (met 𝓤 𝓛 𝓜 𝓡 (code.calls-gozdrit::srtp_exports::srtp_receiver_new_lent 𝓡.env wired)) z
    (and_then ! (get ! refl) (and_then ! (get ! refl) (and_then ! (get ! refl) (and_then ! (get ! refl) (no_more !))))) (λ v.
    answered ! tt g.ended (g.clauses 𝓛 𝓜.mem 𝓡.returns) z v (λ r ws. answer2_had (a_slice u8) (a_value SrtpReceiverRow) ! r v (λ is whole' good. move ! (3 ∷ []) $ heard ! _ (λ said.
    -- [the code; what lies at the pointers]
    lands_as ! is refl whole' $ sets ! (of_opd ! (get_in ! (fld ! refl (stop !)) (sub ! 0 refl (whole !)))) refl good $
    returns ! (look_at ! 0 refl) $ free_all ! refl $
    let after : Option (List ℕ) × Option (Handle Inbound) = (r.1.items, r.2.value) in let fits = said.1 in
    use0 𝓛 (raw (fact 𝓤 (SrtpReceiverNewFor n1 before.0 before.1 r.0 after.0 after.1))) (fact_i 𝓤 (SrtpReceiverNewFor n1 before.0 before.1 r.0 after.0 after.1) (emp 𝓤) fits) $
    move ! (3 ∷ []) $ moved_to ! SrtpReceiverRow r.2.value (said.0.2) $ join ! $ move ! (2 ∷ []) $ slice_moved ! u8 r.1.items (said.0.0) (said.0.1) $ join ! $
    use1 𝓛 (raw (ex 𝓤 (F r.0))) (ex_i 𝓤 (F r.0) after) $
    move ! (1 ∷ 0 ∷ []) $ by ! (leave 𝓛 f.ended c ((κs, qs, bounds, a, vss), before) (code_val r.0) r.0 (tt, (tt, (tt, (tt, (tt, tt))))) (id⊢ 𝓤 (emp 𝓤)))))))))
