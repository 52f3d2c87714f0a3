-- `gozdrit_play` hands what it was passed to `play_lent`, and gives the memory back.
use Rattle.gozdrit.proofs.Steps.{ℕ, ℤ, List, [], ◌∷◌, refl, w64, Option, proved, word, word-Good, id⊢, emp, ex, ex_i, sep, fact, fact_i, tables, sem, ‵, raw, ◌⊛◌, ◌$◌, ◌∵◌, !, qed, by, move, drop, use0, use1, split, join, fjoin, enter, of_opd, stop, fld, no_more, and_then, returns, alloc_all, pass_all, free_all, look_at, get, get_in, sets, lands_as, agg, sub, whole, u8, u64, uint_vals, uint_Tells, uint_Makes, rawptr_vals, rawptr_Tells, nothing, heard, owned, calls_at, on_entry, Vals, triple_of, framed, value_lies_at, slice_lies_at, Lent, ptr_good, value_made, a_value, a_slice, code_val, answer3_had, LentSlice, lent_slice_val, lent_slice-Good, slice_made, drops, answered, gone_ptr, gone_int, moved_to, slice_moved, leave}
use Rattle.gozdrit.specs.Lent.{PlayFor}
use Rattle.gozdrit.specs.Ends.{Receiver, ReceiverRow}
use Rattle.gozdrit.specs.contracts.answers.PlayedPacket.{the_row as played_row}
use Rattle.gozdrit.specs.declared.answers.PlayedPacket.{PlayedPacket}
use Rattle.gozdrit.specs.declared.handle.Handle.{Handle}
use Rattle.gozdrit.specs.contracts.receiver_exports.gozdrit_play as f
use Rattle.gozdrit.proofs.receiver_exports.gozdrit_play.Statement.{statement}
use Rattle.gozdrit.proofs.receiver_exports.gozdrit_play.Code as code
use Rattle.gozdrit.specs.contracts.receiver_exports.play_lent as g
use Rattle.gozdrit.proofs.receiver_exports.play_lent.Met.{met}

pub gozdrit_play_spec : {M : Type 1} → statement M
gozdrit_play_spec 𝓤 𝓛 𝓜 𝓡 wired =
    let c = f.clauses 𝓛 𝓜.mem 𝓡.returns in let 𝓣 = tables 𝓤 𝓛.H 𝓜 𝓡 𝓡.env in
    proved 𝓛 f.ended (drops f.ended.signature.params f.ended.kept) c 𝓜 𝓡 (gone_ptr 𝓛, (gone_int 𝓛 w64, (gone_ptr 𝓛, (gone_ptr 𝓛, (gone_int 𝓛 w64, tt)))))
    f.Key.name code.function (code.unfolded 𝓤 𝓛.H 𝓜 𝓡 wired)
    (λ κs. (rawptr_vals, (uint_vals w64, (rawptr_vals, (rawptr_vals, (uint_vals w64, tt))))))
    (λ κs. (rawptr_Tells, (uint_Tells w64, (rawptr_Tells, (rawptr_Tells, (uint_Tells w64, tt)))))) (λ κs qs bounds a before are.
    let p1 = a.0 in let n2 = a.1.0 in let p3 = a.1.1.0 in let p4 = a.1.1.1.0 in let n4 = a.1.1.1.1.0 in let fits2 = are.1.0.1 in let fits4 = are.1.1.1.1.0.1 in
    let vss : Vals f.signature κs = (rawptr_vals p1, (uint_vals w64 n2, (rawptr_vals p3, (rawptr_vals p4, (uint_vals w64 n4, tt))))) in
    let d1 : (Lent ReceiverRow).Denot = record { at = p1; value = before.0 } in let d3 : (Lent played_row).Denot = record { at = p3; value = before.1 } in let d4 : (LentSlice u8).Denot = record { at = p4; len = n4; items = before.2 } in
    let G = triple_of 𝓛 g.signature (g.spec 𝓛 𝓜.mem 𝓡.returns) in
    let z : G.Ghost = ((κs, qs, bounds, (d1, (n2, (d3, (d4, tt)))), (word p1 ∷ [], (uint_vals w64 n2, (word p3 ∷ [], (lent_slice_val p4 n4 ∷ [], tt))))), tt) in
    let F = λ (r : ℤ) (after : Option (Handle Receiver) × Option PlayedPacket × Option (List ℕ)). sep 𝓤 (sem 𝓛 (value_lies_at ReceiverRow p1 after.0)) (sep 𝓤 (sem 𝓛 (value_lies_at played_row p3 after.1)) (sep 𝓤 (sem 𝓛 (slice_lies_at u8 p4 n4 after.2)) (fact 𝓤 (PlayFor n2 before.0 before.1 before.2 r after.0 after.1 after.2)))) in
    qed 𝓛 (raw (on_entry 𝓛 f.signature κs qs a vss) ∷ (‵ (value_lies_at ReceiverRow p1 before.0) ⊛ ‵ (value_lies_at played_row p3 before.1) ⊛ ‵ (slice_lies_at u8 p4 n4 before.2)) ∷ []) ∵ drop ! $ split ! $ move ! (1 ∷ []) $ split ! $ move ! (1 ∷ []) $
    -- what `play_lent` takes, from the last parameter on
    nothing ! $ move ! (1 ∷ []) $ slice_made u8 ! d4 fits4 $ fjoin ! $ move ! (1 ∷ []) $ value_made played_row ! d3 $ fjoin ! $ owned ! u64 _ (uint_Makes 𝓛 w64) n2 _ (refl, fits2) $ fjoin ! $ move ! (1 ∷ []) $ value_made ReceiverRow ! d1 $ fjoin ! $
    nothing ! $ join ! $ nothing ! $ move ! (1 ∷ 0 ∷ []) $ join ! $ use1 𝓛 (raw (G.pre z)) (id⊢ 𝓤 _) $
    enter ! _ _ _ _ _ $ alloc_all ! (λ l. pass_all ! refl (ptr_good p1, ((tt, record { fits = fits2 }), (ptr_good p3, (ptr_good p4, ((tt, record { fits = fits4 }), tt))))) $
    sets ! (of_opd ! (get ! refl)) refl (ptr_good p1) $ sets ! (agg ! (and_then ! (get ! refl) (no_more !))) refl (word-Good [] p1) $ sets ! (agg ! (and_then ! (get ! refl) (no_more !))) refl (word-Good [] p3) $ sets ! (agg ! (and_then ! (get ! refl) (and_then ! (get ! refl) (no_more !)))) refl (lent_slice-Good [] p4 n4 fits4) $
    calls_at ! (framed 𝓤 𝓛.H 𝓜 𝓣) G (met 𝓤 𝓛 𝓜 𝓡 (code.calls-gozdrit::receiver_exports::play_lent 𝓡.env wired)) z
    (and_then ! (get ! refl) (and_then ! (get ! refl) (and_then ! (get ! refl) (and_then ! (get ! refl) (no_more !))))) (λ v.
    answered ! tt g.ended (g.clauses 𝓛 𝓜.mem 𝓡.returns) z v (λ r ws. answer3_had (a_value ReceiverRow) (a_value played_row) (a_slice u8) ! r v (λ is whole' good. move ! (4 ∷ []) $ heard ! _ (λ said.
    -- [the code; what lies at the pointers]
    lands_as ! is refl whole' $ sets ! (of_opd ! (get_in ! (fld ! refl (stop !)) (sub ! 0 refl (whole !)))) refl good $
    returns ! (look_at ! 0 refl) $ free_all ! refl $
    let after : Option (Handle Receiver) × Option PlayedPacket × Option (List ℕ) = (r.1.value, r.2.value, r.3.items) in let fits = said.1 in
    use0 𝓛 (raw (fact 𝓤 (PlayFor n2 before.0 before.1 before.2 r.0 after.0 after.1 after.2))) (fact_i 𝓤 (PlayFor n2 before.0 before.1 before.2 r.0 after.0 after.1 after.2) (emp 𝓤) fits) $
    move ! (4 ∷ []) $ slice_moved ! u8 r.3.items (said.0.2) (said.0.3) $ join ! $ move ! (3 ∷ []) $ moved_to ! played_row r.2.value (said.0.1) $ join ! $ move ! (2 ∷ []) $ moved_to ! ReceiverRow r.1.value (said.0.0) $ join ! $
    use1 𝓛 (raw (ex 𝓤 (F r.0))) (ex_i 𝓤 (F r.0) after) $
    move ! (1 ∷ 0 ∷ []) $ by ! (leave 𝓛 f.ended c ((κs, qs, bounds, a, vss), before) (code_val r.0) r.0 (tt, (tt, (tt, (tt, (tt, tt))))) (id⊢ 𝓤 (emp 𝓤)))))))))
