-- `gozdrit_srtp_sender_free` hands what it was passed to `srtp_sender_free_lent`, and gives the memory back.
use Rattle.gozdrit.proofs.Steps.{ℤ, [], ◌∷◌, refl, Option, proved, word, word-Good, heap_val, heap_Tells, id⊢, emp, ex, ex_i, sep, fact, fact_i, tables, sem, ‵, raw, ◌$◌, ◌∵◌, !, qed, by, move, drop, use0, use1, join, fjoin, enter, of_opd, stop, fld, no_more, and_then, returns, alloc_all, pass_all, free_all, look_at, get, get_in, sets, lands_as, agg, sub, whole, rawptr_vals, rawptr_Tells, nothing, heard, calls_at, on_entry, Vals, triple_of, framed, value_lies_at, Lent, ptr_good, value_made, a_value, code_val, answer1_had, drops, answered, gone_ptr, gone_heap, alloc_made, moved_to, leave}
use Rattle.contexts.specs.declared.outbound.Outbound.{Outbound}
use Rattle.gozdrit.specs.Lent.{SrtpSenderFreeFor}
use Rattle.gozdrit.specs.Ends.{SrtpSenderRow}
use Rattle.gozdrit.specs.declared.handle.Handle.{Handle}
use Rattle.gozdrit.specs.contracts.srtp_exports.gozdrit_srtp_sender_free as f
use Rattle.gozdrit.proofs.srtp_exports.gozdrit_srtp_sender_free.Statement.{statement}
use Rattle.gozdrit.proofs.srtp_exports.gozdrit_srtp_sender_free.Code as code
use Rattle.gozdrit.specs.contracts.srtp_exports.srtp_sender_free_lent as g
use Rattle.gozdrit.proofs.srtp_exports.srtp_sender_free_lent.Met.{met}

pub gozdrit_srtp_sender_free_spec : {M : Type 1} → statement M
gozdrit_srtp_sender_free_spec 𝓤 𝓛 𝓜 𝓡 wired =
    let c = f.clauses 𝓛 𝓜.mem 𝓡.returns in let 𝓣 = tables 𝓤 𝓛.H 𝓜 𝓡 𝓡.env in
    proved 𝓛 f.ended (drops f.ended.signature.params f.ended.kept) c 𝓜 𝓡 (gone_heap 𝓛, (gone_ptr 𝓛, tt))
    f.Key.name code.function (code.unfolded 𝓤 𝓛.H 𝓜 𝓡 wired)
    (λ κs. ((λ _. heap_val ∷ []), (rawptr_vals, tt)))
    (λ κs. (heap_Tells, (rawptr_Tells, tt))) (λ κs qs bounds a before are.
    let p1 = a.1.0 in
    let vss : Vals f.signature κs = (heap_val ∷ [], (rawptr_vals p1, tt)) in
    let d1 : (Lent SrtpSenderRow).Denot = record { at = p1; value = before } in
    let G = triple_of 𝓛 g.signature (g.spec 𝓛 𝓜.mem 𝓡.returns) in
    let z : G.Ghost = ((κs, qs, bounds, (a.0, (d1, tt)), (heap_val ∷ [], (word p1 ∷ [], tt))), tt) in
    let F = λ (r : ℤ) (after : Option (Handle Outbound)). sep 𝓤 (sem 𝓛 (value_lies_at SrtpSenderRow p1 after)) (fact 𝓤 (SrtpSenderFreeFor before r after)) in
    qed 𝓛 (raw (on_entry 𝓛 f.signature κs qs a vss) ∷ (‵ (value_lies_at SrtpSenderRow p1 before)) ∷ []) ∵ drop ! $
    -- what `srtp_sender_free_lent` takes, from the last parameter on
    nothing ! $ move ! (1 ∷ []) $ value_made SrtpSenderRow ! d1 $ fjoin ! $ alloc_made ! a.0 are.0 $ fjoin ! $
    nothing ! $ join ! $ nothing ! $ move ! (1 ∷ 0 ∷ []) $ join ! $ use1 𝓛 (raw (G.pre z)) (id⊢ 𝓤 _) $
    enter ! _ _ _ _ _ $ alloc_all ! (λ l. pass_all ! refl ((tt, ((tt, tt), tt)), (ptr_good p1, tt)) $
    sets ! (of_opd ! (get ! refl)) refl (ptr_good p1) $ sets ! (agg ! (and_then ! (get ! refl) (no_more !))) refl (word-Good [] p1) $
    calls_at ! (framed 𝓤 𝓛.H 𝓜 𝓣) G (met 𝓤 𝓛 𝓜 𝓡 (code.calls-gozdrit::srtp_exports::srtp_sender_free_lent 𝓡.env wired)) z
    (and_then ! (get ! refl) (and_then ! (get ! refl) (no_more !))) (λ v.
    answered ! tt g.ended (g.clauses 𝓛 𝓜.mem 𝓡.returns) z v (λ r ws. answer1_had (a_value SrtpSenderRow) ! r v (λ is whole' good. move ! (2 ∷ []) $ heard ! _ (λ said.
    -- [the code; what lies at the pointers]
    lands_as ! is refl whole' $ sets ! (of_opd ! (get_in ! (fld ! refl (stop !)) (sub ! 0 refl (whole !)))) refl good $
    returns ! (look_at ! 0 refl) $ free_all ! refl $
    let after : Option (Handle Outbound) = r.1.value in let fits = said.1 in
    use0 𝓛 (raw (fact 𝓤 (SrtpSenderFreeFor before r.0 after))) (fact_i 𝓤 (SrtpSenderFreeFor before r.0 after) (emp 𝓤) fits) $
    move ! (2 ∷ []) $ moved_to ! SrtpSenderRow r.1.value (said.0) $ join ! $
    use1 𝓛 (raw (ex 𝓤 (F r.0))) (ex_i 𝓤 (F r.0) after) $
    move ! (1 ∷ 0 ∷ []) $ by ! (leave 𝓛 f.ended c ((κs, qs, bounds, a, vss), before) (code_val r.0) r.0 (tt, (tt, tt)) (id⊢ 𝓤 (emp 𝓤)))))))))
