-- `gozdrit_types_enter` hands what it was passed to `types_enter_lent`, and gives the memory back.
use Rattle.gozdrit.proofs.Steps.{ℕ, ℤ, List, [], ◌∷◌, refl, w64, Option, proved, word, word-Good, id⊢, emp, ex, ex_i, sep, fact, fact_i, tables, sem, ‵, raw, ◌⊛◌, ◌$◌, ◌∵◌, !, qed, by, move, drop, use0, use1, split, join, fjoin, enter, of_opd, stop, fld, no_more, and_then, returns, alloc_all, pass_all, free_all, look_at, get, get_in, sets, lands_as, agg, sub, whole, u8, u64, usize, uint_vals, uint_Tells, uint_Makes, rawptr_vals, rawptr_Tells, nothing, heard, owned, calls_at, on_entry, Vals, triple_of, framed, value_lies_at, slice_lies_at, Lent, ptr_good, value_made, a_value, a_slice, code_val, answer3_had, LentSlice, lent_slice_val, lent_slice-Good, slice_made, drops, answered, gone_ptr, gone_int, moved_to, slice_moved, leave}
use Rattle.gozdrit.specs.Lent.{TypesEnterFor}
use Rattle.gozdrit.specs.contracts.type_exports.gozdrit_types_enter as f
use Rattle.gozdrit.proofs.type_exports.gozdrit_types_enter.Statement.{statement}
use Rattle.gozdrit.proofs.type_exports.gozdrit_types_enter.Code as code
use Rattle.gozdrit.specs.contracts.type_exports.types_enter_lent as g
use Rattle.gozdrit.proofs.type_exports.types_enter_lent.Met.{met}

pub gozdrit_types_enter_spec : {M : Type 1} → statement M
gozdrit_types_enter_spec 𝓤 𝓛 𝓜 𝓡 wired =
    let c = f.clauses 𝓛 𝓜.mem 𝓡.returns in let 𝓣 = tables 𝓤 𝓛.H 𝓜 𝓡 𝓡.env in
    proved 𝓛 f.ended (drops f.ended.signature.params f.ended.kept) c 𝓜 𝓡 (gone_ptr 𝓛, (gone_int 𝓛 w64, (gone_ptr 𝓛, (gone_int 𝓛 w64, (gone_int 𝓛 w64, (gone_ptr 𝓛, tt))))))
    f.Key.name code.function (code.unfolded 𝓤 𝓛.H 𝓜 𝓡 wired)
    (λ κs. (rawptr_vals, (uint_vals w64, (rawptr_vals, (uint_vals w64, (uint_vals w64, (rawptr_vals, tt)))))))
    (λ κs. (rawptr_Tells, (uint_Tells w64, (rawptr_Tells, (uint_Tells w64, (uint_Tells w64, (rawptr_Tells, tt))))))) (λ κs qs bounds a before are.
    let p1 = a.0 in let n1 = a.1.0 in let p2 = a.1.1.0 in let n2 = a.1.1.1.0 in let n3 = a.1.1.1.1.0 in let p4 = a.1.1.1.1.1.0 in let fits1 = are.1.0.1 in let fits2 = are.1.1.1.0.1 in let fits3 = are.1.1.1.1.0.1 in
    let vss : Vals f.signature κs = (rawptr_vals p1, (uint_vals w64 n1, (rawptr_vals p2, (uint_vals w64 n2, (uint_vals w64 n3, (rawptr_vals p4, tt)))))) in
    let d1 : (LentSlice u8).Denot = record { at = p1; len = n1; items = before.0 } in let d2 : (LentSlice u8).Denot = record { at = p2; len = n2; items = before.1 } in let d4 : (Lent usize).Denot = record { at = p4; value = before.2 } in
    let G = triple_of 𝓛 g.signature (g.spec 𝓛 𝓜.mem 𝓡.returns) in
    let z : G.Ghost = ((κs, qs, bounds, (d1, (d2, (n3, (d4, tt)))), (lent_slice_val p1 n1 ∷ [], (lent_slice_val p2 n2 ∷ [], (uint_vals w64 n3, (word p4 ∷ [], tt))))), tt) in
    let F = λ (r : ℤ) (after : Option (List ℕ) × Option (List ℕ) × Option ℕ). sep 𝓤 (sem 𝓛 (slice_lies_at u8 p1 n1 after.0)) (sep 𝓤 (sem 𝓛 (slice_lies_at u8 p2 n2 after.1)) (sep 𝓤 (sem 𝓛 (value_lies_at usize p4 after.2)) (fact 𝓤 (TypesEnterFor n3 before.0 before.1 before.2 r after.0 after.1 after.2)))) in
    qed 𝓛 (raw (on_entry 𝓛 f.signature κs qs a vss) ∷ (‵ (slice_lies_at u8 p1 n1 before.0) ⊛ ‵ (slice_lies_at u8 p2 n2 before.1) ⊛ ‵ (value_lies_at usize p4 before.2)) ∷ []) ∵ drop ! $ split ! $ move ! (1 ∷ []) $ split ! $ move ! (1 ∷ []) $
    -- what `types_enter_lent` takes, from the last parameter on
    nothing ! $ move ! (1 ∷ []) $ value_made usize ! d4 $ fjoin ! $ owned ! u64 _ (uint_Makes 𝓛 w64) n3 _ (refl, fits3) $ fjoin ! $ move ! (1 ∷ []) $ slice_made u8 ! d2 fits2 $ fjoin ! $ move ! (1 ∷ []) $ slice_made u8 ! d1 fits1 $ fjoin ! $
    nothing ! $ join ! $ nothing ! $ move ! (1 ∷ 0 ∷ []) $ join ! $ use1 𝓛 (raw (G.pre z)) (id⊢ 𝓤 _) $
    enter ! _ _ _ _ _ $ alloc_all ! (λ l. pass_all ! refl (ptr_good p1, ((tt, record { fits = fits1 }), (ptr_good p2, ((tt, record { fits = fits2 }), ((tt, record { fits = fits3 }), (ptr_good p4, tt)))))) $
    sets ! (agg ! (and_then ! (get ! refl) (and_then ! (get ! refl) (no_more !)))) refl (lent_slice-Good [] p1 n1 fits1) $ sets ! (agg ! (and_then ! (get ! refl) (and_then ! (get ! refl) (no_more !)))) refl (lent_slice-Good [] p2 n2 fits2) $ sets ! (agg ! (and_then ! (get ! refl) (no_more !))) refl (word-Good [] p4) $
    calls_at ! (framed 𝓤 𝓛.H 𝓜 𝓣) G (met 𝓤 𝓛 𝓜 𝓡 (code.calls-gozdrit::type_exports::types_enter_lent 𝓡.env wired)) z
    (and_then ! (get ! refl) (and_then ! (get ! refl) (and_then ! (get ! refl) (and_then ! (get ! refl) (no_more !))))) (λ v.
    answered ! tt g.ended (g.clauses 𝓛 𝓜.mem 𝓡.returns) z v (λ r ws. answer3_had (a_slice u8) (a_slice u8) (a_value usize) ! r v (λ is whole' good. move ! (4 ∷ []) $ heard ! _ (λ said.
    -- [the code; what lies at the pointers]
    lands_as ! is refl whole' $ sets ! (of_opd ! (get_in ! (fld ! refl (stop !)) (sub ! 0 refl (whole !)))) refl good $
    returns ! (look_at ! 0 refl) $ free_all ! refl $
    let after : Option (List ℕ) × Option (List ℕ) × Option ℕ = (r.1.items, r.2.items, r.3.value) in let fits = said.1 in
    use0 𝓛 (raw (fact 𝓤 (TypesEnterFor n3 before.0 before.1 before.2 r.0 after.0 after.1 after.2))) (fact_i 𝓤 (TypesEnterFor n3 before.0 before.1 before.2 r.0 after.0 after.1 after.2) (emp 𝓤) fits) $
    move ! (4 ∷ []) $ moved_to ! usize r.3.value (said.0.4) $ join ! $ move ! (3 ∷ []) $ slice_moved ! u8 r.2.items (said.0.2) (said.0.3) $ join ! $ move ! (2 ∷ []) $ slice_moved ! u8 r.1.items (said.0.0) (said.0.1) $ join ! $
    use1 𝓛 (raw (ex 𝓤 (F r.0))) (ex_i 𝓤 (F r.0) after) $
    move ! (1 ∷ 0 ∷ []) $ by ! (leave 𝓛 f.ended c ((κs, qs, bounds, a, vss), before) (code_val r.0) r.0 (tt, (tt, (tt, (tt, (tt, (tt, tt)))))) (id⊢ 𝓤 (emp 𝓤)))))))))
