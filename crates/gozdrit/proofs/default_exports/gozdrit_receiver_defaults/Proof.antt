-- `gozdrit_receiver_defaults` hands what it was passed to `receiver_defaults_lent`, and gives the memory back.
use Rattle.gozdrit.proofs.Steps.{usize, uint_Makes, owned, ℕ, ℤ, List, [], ◌∷◌, refl, Option, proved, word, word-Good, id⊢, emp, ex, ex_i, sep, fact, fact_i, tables, sem, ‵, raw, ◌⊛◌, ◌$◌, ◌∵◌, !, qed, by, move, drop, use0, use1, split, join, fjoin, enter, of_opd, stop, fld, no_more, and_then, returns, alloc_all, pass_all, free_all, look_at, get, get_in, sets, lands_as, agg, sub, whole, w64, uint_vals, uint_Tells, rawptr_vals, rawptr_Tells, nothing, heard, calls_at, on_entry, Vals, triple_of, framed, sized_lies_at, LentSized, ptr_good, sized_made, a_sized, code_val, answer1_had, drops, answered, gone_ptr, gone_int, sized_moved, leave}
use Rattle.gozdrit.specs.Lent.{ReceiverDefaultsFor}
use Rattle.gozdrit.specs.Sizes.{HasRest}
use Rattle.gozdrit.specs.declared.sizes.TheConstants.{RECEIVER_CONFIG}
use Rattle.gozdrit.specs.contracts.config.ReceiverFields.{the_row as receiver_config_row}
use Rattle.gozdrit.specs.declared.config.ReceiverFields.{ReceiverFields}
use Rattle.gozdrit.specs.contracts.default_exports.gozdrit_receiver_defaults as f
use Rattle.gozdrit.proofs.default_exports.gozdrit_receiver_defaults.Statement.{statement}
use Rattle.gozdrit.proofs.default_exports.gozdrit_receiver_defaults.Code as code
use Rattle.gozdrit.specs.contracts.default_exports.receiver_defaults_lent as g
use Rattle.gozdrit.proofs.default_exports.receiver_defaults_lent.Met.{met}

pub gozdrit_receiver_defaults_spec : {M : Type 1} → statement M
gozdrit_receiver_defaults_spec 𝓤 𝓛 𝓜 𝓡 wired =
    let c = f.clauses 𝓛 𝓜.mem 𝓡.returns in let 𝓣 = tables 𝓤 𝓛.H 𝓜 𝓡 𝓡.env in
    proved 𝓛 f.ended (drops f.ended.signature.params f.ended.kept) c 𝓜 𝓡 (gone_ptr 𝓛, (gone_int 𝓛 w64, tt))
    f.Key.name code.function (code.unfolded 𝓤 𝓛.H 𝓜 𝓡 wired)
    (λ κs. (rawptr_vals, (uint_vals w64, tt)))
    (λ κs. (rawptr_Tells, (uint_Tells w64, tt))) (λ κs qs bounds a before are.
    let p1 = a.0 in let n2 = a.1.0 in let fits2 = are.1.0.1 in let has : Type 0 = HasRest (λ (fields : ReceiverFields). n2) RECEIVER_CONFIG before.0 before.1 in
    let vss : Vals f.signature κs = (rawptr_vals p1, (uint_vals w64 n2, tt)) in
    let d1 : (LentSized receiver_config_row).Denot = record { at = p1; value = before.0; rest = before.1 } in
    let G = triple_of 𝓛 g.signature (g.spec 𝓛 𝓜.mem 𝓡.returns) in
    let z : G.Ghost = ((κs, qs, bounds, (d1, (n2, tt)), (word p1 ∷ [], (uint_vals w64 n2, tt))), tt) in
    let F = λ (r : ℤ) (after : Option ReceiverFields × List ℕ). sep 𝓤 (sem 𝓛 (sized_lies_at receiver_config_row p1 after.0 after.1)) (fact 𝓤 (ReceiverDefaultsFor n2 before.0 before.1 r after.0 after.1)) in
    qed 𝓛 (raw (on_entry 𝓛 f.signature κs qs a vss) ∷ (raw (fact 𝓤 has) ⊛ ‵ (sized_lies_at receiver_config_row p1 before.0 before.1)) ∷ []) ∵ drop ! $ split ! $ heard ! has (λ rest.
    -- what `receiver_defaults_lent` takes, from the last parameter on
    nothing ! $ owned ! usize _ (uint_Makes 𝓛 w64) n2 _ (refl, fits2) $ fjoin ! $ move ! (1 ∷ []) $ sized_made receiver_config_row ! d1 $ fjoin ! $
    nothing ! $ join ! $ use0 𝓛 (raw (fact 𝓤 has)) (fact_i 𝓤 has (emp 𝓤) rest) $ move ! (1 ∷ 0 ∷ []) $ join ! $ use1 𝓛 (raw (G.pre z)) (id⊢ 𝓤 _) $
    enter ! _ _ _ _ _ $ alloc_all ! (λ l. pass_all ! refl (ptr_good p1, ((tt, record { fits = fits2 }), tt)) $
    sets ! (agg ! (and_then ! (get ! refl) (no_more !))) refl (word-Good [] p1) $
    calls_at ! (framed 𝓤 𝓛.H 𝓜 𝓣) G (met 𝓤 𝓛 𝓜 𝓡 (code.calls-gozdrit::default_exports::receiver_defaults_lent 𝓡.env wired)) z
    (and_then ! (get ! refl) (and_then ! (get ! refl) (no_more !))) (λ v.
    answered ! tt g.ended (g.clauses 𝓛 𝓜.mem 𝓡.returns) z v (λ r ws. answer1_had (a_sized receiver_config_row) ! r v (λ is whole' good. move ! (2 ∷ []) $ heard ! _ (λ said.
    -- [the code; what lies at the pointers]
    lands_as ! is refl whole' $ sets ! (of_opd ! (get_in ! (fld ! refl (stop !)) (sub ! 0 refl (whole !)))) refl good $
    returns ! (look_at ! 0 refl) $ free_all ! refl $
    let after : Option ReceiverFields × List ℕ = (r.1.value, r.1.rest) in let fits = said.1 in
    use0 𝓛 (raw (fact 𝓤 (ReceiverDefaultsFor n2 before.0 before.1 r.0 after.0 after.1))) (fact_i 𝓤 (ReceiverDefaultsFor n2 before.0 before.1 r.0 after.0 after.1) (emp 𝓤) fits) $
    move ! (2 ∷ []) $ sized_moved ! receiver_config_row r.1.value r.1.rest (said.0) $ join ! $
    use1 𝓛 (raw (ex 𝓤 (F r.0))) (ex_i 𝓤 (F r.0) after) $
    move ! (1 ∷ 0 ∷ []) $ by ! (leave 𝓛 f.ended c ((κs, qs, bounds, a, vss), before) (code_val r.0) r.0 (tt, (tt, tt)) (id⊢ 𝓤 (emp 𝓤))))))))))
