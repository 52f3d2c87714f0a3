-- An export that is passed two pointers, the first that of a handle, and hands what lies there to a function over what C lends: its
-- walk, for any two types
-- and any such function. Eight exports are this one. Assumes `Logic`.
--     handing_two   its code, by the names of the types of its locals and of what it calls
--     hands_two     if the callee keeps its promise, so does the export
use Rattle.gozdrit.proofs.Steps.{ℤ, Option, [], ◌∷◌, refl, proved, word, word_ty, word-Good, id⊢, emp, ex, ex_i, sep, fact, fact_i, tables, sem, ty_int, w32, i32, RattleType, RawPtr, ‵, raw, ◌⊛◌, ◌$◌, ◌∵◌, !, qed, by, move, drop, use0, use1, split, join, fjoin, enter, of_opd, stop, fld, no_more, and_then, returns, alloc_all, pass_all, free_all, look_at, get, get_in, sets, lands_as, agg, sub, whole, rawptr_vals, rawptr_Tells, nothing, heard, calls_at, on_entry, Vals, triple_of, framed, gone_ptr, value_lies_at, Lent, ptr_good, value_made, code_val, a_value, answer2_had, drops, answered, moved_to, leave}
use seplogic.Ra.Ura.{Ura}
use contract.Running.{Running}
use denote.Exit.{yes}
use denote.Signature.{plain}
use denote.Struct.Struct.{to_tys}
use denote.Struct.Tuple.{Tuple}
use denote.Triple.Clauses.{Ended, Clauses, closing}
use denote.Triple.Spec.{Meets}
use mir.Syntax.{Sym, Callee, Fn, local, value_local, place, field, copy, aggregate, assign, call, rv_opd, return, seq, ty_ptr, ty_struct}
use prog.Model.{Model}
use prog.Wp.{Closed}
use types.Logic.{Logic}
use Rattle.std.specs.Prelude.{◌≡◌}

abbrev pub handing_two : (ν ν1 ν2 : Sym) → Callee → Fn
handing_two ν ν1 ν2 callee = record {
  lifetimes = 0;
  outlives = [];
  ty_params = [];
  givens = 0;
  params = 2;
  locals =
      local (ty_int w32) value_local ∷ local ty_ptr value_local ∷ local ty_ptr value_local
      ∷ local (ty_struct ν (to_tys (ty_int w32 ∷ word_ty ν1 ∷ word_ty ν2 ∷ []))) value_local ∷ local ty_ptr value_local ∷ local (word_ty ν1) value_local ∷ local (word_ty ν2) value_local ∷ [];
  body =
      seq (assign (place 4 []) (rv_opd (copy (place 1 []))))
      (seq (assign (place 5 []) (aggregate (copy (place 4 []) ∷ [])))
      (seq (assign (place 6 []) (aggregate (copy (place 2 []) ∷ [])))
      (seq (call callee (copy (place 5 []) ∷ copy (place 6 []) ∷ []) (place 3 []))
      (seq (assign (place 0 []) (rv_opd (copy (place 3 (field 0 ∷ []))))) return))));
}

-- how it is called
abbrev given : Ended
given = record {
  signature = record {
    lifetimes = 0;
    outlives = [];
    params = plain (λ κs. RawPtr) ∷ plain (λ κs. RawPtr) ∷ [];
    result = plain (λ κs. i32);
  };
  kept = (yes, (yes, tt));
}

module _ {M : Type 1} (𝓤 : Ura M) (𝓛 : Logic 𝓤) (𝓜 : Model 𝓤 𝓛.H) (𝓡 : Running 𝓤 𝓛.H 𝓜) (A B : RattleType)
    (Fits : Option A.Denot → Option B.Denot → ℤ → Option A.Denot → Option B.Denot → Type 0) where
  -- how its callee is called
  abbrev handed : Ended
  handed = record {
    signature = record {
      lifetimes = 0;
      outlives = [];
      params = plain (λ κs. Lent A) ∷ plain (λ κs. Lent B) ∷ [];
      result = plain (λ κs. Tuple (i32 ∷ Lent A ∷ Lent B ∷ []));
    };
    kept = (yes, (yes, tt));
  }

  -- what the export promises
  abbrev given_clauses : Clauses 𝓤 given
  given_clauses = λ κs a. record {
    ghost = Option A.Denot × Option B.Denot;
    requires = λ before. sep 𝓤 (sem 𝓛 (value_lies_at A a.0 before.0)) (sem 𝓛 (value_lies_at B a.1.0 before.1));
    ensures = λ before r end. ex 𝓤 (λ (after : Option A.Denot × Option B.Denot).
        sep 𝓤 (sem 𝓛 (value_lies_at A a.0 after.0)) (sep 𝓤 (sem 𝓛 (value_lies_at B a.1.0 after.1)) (fact 𝓤 (Fits before.0 before.1 r after.0 after.1))));
  }

  -- what its callee promises
  abbrev handed_clauses : Clauses 𝓤 handed
  handed_clauses = λ κs a. record {
    ghost = Unit {0};
    requires = λ g. emp 𝓤;
    ensures = λ g r end. fact 𝓤 ((r.1.at ≡ a.0.at × r.2.at ≡ a.1.0.at) × Fits a.0.value a.1.0.value r.0 r.1.value r.2.value);
  }

  pub hands_two : (ν ν1 ν2 : Sym) (export callee : Callee) → Closed 𝓤 𝓛.H (tables 𝓤 𝓛.H 𝓜 𝓡 𝓡.env).C (tables 𝓤 𝓛.H 𝓜 𝓡 𝓡.env).Λ export (handing_two ν ν1 ν2 callee)
      → Meets 𝓛 handed.signature (𝓡.run (𝓡.env callee)) (closing 𝓛 handed handed_clauses) → Meets 𝓛 given.signature (𝓡.run (𝓡.env export)) (closing 𝓛 given given_clauses)
  hands_two ν ν1 ν2 export callee closed met =
      let 𝓣 = tables 𝓤 𝓛.H 𝓜 𝓡 𝓡.env in
      proved 𝓛 given (drops given.signature.params given.kept) given_clauses 𝓜 𝓡 (gone_ptr 𝓛, (gone_ptr 𝓛, tt))
      export (handing_two ν ν1 ν2 callee) closed
      (λ κs. (rawptr_vals, (rawptr_vals, tt)))
      (λ κs. (rawptr_Tells, (rawptr_Tells, tt))) (λ κs qs bounds a before are.
      let p1 = a.0 in let p2 = a.1.0 in
      let vss : Vals given.signature κs = (rawptr_vals p1, (rawptr_vals p2, tt)) in
      let d1 : (Lent A).Denot = record { at = p1; value = before.0 } in let d2 : (Lent B).Denot = record { at = p2; value = before.1 } in
      let G = triple_of 𝓛 handed.signature (closing 𝓛 handed handed_clauses) in
      let z : G.Ghost = ((κs, qs, bounds, (d1, (d2, tt)), (word p1 ∷ [], (word p2 ∷ [], tt))), tt) in
      let F = λ (r : ℤ) (after : Option A.Denot × Option B.Denot). sep 𝓤 (sem 𝓛 (value_lies_at A p1 after.0)) (sep 𝓤 (sem 𝓛 (value_lies_at B p2 after.1)) (fact 𝓤 (Fits before.0 before.1 r after.0 after.1))) in
      qed 𝓛 (raw (on_entry 𝓛 given.signature κs qs a vss) ∷ (‵ (value_lies_at A p1 before.0) ⊛ ‵ (value_lies_at B p2 before.1)) ∷ []) ∵ drop ! $ split ! $ move ! (1 ∷ []) $
      -- what the callee takes, from the last parameter on
      nothing ! $ move ! (1 ∷ []) $ value_made B ! d2 $ fjoin ! $ move ! (1 ∷ []) $ value_made A ! d1 $ fjoin ! $
      nothing ! $ join ! $ nothing ! $ move ! (1 ∷ 0 ∷ []) $ join ! $ use1 𝓛 (raw (G.pre z)) (id⊢ 𝓤 _) $
      enter ! _ _ _ _ _ $ alloc_all ! (λ l. pass_all ! refl (ptr_good p1, (ptr_good p2, tt)) $
      sets ! (of_opd ! (get ! refl)) refl (ptr_good p1) $ sets ! (agg ! (and_then ! (get ! refl) (no_more !))) refl (word-Good ν1 p1) $ sets ! (agg ! (and_then ! (get ! refl) (no_more !))) refl (word-Good ν2 p2) $
      calls_at ! (framed 𝓤 𝓛.H 𝓜 𝓣) G met z
      (and_then ! (get ! refl) (and_then ! (get ! refl) (no_more !))) (λ v.
      answered ! tt handed handed_clauses z v (λ r ws. answer2_had (a_value A) (a_value B) ! r v (λ is whole' good. move ! (3 ∷ []) $ heard ! _ (λ said.
      -- [the code; what lies at the pointers]
      lands_as ! is refl whole' $ sets ! (of_opd ! (get_in ! (fld ! refl (stop !)) (sub ! 0 refl (whole !)))) refl good $
      returns ! (look_at ! 0 refl) $ free_all ! refl $
      let after : Option A.Denot × Option B.Denot = (r.1.value, r.2.value) in let fits = said.1 in
      use0 𝓛 (raw (fact 𝓤 (Fits before.0 before.1 r.0 after.0 after.1))) (fact_i 𝓤 (Fits before.0 before.1 r.0 after.0 after.1) (emp 𝓤) fits) $
      move ! (3 ∷ []) $ moved_to ! B r.2.value (said.0.1) $ join ! $ move ! (2 ∷ []) $ moved_to ! A r.1.value (said.0.0) $ join ! $
      use1 𝓛 (raw (ex 𝓤 (F r.0))) (ex_i 𝓤 (F r.0) after) $
      move ! (1 ∷ 0 ∷ []) $ by ! (leave 𝓛 given given_clauses ((κs, qs, bounds, a, vss), before) (code_val r.0) r.0 (tt, (tt, tt)) (id⊢ 𝓤 (emp 𝓤)))))))))
