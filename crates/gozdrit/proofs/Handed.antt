-- What a function over what C lends answers: its code, and these. Assumes `Logic`.
--     Back         a value or a slice, by the row of what lies there: its row, its machine value, and what lies there
--     answerN_had  an answer with N of them: its machine value, and [the code; what lies at each]
use Rattle.std.proofs.Common.{◌≡◌, ◌^◌, ◌<◌, ℤ, List, [], ◌∷◌, ◌++◌, refl, ap, ◌∙◌}
use lib.Dec.{T}
use seplogic.Ra.Ura.{Ura}
use base.Fml.{Fml}
use mir.Syntax.{Ty, w32, ty_int}
use mir.Val.{Val, vstruct, of_list, has_tys, WTs}
use types.Logic.{Logic}
use types.Kit.{Item, Goal, Seq, ‵, ◌$◌, move, drop, rewrite, fsplit, fpick, feq_l}
use denote.Builtin.{i32}
use denote.Laws.{Is, shows}
use denote.RattleType.{RattleType}
use denote.Signed.{sint_vals, sint_Lawful}
use denote.Steps.{peeks, only}
use denote.Struct.Struct.{as_fields, to_tys}
use denote.Struct.Tuple.{Tuple}
use Rattle.std.proofs.RcSteps.{Good, word, word_ty, word-Good}
use Rattle.gozdrit.specs.Lying.{value_lies_at, slice_lies_at, sized_lies_at}
use Rattle.gozdrit.proofs.LentMemory.{Lent, value_had}
use Rattle.gozdrit.proofs.SizedMemory.{LentSized, sized_had}
use Rattle.gozdrit.proofs.SliceMemory.{LentSlice, lent_slice_val, lent_slice_ty, lent_slice-Good, slice_had}

pub data Back : Type 2 where
  a_value : RattleType → Back
  a_slice : RattleType → Back
  a_sized : RattleType → Back

abbrev pub row : Back → RattleType
row (a_value R) = Lent R
row (a_slice R) = LentSlice R
row (a_sized R) = LentSized R

abbrev pub back_val : (k : Back) → (row k).Denot → Val
back_val (a_value R) d = word d.at
back_val (a_slice R) d = lent_slice_val d.at d.len
back_val (a_sized R) d = word d.at

abbrev pub back_ty : Back → Ty
back_ty (a_value R) = word_ty []
back_ty (a_slice R) = lent_slice_ty []
back_ty (a_sized R) = word_ty []

abbrev pub Fits : (k : Back) → (row k).Denot → Type 0
Fits (a_value R) d = Unit {0}
Fits (a_slice R) d = d.len < 2 ^ 64
Fits (a_sized R) d = Unit {0}

-- what lies there
abbrev pub lies : (k : Back) → (row k).Denot → Fml
lies (a_value R) d = value_lies_at R d.at d.value
lies (a_slice R) d = slice_lies_at R d.at d.len d.items
lies (a_sized R) d = sized_lies_at R d.at d.value d.rest

pub back-Good : (k : Back) (d : (row k).Denot) → Fits k d → Good (back_ty k) (back_val k d)
back-Good (a_value R) d fits = word-Good [] d.at
back-Good (a_slice R) d fits = lent_slice-Good [] d.at d.len fits
back-Good (a_sized R) d fits = word-Good [] d.at

-- a code's machine value
abbrev pub code_val : ℤ → Val
code_val z = only (sint_vals w32 z)

-- an answer's
abbrev pub answer_val : ℤ → List Val → Val
answer_val z ws = vstruct (of_list (code_val z ∷ ws))

abbrev pub AnswerGood : List Ty → ℤ → List Val → Type 0
AnswerGood τs z ws = T (has_tys (to_tys (ty_int w32 ∷ τs)) (of_list (code_val z ∷ ws))) × WTs (of_list (code_val z ∷ ws))

module _ {M : Type 1} {𝓤 : Ura M} {𝓛 : Logic 𝓤} {K : Type 0} {Γ : List (Item 𝓤)} {G : Goal 𝓤 𝓛.H} where
  pub back_had : K → (k : Back) (d : (row k).Denot) (vs : List Val) → (vs ≡ back_val k d ∷ [] → Fits k d → Seq K 𝓛 (‵ (lies k d) ∷ Γ) G) → Seq K 𝓛 (‵ ((row k).own_val d vs) ∷ Γ) G
  back_had t (a_value R) d vs k = value_had R t d vs (λ e. k e tt)
  back_had t (a_slice R) d vs k = slice_had R t d vs k
  back_had t (a_sized R) d vs k = sized_had R t d vs (λ e. k e tt)

  code_had : K → (z : ℤ) (vs : List Val) → (vs ≡ code_val z ∷ [] → Good (ty_int w32) (code_val z) → Seq K 𝓛 (‵ (i32.own_val z (code_val z ∷ [])) ∷ Γ) G) → Seq K 𝓛 (‵ (i32.own_val z vs) ∷ Γ) G
  code_had t z vs k = peeks t i32 (Is i32) (shows 𝓛 i32) z vs (λ is. rewrite t 0 (λ (us : List Val). ‵ (i32.own_val z us)) is.0 refl $ k is.0 (((sint_Lawful 𝓛 w32).typed z (code_val z ∷ []) (refl, is.1)).0))

module _ (k1 : Back) {M : Type 1} {𝓤 : Ura M} {𝓛 : Logic 𝓤} {K : Type 0} {Γ : List (Item 𝓤)} {G : Goal 𝓤 𝓛.H} where
  pub answer1_had : K → (r : (Tuple (i32 ∷ row k1 ∷ [])).Denot) (v : Val)
      → (v ≡ answer_val r.0 (back_val k1 r.1 ∷ []) → AnswerGood (back_ty k1 ∷ []) r.0 (back_val k1 r.1 ∷ []) → Good (ty_int w32) (code_val r.0)
      → Seq K 𝓛 (‵ (i32.own_val r.0 (code_val r.0 ∷ [])) ∷ ‵ (lies k1 r.1) ∷ Γ) G)
      → Seq K 𝓛 (‵ ((Tuple (i32 ∷ row k1 ∷ [])).own_val r (v ∷ [])) ∷ Γ) G
  answer1_had t r v k =
      fpick t (λ vss. fsplit t $ feq_l t (λ e. fsplit t $ code_had t r.0 vss.0 (λ e0 g. move t (1 ∷ []) $ fsplit t $ back_had t k1 r.1 vss.1.0 (λ e1 f1. move t (1 ∷ []) $ drop t $ move t (1 ∷ 0 ∷ []) $
      k (ap only (e ∙ (λ j. vstruct (of_list (e0 j ++ (e1 j ++ []))) ∷ []))) (as_fields (ty_int w32 ∷ back_ty k1 ∷ []) (code_val r.0 ∷ back_val k1 r.1 ∷ []) (g, (back-Good k1 r.1 f1, tt))) g))))

module _ (k1 k2 : Back) {M : Type 1} {𝓤 : Ura M} {𝓛 : Logic 𝓤} {K : Type 0} {Γ : List (Item 𝓤)} {G : Goal 𝓤 𝓛.H} where
  pub answer2_had : K → (r : (Tuple (i32 ∷ row k1 ∷ row k2 ∷ [])).Denot) (v : Val)
      → (v ≡ answer_val r.0 (back_val k1 r.1 ∷ back_val k2 r.2 ∷ []) → AnswerGood (back_ty k1 ∷ back_ty k2 ∷ []) r.0 (back_val k1 r.1 ∷ back_val k2 r.2 ∷ []) → Good (ty_int w32) (code_val r.0)
      → Seq K 𝓛 (‵ (i32.own_val r.0 (code_val r.0 ∷ [])) ∷ ‵ (lies k1 r.1) ∷ ‵ (lies k2 r.2) ∷ Γ) G)
      → Seq K 𝓛 (‵ ((Tuple (i32 ∷ row k1 ∷ row k2 ∷ [])).own_val r (v ∷ [])) ∷ Γ) G
  answer2_had t r v k =
      fpick t (λ vss. fsplit t $ feq_l t (λ e. fsplit t $ code_had t r.0 vss.0 (λ e0 g. move t (1 ∷ []) $ fsplit t $ back_had t k1 r.1 vss.1.0 (λ e1 f1. move t (1 ∷ []) $ fsplit t $ back_had t k2 r.2 vss.1.1.0 (λ e2 f2. move t (1 ∷ []) $ drop t $ move t (2 ∷ 1 ∷ 0 ∷ []) $
      k (ap only (e ∙ (λ j. vstruct (of_list (e0 j ++ (e1 j ++ (e2 j ++ [])))) ∷ []))) (as_fields (ty_int w32 ∷ back_ty k1 ∷ back_ty k2 ∷ []) (code_val r.0 ∷ back_val k1 r.1 ∷ back_val k2 r.2 ∷ []) (g, (back-Good k1 r.1 f1, (back-Good k2 r.2 f2, tt)))) g)))))

module _ (k1 k2 k3 : Back) {M : Type 1} {𝓤 : Ura M} {𝓛 : Logic 𝓤} {K : Type 0} {Γ : List (Item 𝓤)} {G : Goal 𝓤 𝓛.H} where
  pub answer3_had : K → (r : (Tuple (i32 ∷ row k1 ∷ row k2 ∷ row k3 ∷ [])).Denot) (v : Val)
      → (v ≡ answer_val r.0 (back_val k1 r.1 ∷ back_val k2 r.2 ∷ back_val k3 r.3 ∷ []) → AnswerGood (back_ty k1 ∷ back_ty k2 ∷ back_ty k3 ∷ []) r.0 (back_val k1 r.1 ∷ back_val k2 r.2 ∷ back_val k3 r.3 ∷ []) → Good (ty_int w32) (code_val r.0)
      → Seq K 𝓛 (‵ (i32.own_val r.0 (code_val r.0 ∷ [])) ∷ ‵ (lies k1 r.1) ∷ ‵ (lies k2 r.2) ∷ ‵ (lies k3 r.3) ∷ Γ) G)
      → Seq K 𝓛 (‵ ((Tuple (i32 ∷ row k1 ∷ row k2 ∷ row k3 ∷ [])).own_val r (v ∷ [])) ∷ Γ) G
  answer3_had t r v k =
      fpick t (λ vss. fsplit t $ feq_l t (λ e. fsplit t $ code_had t r.0 vss.0 (λ e0 g. move t (1 ∷ []) $ fsplit t $ back_had t k1 r.1 vss.1.0 (λ e1 f1. move t (1 ∷ []) $ fsplit t $ back_had t k2 r.2 vss.1.1.0 (λ e2 f2. move t (1 ∷ []) $ fsplit t $ back_had t k3 r.3 vss.1.1.1.0 (λ e3 f3. move t (1 ∷ []) $ drop t $ move t (3 ∷ 2 ∷ 1 ∷ 0 ∷ []) $
      k (ap only (e ∙ (λ j. vstruct (of_list (e0 j ++ (e1 j ++ (e2 j ++ (e3 j ++ []))))) ∷ []))) (as_fields (ty_int w32 ∷ back_ty k1 ∷ back_ty k2 ∷ back_ty k3 ∷ []) (code_val r.0 ∷ back_val k1 r.1 ∷ back_val k2 r.2 ∷ back_val k3 r.3 ∷ []) (g, (back-Good k1 r.1 f1, (back-Good k2 r.2 f2, (back-Good k3 r.3 f3, tt))))) g))))))

module _ (k1 k2 k3 k4 : Back) {M : Type 1} {𝓤 : Ura M} {𝓛 : Logic 𝓤} {K : Type 0} {Γ : List (Item 𝓤)} {G : Goal 𝓤 𝓛.H} where
  pub answer4_had : K → (r : (Tuple (i32 ∷ row k1 ∷ row k2 ∷ row k3 ∷ row k4 ∷ [])).Denot) (v : Val)
      → (v ≡ answer_val r.0 (back_val k1 r.1 ∷ back_val k2 r.2 ∷ back_val k3 r.3 ∷ back_val k4 r.4 ∷ []) → AnswerGood (back_ty k1 ∷ back_ty k2 ∷ back_ty k3 ∷ back_ty k4 ∷ []) r.0 (back_val k1 r.1 ∷ back_val k2 r.2 ∷ back_val k3 r.3 ∷ back_val k4 r.4 ∷ []) → Good (ty_int w32) (code_val r.0)
      → Seq K 𝓛 (‵ (i32.own_val r.0 (code_val r.0 ∷ [])) ∷ ‵ (lies k1 r.1) ∷ ‵ (lies k2 r.2) ∷ ‵ (lies k3 r.3) ∷ ‵ (lies k4 r.4) ∷ Γ) G)
      → Seq K 𝓛 (‵ ((Tuple (i32 ∷ row k1 ∷ row k2 ∷ row k3 ∷ row k4 ∷ [])).own_val r (v ∷ [])) ∷ Γ) G
  answer4_had t r v k =
      fpick t (λ vss. fsplit t $ feq_l t (λ e. fsplit t $ code_had t r.0 vss.0 (λ e0 g. move t (1 ∷ []) $ fsplit t $ back_had t k1 r.1 vss.1.0 (λ e1 f1. move t (1 ∷ []) $ fsplit t $ back_had t k2 r.2 vss.1.1.0 (λ e2 f2. move t (1 ∷ []) $ fsplit t $ back_had t k3 r.3 vss.1.1.1.0 (λ e3 f3. move t (1 ∷ []) $ fsplit t $ back_had t k4 r.4 vss.1.1.1.1.0 (λ e4 f4. move t (1 ∷ []) $ drop t $ move t (4 ∷ 3 ∷ 2 ∷ 1 ∷ 0 ∷ []) $
      k (ap only (e ∙ (λ j. vstruct (of_list (e0 j ++ (e1 j ++ (e2 j ++ (e3 j ++ (e4 j ++ [])))))) ∷ []))) (as_fields (ty_int w32 ∷ back_ty k1 ∷ back_ty k2 ∷ back_ty k3 ∷ back_ty k4 ∷ []) (code_val r.0 ∷ back_val k1 r.1 ∷ back_val k2 r.2 ∷ back_val k3 r.3 ∷ back_val k4 r.4 ∷ []) (g, (back-Good k1 r.1 f1, (back-Good k2 r.2 f2, (back-Good k3 r.3 f3, (back-Good k4 r.4 f4, tt)))))) g)))))))

module _ (k1 k2 k3 k4 k5 : Back) {M : Type 1} {𝓤 : Ura M} {𝓛 : Logic 𝓤} {K : Type 0} {Γ : List (Item 𝓤)} {G : Goal 𝓤 𝓛.H} where
  pub answer5_had : K → (r : (Tuple (i32 ∷ row k1 ∷ row k2 ∷ row k3 ∷ row k4 ∷ row k5 ∷ [])).Denot) (v : Val)
      → (v ≡ answer_val r.0 (back_val k1 r.1 ∷ back_val k2 r.2 ∷ back_val k3 r.3 ∷ back_val k4 r.4 ∷ back_val k5 r.5 ∷ []) → AnswerGood (back_ty k1 ∷ back_ty k2 ∷ back_ty k3 ∷ back_ty k4 ∷ back_ty k5 ∷ []) r.0 (back_val k1 r.1 ∷ back_val k2 r.2 ∷ back_val k3 r.3 ∷ back_val k4 r.4 ∷ back_val k5 r.5 ∷ []) → Good (ty_int w32) (code_val r.0)
      → Seq K 𝓛 (‵ (i32.own_val r.0 (code_val r.0 ∷ [])) ∷ ‵ (lies k1 r.1) ∷ ‵ (lies k2 r.2) ∷ ‵ (lies k3 r.3) ∷ ‵ (lies k4 r.4) ∷ ‵ (lies k5 r.5) ∷ Γ) G)
      → Seq K 𝓛 (‵ ((Tuple (i32 ∷ row k1 ∷ row k2 ∷ row k3 ∷ row k4 ∷ row k5 ∷ [])).own_val r (v ∷ [])) ∷ Γ) G
  answer5_had t r v k =
      fpick t (λ vss. fsplit t $ feq_l t (λ e. fsplit t $ code_had t r.0 vss.0 (λ e0 g. move t (1 ∷ []) $ fsplit t $ back_had t k1 r.1 vss.1.0 (λ e1 f1. move t (1 ∷ []) $ fsplit t $ back_had t k2 r.2 vss.1.1.0 (λ e2 f2. move t (1 ∷ []) $ fsplit t $ back_had t k3 r.3 vss.1.1.1.0 (λ e3 f3. move t (1 ∷ []) $ fsplit t $ back_had t k4 r.4 vss.1.1.1.1.0 (λ e4 f4. move t (1 ∷ []) $ fsplit t $ back_had t k5 r.5 vss.1.1.1.1.1.0 (λ e5 f5. move t (1 ∷ []) $ drop t $ move t (5 ∷ 4 ∷ 3 ∷ 2 ∷ 1 ∷ 0 ∷ []) $
      k (ap only (e ∙ (λ j. vstruct (of_list (e0 j ++ (e1 j ++ (e2 j ++ (e3 j ++ (e4 j ++ (e5 j ++ []))))))) ∷ []))) (as_fields (ty_int w32 ∷ back_ty k1 ∷ back_ty k2 ∷ back_ty k3 ∷ back_ty k4 ∷ back_ty k5 ∷ []) (code_val r.0 ∷ back_val k1 r.1 ∷ back_val k2 r.2 ∷ back_val k3 r.3 ∷ back_val k4 r.4 ∷ back_val k5 r.5 ∷ []) (g, (back-Good k1 r.1 f1, (back-Good k2 r.2 f2, (back-Good k3 r.3 f3, (back-Good k4 r.4 f4, (back-Good k5 r.5 f5, tt))))))) g))))))))
