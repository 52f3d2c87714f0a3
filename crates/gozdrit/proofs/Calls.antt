-- A call of a function of `Box` at the element T and at the heap. Assumes `Logic`.
--     asks_heap, gives_back      the caller's token and bound of T become those of T and of the heap, and the caller's token comes back
--     answer                     what the callee answered: [its result; its `ensures`; the tokens]
use Rattle.std.proofs.Common.{List, [], ◌∷◌, refl}
use seplogic.Ra.Ura.{Ura}
use base.Fml.{Lft, Share, ftrue, flft}
use base.Fraction.{full_share}
use base.Logic.{emp, id⊢}
use contract.BorrowLft.{◌⊑◌}
use contract.Monad.{fact, fact_i}
use denote.Exit.{no}
use denote.Param.{arg, layout}
use denote.Param.Laws.{Laws, arg_laws}
use denote.RattleType.{RattleType}
use denote.Signature.{type_at}
use denote.Triple.Clauses.{Ended, Clauses, closing, Lasts, at_exit, lasts}
use denote.Triple.Entry.{Res, alive}
use denote.Triple.Spec.{triple_of}
use mir.Raw.{raw as bare}
use mir.Syntax.{Dict, impl, tcons, tnil, dnil}
use mir.Val.{Val}
use types.Kit.{Item, Goal, Seq, Step, step, Soaks, ‵, raw, ◌⊛◌, some, later, ◌$◌, move, drop, use0, use1, split, split3, join, pick, await}
use types.Logic.{Logic}
use Rattle.gozdrit.proofs.Destruct++none.drop.Symbol as none
use Rattle.std.proofs.alloc.Global.TheLaws as heap_laws
use Rattle.std.specs.contracts.alloc.Global.{the_row as Heap}

-- the heap's handle as a type argument
abbrev pub Passed : RattleType
Passed = arg (bare (layout Heap)) no Heap

abbrev pub passed_laws : Laws Passed
passed_laws = arg_laws (bare (layout Heap)) no Heap heap_laws.the_row_laws refl

-- the glue that drops it
abbrev pub let_go : Dict
let_go = impl (none.symbol ∷ []) (tcons (layout Passed) tnil) dnil

abbrev pub own_token : {M : Type 1} {𝓤 : Ura M} → Lft → Share → Item 𝓤
own_token κ q = ‵ (flft κ q) ⊛ ‵ ftrue

abbrev pub both_tokens : {M : Type 1} {𝓤 : Ura M} → Lft → Share → Item 𝓤
both_tokens κ q = ‵ (flft κ q) ⊛ ‵ (flft [] full_share) ⊛ ‵ ftrue

module _ {M : Type 1} {𝓤 : Ura M} {𝓛 : Logic 𝓤} {K : Type 0} {Γ : List (Item 𝓤)} {G : Goal 𝓤 𝓛.H} where
  module _ (T : RattleType) (κ : Lft) (q : Share) where
    pub asks_heap : K → Step K 𝓛 (both_tokens κ q ∷ (raw (fact 𝓤 (κ ⊑ T.lives)) ⊛ raw (fact 𝓤 ([] ⊑ Heap.lives)) ⊛ ‵ ftrue) ∷ Γ) G (own_token κ q ∷ (raw (fact 𝓤 (κ ⊑ T.lives)) ⊛ ‵ ftrue) ∷ Γ) G
    asks_heap t = step (λ s.
        split t $ move t (1 ∷ []) $ use0 𝓛 (‵ (flft [] full_share)) (𝓛.lfts.lft-nil full_share) $ join t $ move t (1 ∷ 0 ∷ []) $ join t $
        move t (1 ∷ []) $ split t $ move t (1 ∷ []) $ use0 𝓛 (raw (fact 𝓤 ([] ⊑ Heap.lives))) (fact_i 𝓤 ([] ⊑ Heap.lives) (emp 𝓤) (heap_laws.the_within [])) $ join t $
        move t (1 ∷ 0 ∷ []) $ join t $ move t (1 ∷ []) $ s)

    pub gives_back : K → Step K 𝓛 (own_token κ q ∷ Γ) G (both_tokens κ q ∷ Γ) G
    gives_back t = step (λ s. split3 t $ move t (1 ∷ []) $ drop t $ join t $ s)

  pub answer : K → Soaks G → (E : Ended) (c : Clauses 𝓤 E) (y : (triple_of 𝓛 E.signature (closing 𝓛 E c)).Ghost) (v : Val)
      → ((r : Res E.signature y.0.0) (ws : Lasts E y.0.0 y.0.3)
      → Seq K 𝓛 (‵ ((type_at E.signature.result y.0.0).own_val r (v ∷ [])) ∷ raw ((c y.0.0 y.0.3).ensures y.1 r (at_exit E y.0.0 y.0.3 ws)) ∷ raw (alive 𝓛 E.signature y.0.0 y.0.1) ∷ Γ) G)
      → Seq K 𝓛 (raw ((triple_of 𝓛 E.signature (closing 𝓛 E c)).post y v) ∷ Γ) G
  answer t z E c y v k =
      use1 𝓛 (later (some (λ (r : Res E.signature y.0.0). (raw (alive 𝓛 E.signature y.0.0 y.0.1) ⊛ ‵ ((type_at E.signature.result y.0.0).own_val r (v ∷ []))) ⊛
      some (λ (ws : Lasts E y.0.0 y.0.3). ‵ (lasts E y.0.0 y.0.3 ws) ⊛ raw ((c y.0.0 y.0.3).ensures y.1 r (at_exit E y.0.0 y.0.3 ws)))))) (id⊢ 𝓤 _) $
      await t z $ pick t (λ r. split t $ move t (1 ∷ []) $ pick t (λ ws. split t $ drop t $ move t (1 ∷ []) $ split t $ move t (1 ∷ 2 ∷ []) $ k r ws))
