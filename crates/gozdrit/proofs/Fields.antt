-- A pointer beside the heap's handle, which an `Unboxed`, a box and a pair can all be. Assumes `Logic`.
--     held_val, held_ty, held-Good     its machine value, which the pointer fixes, and that it is of its type; heap_good the same of the handle alone
--     Held, held_told, heap_in         the fields as a row: they tell that value, and that the heap's handle is one
--     held_made                        they own nothing, so they are made of nothing
use Rattle.std.proofs.Common.{◌≡◌, List, [], ◌∷◌, ◌++◌, refl, subst, ◌∙◌}
use seplogic.Ra.Ura.{Ura}
use mir.Syntax.{Ty, ty_ptr, ty_struct, tcons, tnil}
use mir.Val.{Val, vstruct, vcons, vnil, of_list}
use types.Logic.{Logic}
use types.Kit.{Item, Goal, Step, ‵}
use denote.Laws.{Is}
use denote.Param.{layout}
use denote.RattleType.{RattleType}
use denote.RawPtr.{RawPtr, Ptr, ptr_val}
use denote.Shadow.{pure_i}
use denote.Struct.Struct.{Struct, as_fields}
use Rattle.std.proofs.Handle.{heap_val, heap_Tells}
use Rattle.std.proofs.RcSteps.{Good}
use Rattle.std.specs.contracts.alloc.Global.{the_row as Heap}
use Rattle.gozdrit.proofs.LentMemory.{ptr_good}

abbrev pub held_val : Ptr → Val
held_val p = vstruct (vcons (ptr_val p) (vcons heap_val vnil))

abbrev pub held_ty : Ty
held_ty = ty_struct [] (tcons ty_ptr (tcons (layout Heap) tnil))

pub heap_good : Good (layout Heap) heap_val
heap_good = (tt, ((tt, tt), tt))

pub held-Good : (p : Ptr) → Good held_ty (held_val p)
held-Good p = as_fields (ty_ptr ∷ layout Heap ∷ []) (ptr_val p ∷ heap_val ∷ []) (ptr_good p, (heap_good, tt))

-- the names of the struct do not tell what it owns
abbrev pub Held : RattleType
Held = Struct (record { name = []; args = []; types = []; fields = RawPtr ∷ Heap ∷ [] })

module _ (p : Ptr) (h : Heap.Denot) where
  pub held_told : (vs : List Val) → Is Held (p, (h, tt)) vs → vs ≡ held_val p ∷ []
  held_told vs is = is.1.0 ∙ (λ j. vstruct (of_list (is.1.1.0 j ++ (heap_Tells h is.0.1.0 is.1.1.1.0 j ++ []))) ∷ [])

  pub heap_in : (vs : List Val) → Is Held (p, (h, tt)) vs → Is Heap h (heap_val ∷ [])
  heap_in vs is = subst (Is Heap h) (heap_Tells h is.0.1.0 is.1.1.1.0) is.1.1.1.0

  module _ {M : Type 1} {𝓤 : Ura M} {𝓛 : Logic 𝓤} {K : Type 0} {Γ : List (Item 𝓤)} {G : Goal 𝓤 𝓛.H} where
    pub held_made : K → Is Heap h (heap_val ∷ []) → Step K 𝓛 (‵ (Held.own_val (p, (h, tt)) (held_val p ∷ [])) ∷ Γ) G Γ G
    held_made t is = pure_i t (Held.own_val (p, (h, tt)) (held_val p ∷ [])) (λ vss. (tt, (tt, ((λ us. (tt, ((λ ws. (tt, (tt, tt))), tt))), tt)))) ((ptr_val p ∷ [], (heap_val ∷ [], tt)), (refl, (refl, (is, tt))))
