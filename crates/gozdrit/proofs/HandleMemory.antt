-- The machine value of a `Handle`, and what it owns. Assumes `Logic`.
--     handle_val, handle-Good     its machine value, which its pointer and its flag fix, and that it is of its type
--     handle_had, handle_made     a `Handle` is its fields and what it owns
--     held_there                  where there is a value, it is a box's, and the flag is set
--     handle_opens, handle_lends  a method's `self` is opened;  and the value in it is lent, so that `self` follows it
use Rattle.std.proofs.Common.{◌≡◌, ℕ, List, [], ◌∷◌, ◌++◌, refl, sym, subst, ◌∙◌}
use Rattle.std.specs.Prelude.{Bool, true, false, Option, Some, None, IsSome, is_some}
use seplogic.Ra.Ura.{Ura}
use base.Fraction.{full_share}
use base.Logic.{ent, sep}
use base.Fml.{Fml, GName, flft, fsep}
use mir.Syntax.{named, Ty, ty_ptr, ty_bool, ty_struct, tcons, tnil}
use mir.Raw.{raw}
use mir.Val.{Val, vbool, vptr, vstruct, vcons, vnil, of_list}
use types.Logic.{Logic, sem}
use types.Kit.{Item, Goal, Seq, Step, step, Soaks, ‵, ◌⊛◌, some, later, ◌$◌, ◌∵◌, !, qed, done, move, use1, group, await, pick, split3, rewrite, fsplit, fjoin}
use denote.Laws.{Is, shows}
use denote.Param.{layout}
use denote.RattleType.{RattleType}
use denote.Builtin.{bool}
use denote.RawPtr.{RawPtr, Ptr, block_ptr, null_ptr, ptr_val, lies_at}
use contract.Lifetimes.{Lfts, Shares}
use denote.Follow.{follows, lends_Part}
use denote.Memory.{mem, cell_at, lone}
use denote.Ref.{MutBor, MutRef}
use denote.Shadow.{pure_i}
use denote.Steps.{facts}
use denote.Struct.Struct.{Struct, as_fields}
use Rattle.std.proofs.Handle.{heap_val, heap_Tells}
use Rattle.std.proofs.RcSteps.{Good}
use Rattle.std.specs.contracts.alloc.Global.{the_row as Heap}
use Rattle.gozdrit.specs.contracts.handle.Handle as handle
use Rattle.std.specs.contracts.impls.GlobalAllocator.TheImpl.{ghosts}
use Rattle.gozdrit.specs.Held.{held_at}
use Rattle.gozdrit.specs.HandleLends.{with_inside}
use Rattle.gozdrit.proofs.Fields.{heap_good}
use Rattle.gozdrit.proofs.LentMemory.{ptr_good, nowhere}
use Rattle.gozdrit.proofs.Method.{Self, Cell, Open, self_opens, laid}

abbrev pub handle_val : Ptr → Bool → Val
handle_val p b = vstruct (vcons (ptr_val p) (vcons heap_val (vcons (vbool b) vnil)))

abbrev pub handle_ty : Ty
handle_ty = ty_struct [] (tcons ty_ptr (tcons (layout Heap) (tcons ty_bool tnil)))

pub handle-Good : (p : Ptr) (b : Bool) → Good handle_ty (handle_val p b)
handle-Good p b = as_fields (ty_ptr ∷ layout Heap ∷ ty_bool ∷ []) (ptr_val p ∷ heap_val ∷ vbool b ∷ []) (ptr_good p, (heap_good, ((tt, tt), tt)))

-- the fields, without what the handle owns (the names of the struct do not tell that)
abbrev pub Fields : RattleType
Fields = Struct (record { name = []; args = []; types = []; fields = RawPtr ∷ Heap ∷ bool ∷ [] })

module _ (p : Ptr) (h : Heap.Denot) (b : Bool) where
  pub handle_told : (vs : List Val) → Is Fields (p, (h, (b, tt))) vs → vs ≡ handle_val p b ∷ []
  handle_told vs is = is.1.0 ∙ (λ j. vstruct (of_list (is.1.1.0 j ++ (heap_Tells h is.0.1.0 is.1.1.1.0 j ++ (is.1.1.1.1.0 j ++ [])))) ∷ [])

  pub heap_of : (vs : List Val) → Is Fields (p, (h, (b, tt))) vs → Is Heap h (heap_val ∷ [])
  heap_of vs is = subst (Is Heap h) (heap_Tells h is.0.1.0 is.1.1.1.0) is.1.1.1.0

  module _ {M : Type 1} {𝓤 : Ura M} {𝓛 : Logic 𝓤} {K : Type 0} {Γ : List (Item 𝓤)} {G : Goal 𝓤 𝓛.H} where
    pub fields_made : K → Is Heap h (heap_val ∷ []) → Step K 𝓛 (‵ (Fields.own_val (p, (h, (b, tt))) (handle_val p b ∷ [])) ∷ Γ) G Γ G
    fields_made t is = pure_i t (Fields.own_val (p, (h, (b, tt))) (handle_val p b ∷ [])) (λ vss. (tt, (tt, ((λ us. (tt, ((λ ws. (tt, (tt, tt))), tt))), (tt, tt)))))
        ((ptr_val p ∷ [], (heap_val ∷ [], (vbool b ∷ [], tt))), (refl, (refl, (is, (refl, tt)))))

module _ (R : RattleType) where
  abbrev pub Handle : RattleType
  Handle = handle.the_row R

  -- the right to free the block of a value
  abbrev pub freed_at : Heap.Denot → Ptr → Fml
  freed_at h p = ghosts.dealloc_token h (raw (lone R.mir)) p

  -- where there is a value, it is a box's, and the flag is set
  module _ {M : Type 1} {𝓤 : Ura M} {𝓛 : Logic 𝓤} {K : Type 0} {Γ : List (Item 𝓤)} {G : Goal 𝓤 𝓛.H} where
    pub held_there : K → (h : Heap.Denot) (p : Ptr) (f : Bool) (v : Option R.Denot) → IsSome v
        → ((b o : ℕ) (x : R.Denot) → p ≡ block_ptr b o → f ≡ true → v ≡ Some x → Seq K 𝓛 (‵ (lies_at R full_share (block_ptr b o) x) ∷ ‵ (freed_at h (block_ptr b o)) ∷ Γ) G) → Seq K 𝓛 (‵ (held_at R h p f v) ∷ Γ) G
    held_there t h (block_ptr b o) true (Some x) is k = fsplit t $ k b o x refl refl refl
    held_there t h null_ptr true (Some x) is k = fsplit t $ nowhere t
    held_there t h p false (Some x) is k = nowhere t
    held_there t h p f None is k = cc

    -- the flag tells whether there is one
    pub held_tells : K → (h : Heap.Denot) (p : Ptr) (b : Bool) (v : Option R.Denot) → (b ≡ is_some v → Seq K 𝓛 (‵ (held_at R h p b v) ∷ Γ) G) → Seq K 𝓛 (‵ (held_at R h p b v) ∷ Γ) G
    held_tells t h p true (Some x) k = k refl
    held_tells t h p false None k = k refl
    held_tells t h p false (Some x) k = nowhere t
    held_tells t h p true None k = nowhere t

    pub handle_had : K → (d : Handle.Denot) (vs : List Val)
        → (vs ≡ handle_val d.at d.held ∷ [] → Is Heap d.alloc (heap_val ∷ []) → Seq K 𝓛 (‵ (held_at R d.alloc d.at d.held d.inside) ∷ Γ) G) → Seq K 𝓛 (‵ (Handle.own_val d vs) ∷ Γ) G
    handle_had t d vs k = fsplit t $ facts t Fields (Is Fields) (shows 𝓛 Fields) (d.at, (d.alloc, (d.held, tt))) vs (λ is. k (handle_told d.at d.alloc d.held vs is) (heap_of d.at d.alloc d.held vs is))

    pub handle_made : K → (d : Handle.Denot) → Is Heap d.alloc (heap_val ∷ []) → Step K 𝓛 (‵ (Handle.own_val d (handle_val d.at d.held ∷ [])) ∷ Γ) G (‵ (held_at R d.alloc d.at d.held d.inside) ∷ Γ) G
    handle_made t d is = step (λ s. fields_made d.at d.alloc d.held t is $ fjoin t $ s)

  module _ {M : Type 1} {𝓤 : Ura M} {𝓛 : Logic 𝓤} {K : Type 0} {Γ : List (Item 𝓤)} {G : Goal 𝓤 𝓛.H} where
    -- a method's `self`: its cell, and what it owns
    pub handle_opens : K → Soaks G → (κs : Lfts 2) (qs : Shares 2) (m : MutBor Handle.Denot)
        → (Is Heap m.now.alloc (heap_val ∷ []) → Seq K 𝓛 (Cell 𝓛 Handle κs qs m (handle_val m.now.at m.now.held ∷ []) ∷ ‵ (held_at R m.now.alloc m.now.at m.now.held m.now.inside) ∷ Open 𝓛 Handle κs qs m Γ) G)
        → Seq K 𝓛 (Self 𝓛 Handle κs qs m ∷ Γ) G
    handle_opens t z κs qs m k = self_opens Handle κs qs m t z (λ vs. handle_had t m.now vs (λ e is.
        move t (1 ∷ []) $ rewrite t 0 (λ (ws : List Val). Cell 𝓛 Handle κs qs m ws) e refl $ k is))

  module _ {M : Type 1} {𝓤 : Ura M} (𝓛 : Logic 𝓤) (m : MutBor Handle.Denot) (b o : ℕ) (at : m.now.at ≡ block_ptr b o) (flag : m.now.held ≡ true) (heap : Is Heap m.now.alloc (heap_val ∷ [])) where
    -- what stands beside the value while it is lent
    abbrev beside : Fml
    beside = fsep (cell_at full_share Handle.mir (handle_val (block_ptr b o) true ∷ []) m.ref_ptr.0 m.ref_ptr.1) (freed_at m.now.alloc (block_ptr b o))

    -- `self` with another value
    back : (w : R.Denot) → ent 𝓤 (sep 𝓤 (sem 𝓛 ((mem R).own_at w b o)) (sem 𝓛 beside)) (sem 𝓛 ((mem Handle).own_at (with_inside m.now w) m.ref_ptr.0 m.ref_ptr.1))
    back w =
        let d : Handle.Denot = record { at = block_ptr b o; alloc = m.now.alloc; held = true; inside = Some w } in
        let With : Ptr → Bool → Item 𝓤 = λ p f. ‵ ((mem Handle).own_at (record { at = p; alloc = m.now.alloc; held = f; inside = Some w }) m.ref_ptr.0 m.ref_ptr.1) in
        qed 𝓛 (‵ (lies_at R full_share (block_ptr b o) w) ∷ ‵ beside ∷ []) ∵ move ! (1 ∷ []) $ fsplit ! $ move ! (2 ∷ 1 ∷ []) $ fjoin ! $
        handle_made ! d heap $ laid ! Handle d (handle_val (block_ptr b o) true ∷ []) m.ref_ptr.0 m.ref_ptr.1 $
        rewrite ! 0 (λ (p : Ptr). With p true) (sym at) refl $ rewrite ! 0 (λ (f : Bool). With m.now.at f) (sym flag) refl $ done !

  module _ {M : Type 1} {𝓤 : Ura M} {𝓛 : Logic 𝓤} {K : Type 0} {Γ : List (Item 𝓤)} {G : Goal 𝓤 𝓛.H} (κs : Lfts 2) (qs : Shares 2) (m : MutBor Handle.Denot) (b o : ℕ) (x : R.Denot)
      (at : m.now.at ≡ block_ptr b o) (flag : m.now.held ≡ true) (heap : Is Heap m.now.alloc (heap_val ∷ [])) where
    -- the value is lent: a `&mut` to it, and what `self` is once it has ended
    pub handle_lends : K → Soaks G
        → ((δ : GName) → Seq K 𝓛 (‵ ((MutRef (named 0) κs.0 R).own_val (record { ref_ptr = (b, o); ghost_name = δ; now = x }) (vptr b o ∷ [])) ∷ ‵ (follows Handle R m.ghost_name δ (with_inside m.now)) ∷ ‵ (flft κs.0 qs.0) ∷ ‵ (flft κs.1.0 qs.1.0) ∷ Γ) G)
        → Seq K 𝓛 (Cell 𝓛 Handle κs qs m (handle_val (block_ptr b o) true ∷ []) ∷ ‵ (lies_at R full_share (block_ptr b o) x) ∷ ‵ (freed_at m.now.alloc (block_ptr b o)) ∷ Open 𝓛 Handle κs qs m Γ) G
    handle_lends t z k =
        let c = Handle.coded.code m.now in
        move t (0 ∷ 2 ∷ []) $ fjoin t $ move t (2 ∷ 3 ∷ 4 ∷ 1 ∷ 0 ∷ []) $ group t 5 $
        use1 𝓛 (later (some (λ (δ : GName). ‵ ((MutRef (named 0) κs.0 R).own_val (record { ref_ptr = (b, o); ghost_name = δ; now = x }) (vptr b o ∷ [])) ⊛ ‵ (flft κs.0 qs.0) ⊛ ‵ (follows Handle R m.ghost_name δ (with_inside m.now)))))
        (lends_Part 𝓛 Handle R (with_inside m.now) (named 0) κs.0 qs.0 m.ref_ptr.0 m.ref_ptr.1 b o m.ghost_name (sem 𝓛 (beside 𝓛 m b o at flag heap)) (back 𝓛 m b o at flag heap) c c x) $
        await t z $ pick t (λ δ. split3 t $ move t (0 ∷ 2 ∷ 1 ∷ []) $ k δ)
