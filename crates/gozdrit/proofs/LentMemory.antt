-- The machine value of a `Lent`, and what it owns. Assumes `Logic`.
--     ptr_good                    a pointer's machine value has its type
--     value_had, value_made       a `Lent` is its word and what lies at the pointer
--     value_tested, value_there   what lies there lets the pointer be compared with null;  where there is a value, it lies in a block
--     value_opens, value_lends    a method's `self` is opened;  and the value in it is lent, so that `self` follows it
--     nowhere                     a case that cannot be
use Rattle.std.proofs.Common.{◌≡◌, ℕ, ◌<◌, ◌^◌, List, [], ◌∷◌, ◌++◌, refl, sym, ap, ◌∙◌, arith}
use Rattle.std.specs.Prelude.{Option, Some, None, IsSome, is_none}
use lib.Dec.{T, lit<}
use seplogic.Ra.Ura.{Ura}
use mir.Syntax.{named, ty_ptr, ptr_eq}
use mir.Val.{Val, vbool, vnull, vptr, vstruct, of_list, op2_val, has_ty, WT}
use base.Fraction.{full_share}
use base.Logic.{ent, sep, never_e}
use base.Fml.{GName, ffalse, flft, ftrue}
use types.Logic.{Logic, sem}
use types.Kit.{Item, Goal, Seq, Step, step, Soaks, ‵, ◌⊛◌, some, later, given, learn, ◌$◌, ◌∵◌, !, qed, done, move, use1, group, await, pick, split3, rewrite, fsplit, fjoin, flt_i, flt_l}
use denote.RattleType.{RattleType}
use denote.RawPtr.{Ptr, block_ptr, null_ptr, ptr_val, lies_at, Testable}
use contract.Lifetimes.{Lfts, Shares}
use denote.Laws.{Is, shows}
use denote.Follow.{follows, lends_Part}
use denote.Memory.{mem, cell_at}
use denote.Ref.{MutBor, MutRef}
use denote.Shadow.{pure_i}
use denote.Steps.{facts}
use denote.Struct.Struct.{Struct}
use denote.Struct.Owning.{shape}
use Rattle.std.proofs.RcSteps.{word}
use Rattle.gozdrit.specs.Lying.{value_lies_at}
use Rattle.gozdrit.specs.contracts.lent.Lent as lent
use Rattle.gozdrit.proofs.Method.{Self, Cell, Open, self_opens, laid}
use Rattle.gozdrit.specs.Lends.{with_value}

-- what is there is something
pub some_of : {X : Type 0} (o : Option X) → IsSome o → (x : X) × (o ≡ Some x)
some_of (Some x) is = (x, refl)
some_of None is = cc

pub ptr_good : (p : Ptr) → T (has_ty ty_ptr (ptr_val p)) × WT (ptr_val p)
ptr_good (block_ptr b o) = (tt, tt)
ptr_good null_ptr = (tt, record { fits = lit< tt })

-- what a comparison with null needs, and gives
abbrev pub Tested : {X : Type 0} → Ptr → Option X → Type 0
Tested p v = Testable p × (op2_val ptr_eq (ptr_val p) vnull ≡ vbool (is_none v))

-- a case that cannot be
pub nowhere : {M : Type 1} {𝓤 : Ura M} {𝓛 : Logic 𝓤} {K : Type 0} {Γ : List (Item 𝓤)} {G : Goal 𝓤 𝓛.H} → K → Seq K 𝓛 (‵ ffalse ∷ Γ) G
nowhere {𝓤 = 𝓤} {𝓛 = 𝓛} t = use1 𝓛 (given ⊥ (‵ ftrue)) (never_e 𝓤 _) $ learn t (λ z. absurd z)

module _ (R : RattleType) where
  abbrev pub Lent : RattleType
  Lent = lent.the_row R

  -- its one field, without what lies there
  abbrev Fields : RattleType
  Fields = Struct (shape (lent.the_type R))

  module _ {M : Type 1} {𝓤 : Ura M} {𝓛 : Logic 𝓤} {K : Type 0} {Γ : List (Item 𝓤)} {G : Goal 𝓤 𝓛.H} where
    -- a lent value's word, and what lies there
    pub value_had : K → (d : Lent.Denot) (vs : List Val) → (vs ≡ word d.at ∷ [] → Seq K 𝓛 (‵ (value_lies_at R d.at d.value) ∷ Γ) G) → Seq K 𝓛 (‵ (Lent.own_val d vs) ∷ Γ) G
    value_had t d vs k = fsplit t $ facts t Fields (Is Fields) (shows 𝓛 Fields) (d.at, tt) vs (λ is. k (is.1.0 ∙ ap (λ (ws : List Val). vstruct (of_list (ws ++ [])) ∷ []) is.1.1.0))

    pub value_made : K → (d : Lent.Denot) → Step K 𝓛 (‵ (Lent.own_val d (word d.at ∷ [])) ∷ Γ) G (‵ (value_lies_at R d.at d.value) ∷ Γ) G
    value_made t d = step (λ s. pure_i t (Fields.own_val (d.at, tt) (word d.at ∷ [])) (λ vss. (tt, (tt, tt))) ((ptr_val d.at ∷ [], tt), (refl, (refl, tt))) $ fjoin t $ s)

    pub value_tested : K → (p : Ptr) (v : Option R.Denot) → (Tested p v → Seq K 𝓛 (‵ (value_lies_at R p v) ∷ Γ) G) → Seq K 𝓛 (‵ (value_lies_at R p v) ∷ Γ) G
    value_tested t (block_ptr b o) (Some x) k = fsplit t $ flt_l t (λ low. flt_i t o (2 ^ 63) low $ fjoin t $ k (low, refl))
    value_tested t null_ptr None k = k (omega arith, refl)
    value_tested t (block_ptr b o) None k = nowhere t
    value_tested t null_ptr (Some x) k = nowhere t

    -- where there is a value, it lies in a block
    pub value_there : K → (p : Ptr) (v : Option R.Denot) → IsSome v
        → ((b o : ℕ) (x : R.Denot) → p ≡ block_ptr b o → v ≡ Some x → o < 2 ^ 63 → Seq K 𝓛 (‵ (lies_at R full_share (block_ptr b o) x) ∷ Γ) G) → Seq K 𝓛 (‵ (value_lies_at R p v) ∷ Γ) G
    value_there t (block_ptr b o) (Some x) is k = fsplit t $ flt_l t (λ low. k b o x refl refl low)
    value_there t null_ptr (Some x) is k = nowhere t
    value_there t p None is k = cc

  module _ {M : Type 1} {𝓤 : Ura M} {𝓛 : Logic 𝓤} {K : Type 0} {Γ : List (Item 𝓤)} {G : Goal 𝓤 𝓛.H} where
    -- a method's `self`: its cell, what lies at its pointer, and that the pointer may be compared with null
    pub value_opens : K → Soaks G → (κs : Lfts 2) (qs : Shares 2) (m : MutBor Lent.Denot)
        → (Tested m.now.at m.now.value → Seq K 𝓛 (Cell 𝓛 Lent κs qs m (word m.now.at ∷ []) ∷ ‵ (value_lies_at R m.now.at m.now.value) ∷ Open 𝓛 Lent κs qs m Γ) G)
        → Seq K 𝓛 (Self 𝓛 Lent κs qs m ∷ Γ) G
    value_opens t z κs qs m k = self_opens Lent κs qs m t z (λ vs. value_had t m.now vs (λ e. value_tested t m.now.at m.now.value (λ may.
        move t (1 ∷ []) $ rewrite t 0 (λ (ws : List Val). Cell 𝓛 Lent κs qs m ws) e refl $ k may)))

  module _ {M : Type 1} {𝓤 : Ura M} (𝓛 : Logic 𝓤) (m : MutBor Lent.Denot) (b o : ℕ) (at : m.now.at ≡ block_ptr b o) (low : o < 2 ^ 63) where
    -- `self` with another value there
    back : (w : R.Denot) → ent 𝓤 (sep 𝓤 (sem 𝓛 ((mem R).own_at w b o)) (sem 𝓛 (cell_at full_share Lent.mir (word (block_ptr b o) ∷ []) m.ref_ptr.0 m.ref_ptr.1))) (sem 𝓛 ((mem Lent).own_at (with_value m.now w) m.ref_ptr.0 m.ref_ptr.1))
    back w =
        qed 𝓛 (‵ (lies_at R full_share (block_ptr b o) w) ∷ ‵ (cell_at full_share Lent.mir (word (block_ptr b o) ∷ []) m.ref_ptr.0 m.ref_ptr.1) ∷ []) ∵ flt_i ! o (2 ^ 63) low $ fjoin ! $
        value_made ! (record { at = block_ptr b o; value = Some w }) $ laid ! Lent (record { at = block_ptr b o; value = Some w }) (word (block_ptr b o) ∷ []) m.ref_ptr.0 m.ref_ptr.1 $
        rewrite ! 0 (λ (p : Ptr). ‵ ((mem Lent).own_at (record { at = p; value = Some w }) m.ref_ptr.0 m.ref_ptr.1)) (sym at) refl $ done !

  module _ {M : Type 1} {𝓤 : Ura M} {𝓛 : Logic 𝓤} {K : Type 0} {Γ : List (Item 𝓤)} {G : Goal 𝓤 𝓛.H} (κs : Lfts 2) (qs : Shares 2) (m : MutBor Lent.Denot) (b o : ℕ) (x : R.Denot) (at : m.now.at ≡ block_ptr b o) (low : o < 2 ^ 63) where
    -- the value is lent: a `&mut` to it, and what `self` is once it has ended
    pub value_lends : K → Soaks G
        → ((δ : GName) → Seq K 𝓛 (‵ ((MutRef (named 0) κs.0 R).own_val (record { ref_ptr = (b, o); ghost_name = δ; now = x }) (vptr b o ∷ [])) ∷ ‵ (follows Lent R m.ghost_name δ (with_value m.now)) ∷ ‵ (flft κs.0 qs.0) ∷ ‵ (flft κs.1.0 qs.1.0) ∷ Γ) G)
        → Seq K 𝓛 (Cell 𝓛 Lent κs qs m (word (block_ptr b o) ∷ []) ∷ ‵ (lies_at R full_share (block_ptr b o) x) ∷ Open 𝓛 Lent κs qs m Γ) G
    value_lends t z k =
        let c = Lent.coded.code m.now in
        move t (2 ∷ 3 ∷ 4 ∷ 1 ∷ 0 ∷ []) $ group t 5 $
        use1 𝓛 (later (some (λ (δ : GName). ‵ ((MutRef (named 0) κs.0 R).own_val (record { ref_ptr = (b, o); ghost_name = δ; now = x }) (vptr b o ∷ [])) ⊛ ‵ (flft κs.0 qs.0) ⊛ ‵ (follows Lent R m.ghost_name δ (with_value m.now)))))
        (lends_Part 𝓛 Lent R (with_value m.now) (named 0) κs.0 qs.0 m.ref_ptr.0 m.ref_ptr.1 b o m.ghost_name (sem 𝓛 (cell_at full_share Lent.mir (word (block_ptr b o) ∷ []) m.ref_ptr.0 m.ref_ptr.1)) (back 𝓛 m b o at low) c c x) $
        await t z $ pick t (λ δ. split3 t $ move t (0 ∷ 2 ∷ 1 ∷ []) $ k δ)
