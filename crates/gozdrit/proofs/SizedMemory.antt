-- The machine value of a `LentSized`, and what it owns. Assumes `Logic`.
--     sized_had, sized_made       a `LentSized` is its pointer, and the value and the octets that lie there
--     sized_tested, sized_there   what lies there lets the pointer be compared with null;  where there is a value, it lies in a block
--     sized_opens                 a method's `self` is opened
--     known_lends, rest_lends     the value in it is lent, or the octets behind it, so that `self` follows it
use Rattle.std.proofs.Common.{◌≡◌, ℕ, ◌+◌, ◌<◌, ◌^◌, List, [], ◌∷◌, ◌++◌, length, refl, sym, ap, subst, ◌∙◌, arith}
use Rattle.std.specs.Prelude.{Option, Some, None, IsSome}
use Rattle.std.specs.List.{refill}
use Rattle.std.specs.Mem.{type_size}
use lib.ListN.{drop as drop_l}
use lib.Seq.{take_at}
use seplogic.Ra.Ura.{Ura}
use mir.Syntax.{named}
use mir.Val.{Val, vptr, vstruct, of_list}
use base.Fraction.{full_share}
use base.Logic.{SProp, ent, sep}
use base.Fml.{GName, flft}
use types.Logic.{Logic, sem}
use types.Kit.{Item, Goal, Seq, Step, step, Soaks, ‵, raw, ◌⊛◌, some, later, ◌$◌, ◌∵◌, !, qed, done, move, use1, group, await, pick, split, split3, join, rewrite, fsplit, fjoin, flt_i, flt_l}
use types.SemTy.{cells}
use denote.Array.{Array}
use denote.Builtin.{u8}
use denote.RattleType.{RattleType}
use denote.RawPtr.{Ptr, block_ptr, null_ptr, ptr_val, lies_at}
use contract.Lifetimes.{Lfts, Shares}
use denote.Laws.{Is, shows}
use denote.Follow.{follows, lends_Part}
use denote.FollowSlice.{lends_Elements}
use denote.Memory.{mem, cell_at}
use denote.Ref.{MutBor, MutRef}
use denote.Shadow.{pure_i}
use denote.Slice.{MutSlice, slice_val, Room}
use denote.Steps.{facts}
use denote.Struct.Struct.{Struct}
use denote.Struct.Owning.{shape}
use Rattle.std.proofs.RcSteps.{word}
use Rattle.gozdrit.specs.Lying.{sized_lies_at}
use Rattle.gozdrit.specs.contracts.sized.LentSized as sized
use Rattle.gozdrit.proofs.LentMemory.{Tested, nowhere}
use Rattle.gozdrit.proofs.Method.{Self, Cell, Open, self_opens, laid}
use Rattle.gozdrit.specs.Lends.{with_known, with_rest}

module _ (R : RattleType) where
  abbrev pub LentSized : RattleType
  LentSized = sized.the_row R

  -- its one field, without what lies there
  abbrev Fields : RattleType
  Fields = Struct (shape (sized.the_type R))

  module _ {M : Type 1} {𝓤 : Ura M} {𝓛 : Logic 𝓤} {K : Type 0} {Γ : List (Item 𝓤)} {G : Goal 𝓤 𝓛.H} where
    pub sized_had : K → (d : LentSized.Denot) (vs : List Val) → (vs ≡ word d.at ∷ [] → Seq K 𝓛 (‵ (sized_lies_at R d.at d.value d.rest) ∷ Γ) G) → Seq K 𝓛 (‵ (LentSized.own_val d vs) ∷ Γ) G
    sized_had t d vs k = fsplit t $ facts t Fields (Is Fields) (shows 𝓛 Fields) (d.at, tt) vs (λ is. k (is.1.0 ∙ ap (λ (ws : List Val). vstruct (of_list (ws ++ [])) ∷ []) is.1.1.0))

    pub sized_made : K → (d : LentSized.Denot) → Step K 𝓛 (‵ (LentSized.own_val d (word d.at ∷ [])) ∷ Γ) G (‵ (sized_lies_at R d.at d.value d.rest) ∷ Γ) G
    sized_made t d = step (λ s. pure_i t (Fields.own_val (d.at, tt) (word d.at ∷ [])) (λ vss. (tt, (tt, tt))) ((ptr_val d.at ∷ [], tt), (refl, (refl, tt))) $ fjoin t $ s)

    pub sized_tested : K → (p : Ptr) (v : Option R.Denot) (ys : List ℕ) → (Tested p v → Seq K 𝓛 (‵ (sized_lies_at R p v ys) ∷ Γ) G) → Seq K 𝓛 (‵ (sized_lies_at R p v ys) ∷ Γ) G
    sized_tested t (block_ptr b o) (Some x) ys k = fsplit t $ flt_l t (λ low. flt_i t o (2 ^ 63) low $ fjoin t $ k (low, refl))
    sized_tested t null_ptr None [] k = k (omega arith, refl)
    sized_tested t null_ptr None (y ∷ ys) k = nowhere t
    sized_tested t (block_ptr b o) None ys k = nowhere t
    sized_tested t null_ptr (Some x) ys k = nowhere t

    -- where there is a value, it lies in a block, and the octets lie behind it
    pub sized_there : K → (p : Ptr) (v : Option R.Denot) (ys : List ℕ) → IsSome v
        → ((b o : ℕ) (x : R.Denot) → p ≡ block_ptr b o → v ≡ Some x → o < 2 ^ 63 → type_size R < 2 ^ 63 → length ys < 2 ^ 63
        → Seq K 𝓛 (‵ (lies_at R full_share (block_ptr b o) x) ∷ ‵ (cells (mem u8) ys b (o + type_size R)) ∷ Γ) G)
        → Seq K 𝓛 (‵ (sized_lies_at R p v ys) ∷ Γ) G
    sized_there t (block_ptr b o) (Some x) ys is k = fsplit t $ flt_l t (λ low. fsplit t $ flt_l t (λ size. fsplit t $ flt_l t (λ few. fsplit t $ k b o x refl refl low size few)))
    sized_there t null_ptr (Some x) ys is k = nowhere t
    sized_there t p None ys is k = cc

  module _ {M : Type 1} {𝓤 : Ura M} {𝓛 : Logic 𝓤} {K : Type 0} {Γ : List (Item 𝓤)} {G : Goal 𝓤 𝓛.H} where
    -- a method's `self`: its cell, what lies at its pointer, and that the pointer may be compared with null
    pub sized_opens : K → Soaks G → (κs : Lfts 2) (qs : Shares 2) (m : MutBor LentSized.Denot)
        → (Tested m.now.at m.now.value → Seq K 𝓛 (Cell 𝓛 LentSized κs qs m (word m.now.at ∷ []) ∷ ‵ (sized_lies_at R m.now.at m.now.value m.now.rest) ∷ Open 𝓛 LentSized κs qs m Γ) G)
        → Seq K 𝓛 (Self 𝓛 LentSized κs qs m ∷ Γ) G
    sized_opens t z κs qs m k = self_opens LentSized κs qs m t z (λ vs. sized_had t m.now vs (λ e. sized_tested t m.now.at m.now.value m.now.rest (λ may.
        move t (1 ∷ []) $ rewrite t 0 (λ (ws : List Val). Cell 𝓛 LentSized κs qs m ws) e refl $ k may)))

  module _ {M : Type 1} {𝓤 : Ura M} (𝓛 : Logic 𝓤) (m : MutBor LentSized.Denot) (b o : ℕ) (at : m.now.at ≡ block_ptr b o) (low : o < 2 ^ 63) (size : type_size R < 2 ^ 63) where
    abbrev cell : Item 𝓤
    cell = ‵ (cell_at full_share LentSized.mir (word (block_ptr b o) ∷ []) m.ref_ptr.0 m.ref_ptr.1)

    -- `self` with these fields and these octets
    whole : (w : R.Denot) (ws : List ℕ) → length ws < 2 ^ 63
        → ent 𝓤 (sep 𝓤 (sem 𝓛 (lies_at R full_share (block_ptr b o) w)) (sep 𝓤 (sem 𝓛 (cells (mem u8) ws b (o + type_size R))) (sem 𝓛 (cell_at full_share LentSized.mir (word (block_ptr b o) ∷ []) m.ref_ptr.0 m.ref_ptr.1))))
        (sem 𝓛 ((mem LentSized).own_at (record { at = m.now.at; value = Some w; rest = ws }) m.ref_ptr.0 m.ref_ptr.1))
    whole w ws few =
        qed 𝓛 (‵ (lies_at R full_share (block_ptr b o) w) ∷ ‵ (cells (mem u8) ws b (o + type_size R)) ∷ cell ∷ []) ∵
        fjoin ! $ flt_i ! (length ws) (2 ^ 63) few $ fjoin ! $ flt_i ! (type_size R) (2 ^ 63) size $ fjoin ! $ flt_i ! o (2 ^ 63) low $ fjoin ! $
        sized_made ! (record { at = block_ptr b o; value = Some w; rest = ws }) $ laid ! LentSized (record { at = block_ptr b o; value = Some w; rest = ws }) (word (block_ptr b o) ∷ []) m.ref_ptr.0 m.ref_ptr.1 $
        rewrite ! 0 (λ (p : Ptr). ‵ ((mem LentSized).own_at (record { at = p; value = Some w; rest = ws }) m.ref_ptr.0 m.ref_ptr.1)) (sym at) refl $ done !

    -- what stands beside the fields while these are lent, and beside the octets
    abbrev beside_known : SProp 𝓤
    beside_known = sep 𝓤 (sem 𝓛 (cells (mem u8) m.now.rest b (o + type_size R))) (sem 𝓛 (cell_at full_share LentSized.mir (word (block_ptr b o) ∷ []) m.ref_ptr.0 m.ref_ptr.1))

    back_known : length m.now.rest < 2 ^ 63 → (w : R.Denot) → ent 𝓤 (sep 𝓤 (sem 𝓛 ((mem R).own_at w b o)) beside_known) (sem 𝓛 ((mem LentSized).own_at (with_known m.now w) m.ref_ptr.0 m.ref_ptr.1))
    back_known few w = whole w m.now.rest few

  module _ {M : Type 1} {𝓤 : Ura M} {𝓛 : Logic 𝓤} {K : Type 0} {Γ : List (Item 𝓤)} {G : Goal 𝓤 𝓛.H} (κs : Lfts 2) (qs : Shares 2) (m : MutBor LentSized.Denot) (b o : ℕ) (x : R.Denot)
      (at : m.now.at ≡ block_ptr b o) (low : o < 2 ^ 63) (size : type_size R < 2 ^ 63) (few : length m.now.rest < 2 ^ 63) where
    -- the value is lent: a `&mut` to it, and what `self` is once it has ended
    pub known_lends : K → Soaks G
        → ((δ : GName) → Seq K 𝓛 (‵ ((MutRef (named 0) κs.0 R).own_val (record { ref_ptr = (b, o); ghost_name = δ; now = x }) (vptr b o ∷ [])) ∷ ‵ (follows LentSized R m.ghost_name δ (with_known m.now)) ∷ ‵ (flft κs.0 qs.0) ∷ ‵ (flft κs.1.0 qs.1.0) ∷ Γ) G)
        → Seq K 𝓛 (Cell 𝓛 LentSized κs qs m (word (block_ptr b o) ∷ []) ∷ ‵ (lies_at R full_share (block_ptr b o) x) ∷ ‵ (cells (mem u8) m.now.rest b (o + type_size R)) ∷ Open 𝓛 LentSized κs qs m Γ) G
    known_lends t z k =
        let c = LentSized.coded.code m.now in
        move t (2 ∷ 0 ∷ []) $ join t $ move t (2 ∷ 3 ∷ 4 ∷ 1 ∷ 0 ∷ []) $ group t 5 $
        use1 𝓛 (later (some (λ (δ : GName). ‵ ((MutRef (named 0) κs.0 R).own_val (record { ref_ptr = (b, o); ghost_name = δ; now = x }) (vptr b o ∷ [])) ⊛ ‵ (flft κs.0 qs.0) ⊛ ‵ (follows LentSized R m.ghost_name δ (with_known m.now)))))
        (lends_Part 𝓛 LentSized R (with_known m.now) (named 0) κs.0 qs.0 m.ref_ptr.0 m.ref_ptr.1 b o m.ghost_name (beside_known 𝓛 m b o at low size) (back_known 𝓛 m b o at low size few) c c x) $
        await t z $ pick t (λ δ. split3 t $ move t (0 ∷ 2 ∷ 1 ∷ []) $ k δ)

  module _ {M : Type 1} {𝓤 : Ura M} (𝓛 : Logic 𝓤) (m : MutBor LentSized.Denot) (b o : ℕ) (x : R.Denot) (at : m.now.at ≡ block_ptr b o) (is : m.now.value ≡ Some x)
      (low : o < 2 ^ 63) (size : type_size R < 2 ^ 63) (few : length m.now.rest < 2 ^ 63) (r : ℕ) (behind : o + type_size R ≡ r) where
    abbrev beside_rest : SProp 𝓤
    beside_rest = sep 𝓤 (sem 𝓛 (lies_at R full_share (block_ptr b o) x)) (sem 𝓛 (cell_at full_share LentSized.mir (word (block_ptr b o) ∷ []) m.ref_ptr.0 m.ref_ptr.1))

    -- `self` with other octets, of which as many count as there were
    back_rest : (ws : List ℕ) → length ws ≡ length m.now.rest → ent 𝓤 (sep 𝓤 (sem 𝓛 (cells (mem u8) ws b r)) beside_rest) (sem 𝓛 ((mem LentSized).own_at (with_rest m.now ws) m.ref_ptr.0 m.ref_ptr.1))
    back_rest ws same =
        let all : refill (length m.now.rest) m.now.rest ws ≡ ws = take_at ws (drop_l (length ws) m.now.rest) (length m.now.rest) same in
        let With : Option R.Denot → List ℕ → Item 𝓤 = λ v l. ‵ ((mem LentSized).own_at (record { at = m.now.at; value = v; rest = l }) m.ref_ptr.0 m.ref_ptr.1) in
        let put : Item 𝓤 = raw beside_rest in
        qed 𝓛 (‵ (cells (mem u8) ws b r) ∷ (‵ (lies_at R full_share (block_ptr b o) x) ⊛ ‵ (cell_at full_share LentSized.mir (word (block_ptr b o) ∷ []) m.ref_ptr.0 m.ref_ptr.1)) ∷ []) ∵
        rewrite ! 0 (λ (k : ℕ). ‵ (cells (mem u8) ws b k)) (sym behind) refl $ move ! (1 ∷ []) $ split ! $ move ! (2 ∷ 1 ∷ []) $ join ! $ move ! (1 ∷ 0 ∷ []) $ join ! $
        use1 𝓛 (With (Some x) ws) (whole 𝓛 m b o at low size x ws (subst (λ (k : ℕ). k < 2 ^ 63) (sym same) few)) $
        rewrite ! 0 (λ (v : Option R.Denot). With v ws) (sym is) refl $ rewrite ! 0 (λ (l : List ℕ). With m.now.value l) (sym all) refl $ done !

  module _ {M : Type 1} {𝓤 : Ura M} {𝓛 : Logic 𝓤} {K : Type 0} {Γ : List (Item 𝓤)} {G : Goal 𝓤 𝓛.H} (κs : Lfts 2) (qs : Shares 2) (m : MutBor LentSized.Denot) (b o : ℕ) (x : R.Denot)
      (at : m.now.at ≡ block_ptr b o) (is : m.now.value ≡ Some x) (low : o < 2 ^ 63) (size : type_size R < 2 ^ 63) (few : length m.now.rest < 2 ^ 63)
      (r : ℕ) (behind : o + type_size R ≡ r) (n : ℕ) (count : length m.now.rest ≡ n) (room : Room u8 (length m.now.rest)) where
    -- the octets are lent: a `&mut [u8]` to them, and what `self` is once it has ended
    pub rest_lends : K → Soaks G
        → ((δ : GName) → Seq K 𝓛 (‵ ((MutSlice (named 0) κs.0 u8).own_val (record { ref_ptr = (b, r); ghost_name = δ; now = m.now.rest }) (slice_val (b, r) n ∷ []))
        ∷ ‵ (follows LentSized (Array u8 0) m.ghost_name δ (with_rest m.now)) ∷ ‵ (flft κs.0 qs.0) ∷ ‵ (flft κs.1.0 qs.1.0) ∷ Γ) G)
        → Seq K 𝓛 (Cell 𝓛 LentSized κs qs m (word (block_ptr b o) ∷ []) ∷ ‵ (lies_at R full_share (block_ptr b o) x) ∷ ‵ (cells (mem u8) m.now.rest b (o + type_size R)) ∷ Open 𝓛 LentSized κs qs m Γ) G
    rest_lends t z k =
        let c = LentSized.coded.code m.now in
        move t (2 ∷ []) $ rewrite t 0 (λ (i : ℕ). ‵ (cells (mem u8) m.now.rest b i)) behind refl $ move t (2 ∷ 1 ∷ []) $ join t $ move t (2 ∷ 3 ∷ 4 ∷ 1 ∷ 0 ∷ []) $ group t 5 $
        use1 𝓛 (later (some (λ (δ : GName). ‵ ((MutSlice (named 0) κs.0 u8).own_val (record { ref_ptr = (b, r); ghost_name = δ; now = m.now.rest }) (slice_val (b, r) (length m.now.rest) ∷ [])) ⊛ ‵ (flft κs.0 qs.0) ⊛ ‵ (follows LentSized (Array u8 0) m.ghost_name δ (with_rest m.now)))))
        (lends_Elements 𝓛 LentSized u8 (with_rest m.now) (named 0) κs.0 qs.0 m.ref_ptr.0 m.ref_ptr.1 b r m.ghost_name m.now.rest room (beside_rest 𝓛 m b o x at is low size few r behind) (back_rest 𝓛 m b o x at is low size few r behind) c c) $
        await t z $ pick t (λ δ. split3 t $ rewrite t 0 (λ (i : ℕ). ‵ ((MutSlice (named 0) κs.0 u8).own_val (record { ref_ptr = (b, r); ghost_name = δ; now = m.now.rest }) (slice_val (b, r) i ∷ []))) count refl $ move t (0 ∷ 2 ∷ 1 ∷ []) $ k δ)
