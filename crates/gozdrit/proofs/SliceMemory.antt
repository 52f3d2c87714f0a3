-- The machine value of a `LentSlice`, and what it owns. Assumes `Logic`.
--     lent_slice-Good             its machine value has its type
--     slice_had, slice_made       a `LentSlice` is its pointer, its length and what lies at the pointer
--     slice_tested, slice_begins  what lies there tells whether values are missing;  where none are, they begin in a block, or are none at null
--     slice_opens, slice_lends    a method's `self` is opened;  and the values in it are lent, so that `self` follows them
use Rattle.std.proofs.Common.{◌≡◌, ℕ, zero, suc, length, ◌*◌, ◌^◌, ◌<◌, List, [], ◌∷◌, ◌++◌, refl, sym, ap, ◌∙◌, w64, arith}
use mathlib.Core.Bool.{Bool, not}
use lib.Dec.{eqb-suc-zero}
use Rattle.std.specs.Prelude.{Option, Some, None, IsSome, is_none}
use seplogic.Ra.Ura.{Ura}
use mir.Syntax.{Sym, named, Ty, ty_ptr, ty_int, ty_struct, tcons, tnil, ptr_eq, ne, bit_and}
use mir.Val.{Val, vint, vbool, vnull, vstruct, of_list, op2_val}
use types.Logic.{Logic, sem}
use base.Fraction.{full_share}
use base.Fml.{GName, flft}
use base.Logic.{ent, emp, sep, id⊢}
use types.Kit.{Item, Goal, Seq, Step, step, Soaks, ‵, ◌⊛◌, some, later, ◌$◌, ◌∵◌, !, qed, done, drop, move, use1, group, await, pick, split3, rewrite, fsplit, fjoin, feq_i, feq_l, flt_i, flt_l}
use denote.Memory.{mem, cell_at}
use denote.Array.{Array}
use denote.Slice.{MutSlice, slice_val, Room}
use denote.Follow.{follows}
use denote.FollowSlice.{lends_Elements}
use lib.ListN.{drop as drop_l}
use lib.Seq.{take_at}
use Rattle.std.specs.List.{refill}
use types.SemTy.{cells}
use Rattle.std.specs.Mem.{type_size}
use denote.RattleType.{RattleType}
use denote.RawPtr.{Ptr, block_ptr, null_ptr, ptr_val, Testable}
use contract.Lifetimes.{Lfts, Shares}
use denote.Laws.{Is, shows}
use denote.Ref.{MutBor}
use denote.Shadow.{pure_i}
use denote.Steps.{facts}
use denote.Struct.Struct.{Struct, as_fields}
use denote.Struct.Owning.{shape}
use Rattle.std.proofs.RcSteps.{Good}
use Rattle.gozdrit.specs.Lying.{slice_lies_at}
use Rattle.gozdrit.specs.contracts.lent.LentSlice as slice
use Rattle.gozdrit.proofs.LentMemory.{ptr_good, nowhere}
use Rattle.gozdrit.proofs.Method.{Self, Cell, Open, self_opens, laid}
use Rattle.gozdrit.specs.Lends.{listed, with_items}

abbrev pub lent_slice_val : Ptr → ℕ → Val
lent_slice_val p n = vstruct (of_list (ptr_val p ∷ vint w64 n ∷ []))

abbrev pub lent_slice_ty : Sym → Ty
lent_slice_ty ν = ty_struct ν (tcons ty_ptr (tcons (ty_int w64) tnil))

pub lent_slice-Good : (ν : Sym) (p : Ptr) (n : ℕ) → n < 2 ^ 64 → Good (lent_slice_ty ν) (lent_slice_val p n)
lent_slice-Good ν p n fits = as_fields (ty_ptr ∷ ty_int w64 ∷ []) (ptr_val p ∷ vint w64 n ∷ []) (ptr_good p, ((tt, record { fits = fits }), tt))

-- what the test for a missing run of values needs, and gives: null, and a length that is not 0
abbrev pub Tells : {X : Type 0} → Ptr → ℕ → Option X → Type 0
Tells p n v = Testable p × (op2_val bit_and (op2_val ptr_eq (ptr_val p) vnull) (op2_val ne (vint w64 n) (vint w64 0)) ≡ vbool (is_none v))

module _ (R : RattleType) where
  abbrev pub LentSlice : RattleType
  LentSlice = slice.the_row R

  -- its two fields, without what lies there
  abbrev Fields : RattleType
  Fields = Struct (shape (slice.the_type R))

  module _ {M : Type 1} {𝓤 : Ura M} (𝓛 : Logic 𝓤) where
    -- any values, as many as xs, make a slice at p
    abbrev pub Lays : Ptr → ℕ → ℕ → ℕ → List R.Denot → Type 1
    Lays p n b o xs = (ws : List R.Denot) → length ws ≡ length xs → ent 𝓤 (sem 𝓛 (cells (mem R) ws b o)) (sem 𝓛 (slice_lies_at R p n (Some ws)))

    lays_block : (n b o : ℕ) (xs : List R.Denot) → o < 2 ^ 63 → length xs ≡ n → n * type_size R < 2 ^ 63 → Lays (block_ptr b o) n b o xs
    lays_block n b o xs low count small ws same =
        qed 𝓛 (‵ (cells (mem R) ws b o) ∷ []) ∵ flt_i ! (n * type_size R) (2 ^ 63) small $ fjoin ! $ feq_i ! ℕ (length ws) n (same ∙ count) $ fjoin ! $ flt_i ! o (2 ^ 63) low $ fjoin ! $ done !

    lays_null : (b o : ℕ) → Lays null_ptr 0 b o []
    lays_null b o [] same = id⊢ 𝓤 (emp 𝓤)
    lays_null b o (w ∷ ws) same = absurd (omega (arith, same))

  module _ {M : Type 1} {𝓤 : Ura M} {𝓛 : Logic 𝓤} {K : Type 0} {Γ : List (Item 𝓤)} {G : Goal 𝓤 𝓛.H} where
    pub slice_had : K → (d : LentSlice.Denot) (vs : List Val) → (vs ≡ lent_slice_val d.at d.len ∷ [] → d.len < 2 ^ 64 → Seq K 𝓛 (‵ (slice_lies_at R d.at d.len d.items) ∷ Γ) G) → Seq K 𝓛 (‵ (LentSlice.own_val d vs) ∷ Γ) G
    slice_had t d vs k = fsplit t $ facts t Fields (Is Fields) (shows 𝓛 Fields) (d.at, (d.len, tt)) vs (λ is.
        k (is.1.0 ∙ (λ j. vstruct (of_list (is.1.1.0 j ++ (is.1.1.1.0.0 j ++ []))) ∷ [])) is.1.1.1.0.1)

    pub slice_made : K → (d : LentSlice.Denot) → d.len < 2 ^ 64 → Step K 𝓛 (‵ (LentSlice.own_val d (lent_slice_val d.at d.len ∷ [])) ∷ Γ) G (‵ (slice_lies_at R d.at d.len d.items) ∷ Γ) G
    slice_made t d fits = step (λ s. pure_i t (Fields.own_val (d.at, (d.len, tt)) (lent_slice_val d.at d.len ∷ [])) (λ vss. (tt, (tt, ((tt, tt), tt))))
        ((ptr_val d.at ∷ [], (vint w64 d.len ∷ [], tt)), (refl, (refl, ((refl, fits), tt)))) $ fjoin t $ s)

    pub slice_tested : K → (p : Ptr) (n : ℕ) (v : Option (List R.Denot)) → (Tells p n v → Seq K 𝓛 (‵ (slice_lies_at R p n v) ∷ Γ) G) → Seq K 𝓛 (‵ (slice_lies_at R p n v) ∷ Γ) G
    slice_tested t (block_ptr b o) n (Some xs) k = fsplit t $ flt_l t (λ low. flt_i t o (2 ^ 63) low $ fjoin t $ k (low, refl))
    slice_tested t null_ptr zero (Some []) k = k (omega arith, refl)
    slice_tested t null_ptr (suc n) None k = k (omega arith, ap (λ (y : Bool). vbool (not y)) (eqb-suc-zero n))
    slice_tested t (block_ptr b o) n None k = nowhere t
    slice_tested t null_ptr zero (Some (x ∷ xs)) k = nowhere t
    slice_tested t null_ptr (suc n) (Some xs) k = nowhere t
    slice_tested t null_ptr zero None k = nowhere t

    -- the values begin in a block, or the pointer is null and there are none. Either way other values, as many, could lie there
    pub slice_begins : K → (p : Ptr) (n : ℕ) (v : Option (List R.Denot)) → IsSome v
        → ((b o : ℕ) (xs : List R.Denot) → p ≡ block_ptr b o → v ≡ Some xs → o < 2 ^ 63 → length xs ≡ n → n * type_size R < 2 ^ 63 → Lays 𝓛 (block_ptr b o) n b o xs → Seq K 𝓛 (‵ (cells (mem R) xs b o) ∷ Γ) G)
        → (p ≡ null_ptr → v ≡ Some [] → 0 ≡ n → ((b o : ℕ) → Lays 𝓛 null_ptr n b o []) → Seq K 𝓛 Γ G)
        → Seq K 𝓛 (‵ (slice_lies_at R p n v) ∷ Γ) G
    slice_begins t (block_ptr b o) n (Some xs) is k none = fsplit t $ flt_l t (λ low. fsplit t $ feq_l t (λ count. fsplit t $ flt_l t (λ small. k b o xs refl refl low count small (lays_block 𝓛 n b o xs low count small))))
    slice_begins t null_ptr zero (Some []) is k none = drop t $ none refl refl refl (λ b o. lays_null 𝓛 b o)
    slice_begins t null_ptr zero (Some (x ∷ xs)) is k none = nowhere t
    slice_begins t null_ptr (suc n) (Some xs) is k none = nowhere t
    slice_begins t p n None is k none = cc

  module _ {M : Type 1} {𝓤 : Ura M} {𝓛 : Logic 𝓤} {K : Type 0} {Γ : List (Item 𝓤)} {G : Goal 𝓤 𝓛.H} where
    -- a method's `self`, as `value_opens` has it
    pub slice_opens : K → Soaks G → (κs : Lfts 2) (qs : Shares 2) (m : MutBor LentSlice.Denot)
        → (m.now.len < 2 ^ 64 → Seq K 𝓛 (Cell 𝓛 LentSlice κs qs m (lent_slice_val m.now.at m.now.len ∷ []) ∷ ‵ (slice_lies_at R m.now.at m.now.len m.now.items) ∷ Open 𝓛 LentSlice κs qs m Γ) G)
        → Seq K 𝓛 (Self 𝓛 LentSlice κs qs m ∷ Γ) G
    slice_opens t z κs qs m k = self_opens LentSlice κs qs m t z (λ vs. slice_had t m.now vs (λ e fits.
        move t (1 ∷ []) $ rewrite t 0 (λ (ws : List Val). Cell 𝓛 LentSlice κs qs m ws) e refl $ k fits))

  module _ {M : Type 1} {𝓤 : Ura M} (𝓛 : Logic 𝓤) (m : MutBor LentSlice.Denot) (p : Ptr) (b o : ℕ) (xs : List R.Denot)
      (at : m.now.at ≡ p) (is : m.now.items ≡ Some xs) (fits : m.now.len < 2 ^ 64) (lays : Lays 𝓛 p m.now.len b o xs) where
    -- the slice with other values, of which as many count as there were
    back : (ws : List R.Denot) → length ws ≡ length xs
        → ent 𝓤 (sep 𝓤 (sem 𝓛 (cells (mem R) ws b o)) (sem 𝓛 (cell_at full_share LentSlice.mir (lent_slice_val p m.now.len ∷ []) m.ref_ptr.0 m.ref_ptr.1))) (sem 𝓛 ((mem LentSlice).own_at (with_items m.now ws) m.ref_ptr.0 m.ref_ptr.1))
    back ws same =
        let all : refill (length (listed m.now.items)) (listed m.now.items) ws ≡ ws = ap (λ (v : Option (List R.Denot)). refill (length (listed v)) (listed v) ws) is ∙ take_at ws (drop_l (length ws) xs) (length xs) same in
        let With : Ptr → List R.Denot → Item 𝓤 = λ s l. ‵ ((mem LentSlice).own_at (record { at = s; len = m.now.len; items = Some l }) m.ref_ptr.0 m.ref_ptr.1) in
        qed 𝓛 (‵ (cells (mem R) ws b o) ∷ ‵ (cell_at full_share LentSlice.mir (lent_slice_val p m.now.len ∷ []) m.ref_ptr.0 m.ref_ptr.1) ∷ []) ∵
        use1 𝓛 (‵ (slice_lies_at R p m.now.len (Some ws))) (lays ws same) $ slice_made ! (record { at = p; len = m.now.len; items = Some ws }) fits $
        laid ! LentSlice (record { at = p; len = m.now.len; items = Some ws }) (lent_slice_val p m.now.len ∷ []) m.ref_ptr.0 m.ref_ptr.1 $
        rewrite ! 0 (λ (s : Ptr). With s ws) (sym at) refl $ rewrite ! 0 (λ (l : List R.Denot). With m.now.at l) (sym all) refl $ done !

  module _ {M : Type 1} {𝓤 : Ura M} {𝓛 : Logic 𝓤} {K : Type 0} {Γ : List (Item 𝓤)} {G : Goal 𝓤 𝓛.H} (κs : Lfts 2) (qs : Shares 2) (m : MutBor LentSlice.Denot) (p : Ptr) (b o : ℕ) (xs : List R.Denot)
      (at : m.now.at ≡ p) (is : m.now.items ≡ Some xs) (count : length xs ≡ m.now.len) (fits : m.now.len < 2 ^ 64) (room : Room R (length xs)) (lays : Lays 𝓛 p m.now.len b o xs) where
    -- the values are lent: a `&mut [T]` to them, and what `self` is once it has ended
    pub slice_lends : K → Soaks G
        → ((δ : GName) → Seq K 𝓛 (‵ ((MutSlice (named 0) κs.0 R).own_val (record { ref_ptr = (b, o); ghost_name = δ; now = xs }) (slice_val (b, o) m.now.len ∷ []))
        ∷ ‵ (follows LentSlice (Array R 0) m.ghost_name δ (with_items m.now)) ∷ ‵ (flft κs.0 qs.0) ∷ ‵ (flft κs.1.0 qs.1.0) ∷ Γ) G)
        → Seq K 𝓛 (Cell 𝓛 LentSlice κs qs m (lent_slice_val p m.now.len ∷ []) ∷ ‵ (cells (mem R) xs b o) ∷ Open 𝓛 LentSlice κs qs m Γ) G
    slice_lends t z k =
        let c = LentSlice.coded.code m.now in
        move t (2 ∷ 3 ∷ 4 ∷ 1 ∷ 0 ∷ []) $ group t 5 $
        use1 𝓛 (later (some (λ (δ : GName). ‵ ((MutSlice (named 0) κs.0 R).own_val (record { ref_ptr = (b, o); ghost_name = δ; now = xs }) (slice_val (b, o) (length xs) ∷ [])) ⊛ ‵ (flft κs.0 qs.0) ⊛ ‵ (follows LentSlice (Array R 0) m.ghost_name δ (with_items m.now)))))
        (lends_Elements 𝓛 LentSlice R (with_items m.now) (named 0) κs.0 qs.0 m.ref_ptr.0 m.ref_ptr.1 b o m.ghost_name xs room (sem 𝓛 (cell_at full_share LentSlice.mir (lent_slice_val p m.now.len ∷ []) m.ref_ptr.0 m.ref_ptr.1)) (back 𝓛 m p b o xs at is fits lays) c c) $
        await t z $ pick t (λ δ. split3 t $ rewrite t 0 (λ (n : ℕ). ‵ ((MutSlice (named 0) κs.0 R).own_val (record { ref_ptr = (b, o); ghost_name = δ; now = xs }) (slice_val (b, o) n ∷ []))) count refl $ move t (0 ∷ 2 ∷ 1 ∷ []) $ k δ)
