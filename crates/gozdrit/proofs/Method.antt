-- A method on `&mut self` that needs a walk, where P is the row of `self` and Q the slot of the result. Assumes `Logic`.
--     Method P Q k     its signature, where k says whether its contract tells what `self` is at the return
--     walks            it meets its contract, from a walk that begins at `Self` and the `requires`
--     self_opens, self_closes     `self` in its parts, and back: its cell, what it owns, the open borrow in three entries, the token of T's lifetime
--     unchanged        the end of a method that leaves `self` as it was
--     lent_out         the end of a method whose result is lent from `self`
use Rattle.std.proofs.Common.{ℕ, List, [], ◌∷◌, refl}
use Rattle.std.proofs.raw_atomic.Walks.{proved, leaves}
use seplogic.Ra.Ura.{Ura}
use base.Fraction.{full_share}
use base.Logic.{SProp, ent, emp, sep, id⊢}
use base.Fml.{Fml, ftrue, fsep, flft, fobs, fauth, fbor, fobor}
use contract.Lifetimes.{Lfts, Shares, AllOutlive}
use contract.Running.{Running, MachineTables, tables}
use mir.Syntax.{Fn, Callee, named}
use mir.Val.{Val}
use prog.Model.{Model}
use prog.Wp.{WpFn, Closed}
use types.Logic.{Logic, sem}
use types.Kit.{Item, Goal, Seq, Step, step, Soaks, ⋆, ‵, raw, ◌⊛◌, ◌$◌, ◌∵◌, !, qed, by, move, use0, use1, split, join, fjoin, fjoin3, fpack, feq_i, fsplit3, drop}
use types.SemTy.{Body}
use denote.Exit.{Kept, yes, no}
use denote.Memory.{mem, cell_at, part_of}
use denote.RattleType.{RattleType}
use denote.Ref.{MutBor, MutRef, mut_vals, mut_Tells}
use denote.Signature.{Slot, plain, mut_ref_to, type_at}
use contract.Monad.{fact}
use denote.Steps.{heard, nothing, opens, closes}
use denote.Triple.Clauses.{Ended, Clauses, closing, at_exit}
use denote.Triple.Entry.{Args, Res}
use denote.Triple.Spec.{Meets}
use denote.Triple.Walked.{Stays, AllGo, walk_of, stay_ref, stay_dropped}

module _ (P : RattleType) (Q : Slot 2) where
  abbrev pub Method : Kept → Ended
  Method k = record { signature = record { lifetimes = 2; outlives = record { long = 1; long_ok = tt; short = named 0; short_ok = tt } ∷ []; params = mut_ref_to (0 ∷ []) tt (plain (λ _. P)) ∷ []; result = Q }; kept = (k, tt) }

  abbrev pub stays : Stays (Method yes).signature.params (Method yes).kept
  stays = (stay_ref (0 ∷ []) tt (plain (λ _. P)), tt)

  abbrev pub leaves_it : Stays (Method no).signature.params (Method no).kept
  leaves_it = (stay_dropped (mut_ref_to (0 ∷ []) tt (plain (λ _. P))) no, tt)

module _ {M : Type 1} {𝓤 : Ura M} (𝓛 : Logic 𝓤) (P : RattleType) where
  -- `self` at entry: the token of its lifetime, that of T's, and the reference
  abbrev pub Self : Lfts 2 → Shares 2 → MutBor P.Denot → Item 𝓤
  Self κs qs m = (‵ (flft κs.0 qs.0) ⊛ ‵ (flft κs.1.0 qs.1.0) ⊛ ‵ ftrue) ⊛ ‵ ((MutRef (named 0) κs.0 P).own_val m (mut_vals m)) ⊛ ‵ ftrue

  module _ (κs : Lfts 2) (qs : Shares 2) (m : MutBor P.Denot) where
    abbrev pub Cell : List Val → Item 𝓤
    Cell vs = ‵ (cell_at full_share P.mir vs m.ref_ptr.0 m.ref_ptr.1)

    -- what stands beside the cell, and what it owns, while `self` is open
    abbrev pub Open : List (Item 𝓤) → List (Item 𝓤)
    Open Γ = ‵ (fobor κs.0 qs.0 (Body (mem P) m.ref_ptr.0 m.ref_ptr.1 m.ghost_name)) ∷ ‵ (fobs m.ghost_name (P.coded.code m.now)) ∷ ‵ (fauth m.ghost_name (P.coded.code m.now)) ∷ ‵ (flft κs.1.0 qs.1.0) ∷ Γ

    -- `self` closed again
    abbrev pub Shut : List (Item 𝓤) → List (Item 𝓤)
    Shut Γ = ‵ (fobs m.ghost_name (P.coded.code m.now)) ∷ ‵ (fbor κs.0 (Body (mem P) m.ref_ptr.0 m.ref_ptr.1 m.ghost_name)) ∷ ‵ (flft κs.0 qs.0) ∷ ‵ (flft κs.1.0 qs.1.0) ∷ Γ

  module _ (Q : Slot 2) (k : Kept) (hs : Stays (Method P Q k).signature.params (Method P Q k).kept) (c : Clauses 𝓤 (Method P Q k)) where
    abbrev pub Walk : (y : (walk_of 𝓛 (Method P Q k) hs c).Ghost) → Val → SProp 𝓤
    Walk = (walk_of 𝓛 (Method P Q k) hs c).post

    abbrev pub bound : (κs : Lfts 2) (qs : Shares 2) → AllOutlive 2 (Method P Q k).signature.outlives κs → (a : Args (Method P Q k).signature κs) → (c κs a).ghost → (walk_of 𝓛 (Method P Q k) hs c).Ghost
    bound κs qs bounds a g = ((κs, qs, bounds, a, (mut_vals a.0, tt)), g)

    module _ (go : AllGo 𝓛 2 (Method P Q k).signature.params (Method P Q k).kept hs) (𝓜 : Model 𝓤 𝓛.H) (𝓡 : Running 𝓤 𝓛.H 𝓜) where
      abbrev 𝓣 : MachineTables 𝓤 𝓛.H 𝓜
      𝓣 = tables 𝓤 𝓛.H 𝓜 𝓡 𝓡.env

      pub walks : (name : Callee) (code : Fn) → Closed 𝓤 𝓛.H 𝓣.C 𝓣.Λ name code
          → ((κs : Lfts 2) (qs : Shares 2) (bounds : AllOutlive 2 (Method P Q k).signature.outlives κs) (a : Args (Method P Q k).signature κs) (g : (c κs a).ghost)
          → ent 𝓤 (⋆ 𝓛 (Self κs qs a.0 ∷ raw ((c κs a).requires g) ∷ [])) (WpFn 𝓤 𝓛.H 𝓣.C 𝓣.Λ code (mut_vals a.0) (Walk (bound κs qs bounds a g))))
          → Meets 𝓛 (Method P Q k).signature (𝓣.C name) (closing 𝓛 (Method P Q k) c)
      walks name code closed walk = proved 𝓛 (Method P Q k) hs c 𝓜 𝓡 go name code closed (λ κs. (mut_vals, tt)) (λ κs. (mut_Tells (named 0) κs.0 P, tt)) (λ κs qs bounds a g are. walk κs qs bounds a g)

  module _ (Q : Slot 2) (κs : Lfts 2) (qs : Shares 2) where
    -- the end where `self` is as it was, and the result owns nothing but what its value is
    module _ (c : Clauses 𝓤 (Method P Q yes)) (bounds : AllOutlive 2 (Method P Q yes).signature.outlives κs) (a : Args (Method P Q yes).signature κs) (g : (c κs a).ghost) (v : Val) (r : Res (Method P Q yes).signature κs) where
      abbrev m : MutBor P.Denot
      m = a.0

      pub unchanged : ent 𝓤 (emp 𝓤) (sem 𝓛 ((type_at Q κs).own_val r (v ∷ []))) → ent 𝓤 (emp 𝓤) ((c κs a).ensures g r (at_exit (Method P Q yes) κs a (m.now, tt)))
          → ent 𝓤 (⋆ 𝓛 (Shut κs qs m [])) (Walk Q yes (stays P Q) c (bound Q yes (stays P Q) c κs qs bounds a g) v)
      unchanged result says =
          qed 𝓛 (Shut κs qs m []) ∵
          feq_i ! (List Val) (mut_vals m) (mut_vals m) refl $ fjoin3 ! $ nothing ! $ move ! (1 ∷ 0 ∷ []) $ fjoin ! $
          nothing ! $ move ! (3 ∷ 0 ∷ []) $ join ! $ move ! (2 ∷ 0 ∷ []) $ join ! $ move ! (1 ∷ []) $
          use0 𝓛 (raw ((c κs a).ensures g r (at_exit (Method P Q yes) κs a (m.now, tt)))) says $ use0 𝓛 (‵ ((type_at Q κs).own_val r (v ∷ []))) result $ join ! $ move ! (1 ∷ 0 ∷ []) $ join ! $ move ! (1 ∷ 0 ∷ []) $ join ! $
          by ! (leaves 𝓛 (Method P Q yes) (stays P Q) c (bound Q yes (stays P Q) c κs qs bounds a g) v r (m.now, tt) (tt, tt))

    -- the end where `self` went into the result
    module _ (c : Clauses 𝓤 (Method P Q no)) (bounds : AllOutlive 2 (Method P Q no).signature.outlives κs) (a : Args (Method P Q no).signature κs) (g : (c κs a).ghost) (v : Val) (r : Res (Method P Q no).signature κs) where
      pub lent_out : (F : Fml) → ent 𝓤 (sem 𝓛 F) ((c κs a).ensures g r (at_exit (Method P Q no) κs a (tt, tt)))
          → ent 𝓤 (⋆ 𝓛 (‵ ((type_at Q κs).own_val r (v ∷ [])) ∷ ‵ F ∷ ‵ (flft κs.0 qs.0) ∷ ‵ (flft κs.1.0 qs.1.0) ∷ [])) (Walk Q no (leaves_it P Q) c (bound Q no (leaves_it P Q) c κs qs bounds a g) v)
      lent_out F says =
          qed 𝓛 (‵ ((type_at Q κs).own_val r (v ∷ [])) ∷ ‵ F ∷ ‵ (flft κs.0 qs.0) ∷ ‵ (flft κs.1.0 qs.1.0) ∷ []) ∵
          move ! (1 ∷ []) $ use1 𝓛 (raw ((c κs a).ensures g r (at_exit (Method P Q no) κs a (tt, tt)))) says $ move ! (1 ∷ 0 ∷ []) $ join ! $
          nothing ! $ nothing ! $ fjoin ! $ join ! $ nothing ! $ move ! (3 ∷ 0 ∷ []) $ join ! $ move ! (2 ∷ 0 ∷ []) $ join ! $ join ! $
          by ! (leaves 𝓛 (Method P Q no) (leaves_it P Q) c (bound Q no (leaves_it P Q) c κs qs bounds a g) v r (tt, tt) (tt, tt))

module _ {M : Type 1} {𝓤 : Ura M} {𝓛 : Logic 𝓤} {K : Type 0} {Γ : List (Item 𝓤)} {G : Goal 𝓤 𝓛.H} (P : RattleType) (κs : Lfts 2) (qs : Shares 2) (m : MutBor P.Denot) where
  pub self_opens : K → Soaks G → ((vs : List Val) → Seq K 𝓛 (‵ (P.own_val m.now vs) ∷ Cell 𝓛 P κs qs m vs ∷ Open 𝓛 P κs qs m Γ) G) → Seq K 𝓛 (Self 𝓛 P κs qs m ∷ Γ) G
  self_opens t z k =
      split t $ split t $ move t (1 ∷ []) $ split t $ move t (1 ∷ []) $ drop t $ move t (2 ∷ []) $ split t $ move t (1 ∷ []) $ drop t $
      fsplit3 t $ drop t $ move t (0 ∷ 1 ∷ 3 ∷ 2 ∷ []) $ opens t z P m.ref_ptr.0 m.ref_ptr.1 (λ vs. move t (1 ∷ []) $ k vs)

  pub self_closes : K → Soaks G → (vs : List Val) → Step K 𝓛 (Shut 𝓛 P κs qs m Γ) G (‵ (P.own_val m.now vs) ∷ Cell 𝓛 P κs qs m vs ∷ Open 𝓛 P κs qs m Γ) G
  self_closes t z vs = step (λ s. move t (1 ∷ []) $ closes t z P m.now vs m.ref_ptr.0 m.ref_ptr.1 $ s)

module _ {M : Type 1} {𝓤 : Ura M} {𝓛 : Logic 𝓤} {K : Type 0} {Γ : List (Item 𝓤)} {G : Goal 𝓤 𝓛.H} where
  -- a cell and what is owned are a value in memory
  pub laid : K → (P : RattleType) (d : P.Denot) (vs : List Val) (b o : ℕ) → Step K 𝓛 (‵ ((mem P).own_at d b o) ∷ Γ) G (‵ (P.own_val d vs) ∷ ‵ (cell_at full_share P.mir vs b o) ∷ Γ) G
  unfolding part_of
  laid t P d vs b o = step (λ s. move t (1 ∷ []) $ fjoin t $ fpack t (List Val) (λ us. fsep (cell_at full_share P.mir us b o) (P.own_val d us)) vs $ s)

  -- a `requires` beside the bound that T outlives `self`
  pub asked : K → {φ ψ : Type 0} → (ψ → Seq K 𝓛 Γ G) → Seq K 𝓛 (raw (sep 𝓤 (fact 𝓤 φ) (fact 𝓤 ψ)) ∷ Γ) G
  asked t {φ} {ψ} k = use1 𝓛 (raw (fact 𝓤 φ) ⊛ raw (fact 𝓤 ψ)) (id⊢ 𝓤 _) $ split t $ drop t $ heard t ψ k
