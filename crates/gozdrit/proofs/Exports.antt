-- What each walk of an export shares. Assumes `Logic`.
--     drops, none_fit, none_had      an export has nothing of its parameters at the return
--     answered     what a callee of one fact answered: its result, and the fact
--     leave        the end: the result, and the `ensures`
--     gone_ptr, gone_int, gone_heap     the law that a parameter owes of which nothing is had
--     alloc_made   a handle to the heap, which owns nothing
--     moved_to, sized_moved, slice_moved     what lies at an address that is the same
use Rattle.std.proofs.Common.{◌≡◌, ℕ, List, [], ◌∷◌, refl}
use Rattle.std.specs.Prelude.{Option}
use seplogic.Ra.Ura.{Ura}
use mir.Syntax.{Width}
use mir.Val.{Val}
use base.Logic.{ent, sep, emp, id⊢}
use contract.Lifetimes.{Lfts}
use types.Logic.{Logic, sem}
use types.Kit.{Item, Goal, Seq, Step, step, Soaks, ‵, raw, ◌⊛◌, some, later, ◌$◌, ◌∵◌, !, qed, done, move, drop, use0, use1, split, join, pick, await, rewrite, suffices}
use denote.RattleType.{RattleType, Denots, Valss}
use denote.Exit.{yes}
use denote.Plain.{UInt}
use denote.RawPtr.{Ptr, RawPtr}
use denote.Signature.{Slot, plain, types_at, type_at}
use denote.Steps.{owned, nothing}
use denote.Laws.{Is}
use denote.Struct.Laws as laws
use denote.Triple.Clauses.{Ended, Clauses, closing, Lasts, at_exit, lasts}
use denote.Triple.End.{Kepts, Fins}
use denote.Triple.Entry.{Res, alive}
use denote.Triple.Spec.{triple_of}
use denote.Triple.Walked.{Stays, stay_dropped, fits_of, has_of, walk_of, ends_at, Goes, Goes-dropped}
use Rattle.std.specs.contracts.alloc.Global as heap
use Rattle.std.proofs.Handle.{heap_val}
use Rattle.gozdrit.specs.Lying.{value_lies_at, slice_lies_at, sized_lies_at}

module _ {n : ℕ} where
  abbrev pub drops : (ss : List (Slot n)) (ks : Kepts ss) → Stays ss ks
  drops [] ks = tt
  drops (s ∷ ss) ks = (stay_dropped s ks.0, drops ss ks.1)

  pub none_fit : (κs : Lfts n) (ss : List (Slot n)) (ks : Kepts ss) (a : Denots (types_at ss κs)) (ws : Fins κs ss ks a) → fits_of κs ss ks (drops ss ks) a ws
  none_fit κs [] ks a ws = tt
  none_fit κs (s ∷ ss) ks a ws = (tt, none_fit κs ss ks.1 a.1 ws.1)

  pub none_had : (κs : Lfts n) (ss : List (Slot n)) (ks : Kepts ss) (a : Denots (types_at ss κs)) (ws : Fins κs ss ks a) (vss : Valss (types_at ss κs))
      → {M : Type 1} {𝓤 : Ura M} (𝓛 : Logic 𝓤) → ent 𝓤 (emp 𝓤) (sem 𝓛 (has_of κs ss ks (drops ss ks) a ws vss))
  none_had κs [] ks a ws vss {𝓤 = 𝓤} 𝓛 = id⊢ 𝓤 (emp 𝓤)
  none_had κs (s ∷ ss) ks a ws vss {𝓤 = 𝓤} 𝓛 =
      qed 𝓛 [] ∵ use0 𝓛 (‵ (has_of κs ss ks.1 (drops ss ks.1) a.1 ws.1 vss.1)) (none_had κs ss ks.1 a.1 ws.1 vss.1 𝓛) $ nothing ! $ join ! $ done !

module _ {M : Type 1} {𝓤 : Ura M} {𝓛 : Logic 𝓤} {K : Type 0} {Γ : List (Item 𝓤)} {G : Goal 𝓤 𝓛.H} where
  -- [the result; the `ensures`]
  pub answered : K → Soaks G → (T : Ended) (c : Clauses 𝓤 T) (y : (walk_of 𝓛 T (drops T.signature.params T.kept) c).Ghost) (v : Val)
      → ((r : Res T.signature y.0.0) (ws : Lasts T y.0.0 y.0.3)
      → Seq K 𝓛 (‵ ((type_at T.signature.result y.0.0).own_val r (v ∷ [])) ∷ raw ((c y.0.0 y.0.3).ensures y.1 r (at_exit T y.0.0 y.0.3 ws)) ∷ Γ) G)
      → Seq K 𝓛 (raw ((triple_of 𝓛 T.signature (closing 𝓛 T c)).post y v) ∷ Γ) G
  answered t z T c y v k =
      use1 𝓛 (later (some (λ (r : Res T.signature y.0.0). (raw (alive 𝓛 T.signature y.0.0 y.0.1) ⊛ ‵ ((type_at T.signature.result y.0.0).own_val r (v ∷ []))) ⊛
      some (λ (ws : Lasts T y.0.0 y.0.3). ‵ (lasts T y.0.0 y.0.3 ws) ⊛ raw ((c y.0.0 y.0.3).ensures y.1 r (at_exit T y.0.0 y.0.3 ws)))))) (id⊢ 𝓤 _) $
      await t z $ pick t (λ r. split t $ split t $ drop t $ move t (1 ∷ []) $ pick t (λ ws. split t $ drop t $ move t (1 ∷ 0 ∷ []) $ k r ws))

  pub alloc_made : K → (h : heap.the_row.Denot) → Is heap.the_row h (heap_val ∷ []) → Step K 𝓛 (‵ (heap.the_row.own_val h (heap_val ∷ [])) ∷ Γ) G Γ G
  alloc_made t h is = owned t heap.the_row (Is heap.the_row) (laws.makes heap.the_type (λ x vs vss. (tt, (tt, tt)), tt) 𝓛) h (heap_val ∷ []) is

  pub moved_to : K → (R : RattleType) {p s : Ptr} (v : Option R.Denot) → s ≡ p → Step K 𝓛 (‵ (value_lies_at R p v) ∷ Γ) G (‵ (value_lies_at R s v) ∷ Γ) G
  moved_to t R v e = step (λ k. rewrite t 0 (λ (u : Ptr). ‵ (value_lies_at R u v)) e refl $ k)

  pub sized_moved : K → (R : RattleType) {p s : Ptr} (v : Option R.Denot) (ys : List ℕ) → s ≡ p → Step K 𝓛 (‵ (sized_lies_at R p v ys) ∷ Γ) G (‵ (sized_lies_at R s v ys) ∷ Γ) G
  sized_moved t R v ys e = step (λ k. rewrite t 0 (λ (u : Ptr). ‵ (sized_lies_at R u v ys)) e refl $ k)

  pub slice_moved : K → (R : RattleType) {p s : Ptr} {n m : ℕ} (v : Option (List R.Denot)) → s ≡ p → m ≡ n → Step K 𝓛 (‵ (slice_lies_at R p n v) ∷ Γ) G (‵ (slice_lies_at R s m v) ∷ Γ) G
  slice_moved t R {p} {s} {n} {m} v e e' = step (λ k. rewrite t 0 (λ (u : Ptr). ‵ (slice_lies_at R u m v)) e refl $ rewrite t 0 (λ (i : ℕ). ‵ (slice_lies_at R p i v)) e' refl $ k)

module _ {M : Type 1} {𝓤 : Ura M} (𝓛 : Logic 𝓤) (T : Ended) (c : Clauses 𝓤 T) where
  abbrev hs : Stays T.signature.params T.kept
  hs = drops T.signature.params T.kept

  pub leave : (y : (walk_of 𝓛 T hs c).Ghost) (v : Val) (r : Res T.signature y.0.0) (ws : Lasts T y.0.0 y.0.3) → ent 𝓤 (emp 𝓤) (alive 𝓛 T.signature y.0.0 y.0.1)
      → ent 𝓤 (sep 𝓤 (sem 𝓛 ((type_at T.signature.result y.0.0).own_val r (v ∷ []))) ((c y.0.0 y.0.3).ensures y.1 r (at_exit T y.0.0 y.0.3 ws))) ((walk_of 𝓛 T hs c).post y v)
  leave y v r ws none =
      qed 𝓛 (‵ ((type_at T.signature.result y.0.0).own_val r (v ∷ [])) ∷ raw ((c y.0.0 y.0.3).ensures y.1 r (at_exit T y.0.0 y.0.3 ws)) ∷ []) ∵
      suffices ! _ (ends_at 𝓛 T hs c y v r ws (none_fit y.0.0 T.signature.params T.kept y.0.3 ws)) $
      use0 𝓛 (‵ (has_of y.0.0 T.signature.params T.kept hs y.0.3 ws y.0.4)) (none_had y.0.0 T.signature.params T.kept y.0.3 ws y.0.4 𝓛) $ join ! $
      use0 𝓛 (raw (alive 𝓛 T.signature y.0.0 y.0.1)) none $ join ! $ done !

module _ {M : Type 1} {𝓤 : Ura M} (𝓛 : Logic 𝓤) where
  pub gone_ptr : Goes 𝓛 0 (plain (λ _. RawPtr)) yes (stay_dropped (plain (λ _. RawPtr)) yes)
  gone_ptr = Goes-dropped 𝓛 0 (plain (λ _. RawPtr)) yes (λ κs x w. refl)

  pub gone_int : (w : Width) → Goes 𝓛 0 (plain (λ _. UInt w)) yes (stay_dropped (plain (λ _. UInt w)) yes)
  gone_int w = Goes-dropped 𝓛 0 (plain (λ _. UInt w)) yes (λ κs x w'. refl)

  pub gone_heap : Goes 𝓛 0 (plain (λ _. heap.the_row)) yes (stay_dropped (plain (λ _. heap.the_row)) yes)
  gone_heap = Goes-dropped 𝓛 0 (plain (λ _. heap.the_row)) yes (λ κs x w. refl)
