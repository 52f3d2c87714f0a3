-- Each SSRC keeps a context of its own.
use Rattle.std.proofs.Common.{◌≡◌, ℕ, Bool, true, false, ◌⊎◌, List, [], ◌∷◌, Contains, nat_eq, Some, Result, Ok, Err, OnOk, OnErr, refl, sym, ap, subst, inl, inr}
use Rattle.std.proofs.lemmas.Bool.{eqb-true}
use Rattle.std.specs.Global.{Box}
use Rattle.std.specs.Map.{lookup, set_value}
use Rattle.lru.proofs.CallerLemmas.{Contains-lookup, Contains-promoted, Contains-put_entries}
use Rattle.lru.proofs.Splits.{Contains-cons, Contains-head, Contains-nil, Contains-tail}
use Rattle.contexts.specs.Inbound.{Contexts, Keeps, begun, used}
use Rattle.contexts.specs.Outbound.{with_context}
use Rattle.contexts.specs.Own.{EachOwn}

-- each entry that has another value was there, or has the key that passes
Contains-set_value : {V : Type 0} (test : ℕ → Bool) (es : List (ℕ × V)) (w : V) (e : ℕ × V) → Contains (set_value test es w) e
    → Contains es e ⊎ ((e.1 ≡ w) × (test e.0 ≡ true))
Contains-set_value test [] w e c = inl c
Contains-set_value test (f ∷ es) w e c = (elim (test f.0) as (λ y. test f.0 ≡ y → Contains (f ∷ es) e ⊎ ((e.1 ≡ w) × (test e.0 ≡ true))) [
  | true ↦ λ t. elim (Contains-cons (f.0, w) es e (rw t at c)) [
    | inl same ↦ inr (sym (ap (λ p. p.1) same), subst (λ k. test k ≡ true) (ap (λ p. p.0) same) t)
    | inr d ↦ inl (Contains-tail f es e d)
  ]
  | false ↦ λ t. elim (Contains-cons f (set_value test es w) e (rw t at c)) [
    | inl same ↦ inl (subst (Contains (f ∷ es)) same (Contains-head f es))
    | inr d ↦ elim (Contains-set_value test es w e d) [
      | inl was ↦ inl (Contains-tail f es e was)
      | inr new ↦ inr new
    ]
  ]
]) refl

module _ {V : Type 0} (IsOwn : (ssrc : ℕ) → V → Type 0) where
  pub none_own : (contexts : Contexts V) → contexts.entries ≡ [] → EachOwn IsOwn contexts
  none_own contexts none = λ e among. absurd (Contains-nil e (subst (λ es. Contains es e) none among))

  -- the context that is found of an SSRC is its own
  pub found_own : (ssrc : ℕ) (contexts : Contexts V) (v : Box V) → EachOwn IsOwn contexts → lookup (nat_eq ssrc) contexts.entries ≡ Some v → IsOwn ssrc v.value
  found_own ssrc contexts v each found =
      let c = Contains-lookup (nat_eq ssrc) contexts.entries v found in
      subst (λ k. IsOwn k v.value) (sym (eqb-true ssrc c.0 c.2)) (each (c.0, v) c.1)

  pub written_own : (ssrc : ℕ) (now : Box V) (old : Contexts V) → EachOwn IsOwn old → IsOwn ssrc now.value → EachOwn IsOwn (with_context ssrc now old)
  written_own ssrc now old each own = λ e among. elim (Contains-set_value (nat_eq ssrc) old.entries now e among) [
    | inl was ↦ each e was
    | inr new ↦ subst (λ k. IsOwn k e.1.value) (eqb-true ssrc e.0 new.1) (subst (λ b. IsOwn ssrc b.value) (sym new.0) own)
  ]

  pub used_own : (ssrc : ℕ) (now : Box V) (old : Contexts V) → EachOwn IsOwn old → IsOwn ssrc now.value → EachOwn IsOwn (used ssrc now old)
  used_own ssrc now old each own = λ e among.
      written_own ssrc now old each own e (Contains-promoted (nat_eq ssrc) (set_value (nat_eq ssrc) old.entries now) e among)

  pub begun_own : (ssrc : ℕ) (new : Box V) (old : Contexts V) → EachOwn IsOwn old → IsOwn ssrc new.value → EachOwn IsOwn (begun ssrc new old)
  begun_own ssrc new old each own = λ e among. elim (Contains-put_entries nat_eq old ssrc new e among) [
    | inl was ↦ each e was
    | inr put ↦ let at : IsOwn ssrc e.1.value = subst (λ b. IsOwn ssrc b.value) (sym put.0) own in elim put.1 [
      | inl key ↦ subst (λ k. IsOwn k e.1.value) (sym key) at
      | inr there ↦ subst (λ k. IsOwn k e.1.value) (eqb-true ssrc e.0 there.2) at
    ]
  ]

  -- a context is kept, or is not for want of memory
  pub kept_own : {T E : Type 0} (ssrc : ℕ) (context : V) (old new : Contexts V) (answer : Result T E) → EachOwn IsOwn old → IsOwn ssrc context
      → OnOk answer (Keeps ssrc context old new) → OnErr answer (new ≡ old) → EachOwn IsOwn new
  kept_own ssrc context old new (Ok done) each own ok err =
      subst (EachOwn IsOwn) (sym ok.kept) (begun_own ssrc ok.own old each (subst (λ v. IsOwn ssrc v) (sym ok.is) own))
  kept_own ssrc context old new (Err fault) each own ok err = subst (EachOwn IsOwn) (sym err) each
