-- No context is forgotten where there is room.
use Rattle.std.proofs.Common.{◌≡◌, ℕ, ◌-◌, ◌<◌, Bool, true, false, List, [], ◌∷◌, length, take, nat_eq, Option, Some, None, if◌then◌else◌, Result, Ok, Err, OnOk, OnErr, refl, arith}
use Rattle.std.proofs.lemmas.List.{take_all}
use Rattle.std.specs.Option.{IsSome}
use Rattle.std.specs.Map.{lookup, lookup_entry, set_value}
use Rattle.lru.specs.LruCache.{LruCache}
use Rattle.contexts.specs.Outbound.{Remembers, with_context}
use Rattle.contexts.specs.Inbound.{Contexts, Keeps, begun}

module _ {V : Type 0} where
  -- a look-up of a list whose first key is that of another's first, and finds what that finds behind it
  first : (b : Bool) (v w : V) (old new : Option V) → (IsSome old → IsSome new) → IsSome (if b then Some v else old) → IsSome (if b then Some w else new)
  first true v w old new more found = refl
  first false v w old new more found = more found

  set_keeps : (ssrc other : ℕ) (w : V) (es : List (ℕ × V)) → IsSome (lookup (nat_eq other) es) → IsSome (lookup (nat_eq other) (set_value (nat_eq ssrc) es w))
  set_keeps ssrc other w [] found = found
  set_keeps ssrc other w (e ∷ es) found = told (nat_eq ssrc e.0) (set_keeps ssrc other w es)
    where
      rest : Option V
      rest = lookup (nat_eq other) (set_value (nat_eq ssrc) es w)

      told : (b : Bool) → (IsSome (lookup (nat_eq other) es) → IsSome rest)
          → IsSome (lookup (nat_eq other) (if b then (e.0, w) ∷ es else e ∷ set_value (nat_eq ssrc) es w))
      told true more = first (nat_eq other e.0) e.1 w (lookup (nat_eq other) es) (lookup (nat_eq other) es) (λ f. f) found
      told false more = first (nat_eq other e.0) e.1 e.1 (lookup (nat_eq other) es) rest more found

  pub written_remembers : (ssrc : ℕ) (w : V) (old : LruCache ℕ V) → Remembers old (with_context ssrc w old)
  written_remembers ssrc w old = λ other found. set_keeps ssrc other w old.entries found

  no_entry : (test : ℕ → Bool) (es : List (ℕ × V)) → lookup test es ≡ None → lookup_entry test es ≡ None
  no_entry test [] none = refl
  no_entry test (e ∷ es) none = told (test e.0) (no_entry test es) none
    where
      told : (b : Bool) → (lookup test es ≡ None → lookup_entry test es ≡ None) → (if b then Some e.1 else lookup test es) ≡ None
          → (if b then Some e else lookup_entry test es) ≡ None
      told true more n = cc
      told false more n = more n

  pub begun_remembers : (ssrc : ℕ) (new : V) (old : LruCache ℕ V) → lookup (nat_eq ssrc) old.entries ≡ None → length old.entries < old.cap
      → Remembers old (begun ssrc new old)
  begun_remembers ssrc new old none room = λ other found.
      let all : take (old.cap - 1) old.entries ≡ old.entries = take_all (old.cap - 1) old.entries (omega arith) in
      rw (no_entry (nat_eq ssrc) old.entries none, all) (behind (nat_eq other ssrc) other found)
    where
      behind : (b : Bool) (other : ℕ) → IsSome (lookup (nat_eq other) old.entries) → IsSome (if b then Some new else lookup (nat_eq other) old.entries)
      behind true other found = refl
      behind false other found = found

pub keeping_remembers : {V T E : Type 0} (ssrc : ℕ) (context : V) (old new : Contexts V) (answer : Result T E) → lookup (nat_eq ssrc) old.entries ≡ None
    → length old.entries < old.cap → OnOk answer (Keeps ssrc context old new) → OnErr answer (new ≡ old) → Remembers old new
keeping_remembers ssrc context old new (Ok done) none room ok err = rw ok.kept (begun_remembers ssrc ok.own old none room)
keeping_remembers ssrc context old new (Err fault) none room ok err = rw err (λ other found. found)
