use Rattle.std.proofs.Common.{◌≡◌, ◌+◌, ◌<◌, ◌≤◌, ◌≢◌, ℕ, List, inl, inr, refl, ◌∙◌, add-one, arith, get_or, get_or-set_other, get_or-set_same, length, set}
use Rattle.std.proofs.lemmas.Bool.{cases_lt}
use Rattle.std.proofs.lemmas.List.{length-set}
use Rattle.srtp.specs.Aes.{round_key, next_key}
use Rattle.srtp.proofs.aes.round_keys.Goals as goal

next_is : (key last made : List ℕ) (r : ℕ) → last ≡ round_key key r → made ≡ next_key last r → made ≡ round_key key (r + 1)
unfolding round_key
next_is key last made r held e = rw (e, held, add-one) refl

each_is : (keys : List (List ℕ)) (key made : List ℕ) (r : ℕ) → length keys ≡ 11 → r < 10
    → ((none : List ℕ) (k : ℕ) → k ≤ r → get_or keys k none ≡ round_key key k) → made ≡ round_key key (r + 1)
    → (none : List ℕ) (k : ℕ) → k ≤ r + 1 → get_or (set keys (r + 1) made) k none ≡ round_key key k
each_is keys key made r len lt held e none k h = elim (cases_lt k (r + 1)) [
  | inl below ↦
      let ne : k ≢ r + 1 = omega arith in
      rw get_or-set_other (held none k (omega arith))
  | inr above ↦
      let same : k ≡ r + 1 = omega arith in
      let fits : r + 1 < length keys = omega arith in
      rw (same, get_or-set_same) e
]

pub loop-r-init : goal.loop-r-init
unfolding round_key
loop-r-init c = record { len = refl; last = refl; each = λ none k lt. let e : k ≡ 0 = omega arith in rw e refl }

pub loop-r-preserved : goal.loop-r-preserved
loop-r-preserved c =
    let made = next_is c.args.key.now c.loop-r.round_key _ c.loop-r.r c.loop-r.invariant.last c.next_key-round_key.ensures in
    record {
      len = length-set _ _ _ ∙ c.loop-r.invariant.len;
      last = made;
      each = each_is c.loop-r.keys c.args.key.now _ c.loop-r.r c.loop-r.invariant.len (omega arith) c.loop-r.invariant.each made;
    }
