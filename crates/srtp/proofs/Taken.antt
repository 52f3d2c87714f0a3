-- What a list of so many places knows of the indices that were taken.
use Rattle.std.proofs.Common.{◌≡◌, ℕ, ◌+◌, ◌-◌, ◌*◌, ◌/◌, ◌%◌, ◌<◌, ◌≤◌, ◌==◌, ◌||◌, max, Bool, false, List, [], ◌∷◌, Some, None, if◌then◌else◌, slice_index, refl, sym, ap, ◌∙◌, inl, inr, arith}
use Rattle.std.proofs.lemmas.Bool.{cases_eq, cases_lt, eq-eqb, ne_eqb, lt-ltb, le-ltb, cond-true, cond-false, or_left}
use Rattle.std.proofs.lemmas.Nat.{div-add-mod', mul-le}
use Rattle.places.specs.Among.{is_among}
use Rattle.srtp.specs.Replay.{next_of, last_at, replay_fault, Remembers}
use Rattle.srtp.specs.declared.replay.ReplayFault.TheVariants.{TooOld, TakenBefore}

-- two indices that share a place lie at least so many apart
pub same_place : (len i j : ℕ) → i % len ≡ j % len → i < j → i + len ≤ j
same_place len i j same lt =
    let a = i / len in
    let b = j / len in
    let i_is : a * len + i % len ≡ i = div-add-mod' i len in
    let j_is : b * len + j % len ≡ j = div-add-mod' j len in
    elim (cases_lt a b) [
      | inl below ↦
          let more : (a + 1) * len ≤ b * len = mul-le (a + 1) len b len (omega arith) (omega arith) in
          omega arith
      | inr above ↦
          let less : b * len ≤ a * len = mul-le b len a len above (omega arith) in
          absurd (omega arith)
    ]

pub record Knows (len index : ℕ) (taken : List ℕ) : Type 0 where
  pub bound : last_at len (index % len) taken ≤ index + 1
  pub among : is_among taken index ≡ (last_at len (index % len) taken == index + 1)

or_right_of : (x y : Bool) → x ≡ false → (x || y) ≡ y
or_right_of x y e = rw e refl

-- a lower index at the place changes nothing for a higher one
larger : (j last index : ℕ) → j < index → last ≤ index + 1 → (last == index + 1) ≡ (max (j + 1) last == index + 1)
larger j last index below bound = elim (cases_eq last (index + 1)) [
  | inl top ↦
      let same : max (j + 1) last ≡ index + 1 = omega arith in
      eq-eqb last (index + 1) top ∙ sym (eq-eqb (max (j + 1) last) (index + 1) same)
  | inr under ↦
      ne_eqb last (index + 1) under ∙ sym (ne_eqb (max (j + 1) last) (index + 1) (λ e. under (omega arith)))
]

-- one index more, by what stands at the place then
known : (len index j now : ℕ) (taken : List ℕ) → last_at len (index % len) (j ∷ taken) ≡ now → now ≤ index + 1
    → ((j == index) || is_among taken index) ≡ (now == index + 1) → Knows len index (j ∷ taken)
known len index j now taken e bound among = record { bound = rw e bound; among = among ∙ ap (λ n. n == index + 1) (sym e) }

-- Among the indices that share a place with one that is not too old, none is higher, and it was taken where it is the last of them.
pub knows : (len index : ℕ) (taken : List ℕ) → next_of taken ≤ index + len → Knows len index taken
knows len index [] h = record { bound = omega arith; among = sym (ne_eqb 0 (index + 1) (λ e. omega arith)) }
knows len index (j ∷ taken) h =
    let before = knows len index taken (omega arith) in
    let last : ℕ = last_at len (index % len) taken in
    let bound : last ≤ index + 1 = before.bound in
    elim (cases_eq (j % len) (index % len)) [
      | inl same ↦
          let now : last_at len (index % len) (j ∷ taken) ≡ max (j + 1) last = cond-true _ _ _ (eq-eqb (j % len) (index % len) same) in
          elim (cases_eq j index) [
            | inl this ↦
                let most : max (j + 1) last ≡ index + 1 = omega arith in
                known len index j (max (j + 1) last) taken now (omega arith)
                (or_left (j == index) (is_among taken index) (eq-eqb j index this) ∙ sym (eq-eqb (max (j + 1) last) (index + 1) most))
            | inr other ↦
                let below : j < index = elim (cases_lt j index) [
                  | inl lt ↦ lt
                  | inr ge ↦ let far : index + len ≤ j = same_place len index j (sym same) (omega arith) in absurd (omega arith)
                ] in
                known len index j (max (j + 1) last) taken now (omega arith)
                (or_right_of (j == index) (is_among taken index) (ne_eqb j index other) ∙ before.among ∙ larger j last index below bound)
          ]
      | inr apart ↦
          let now : last_at len (index % len) (j ∷ taken) ≡ last = cond-false _ _ _ (ne_eqb (j % len) (index % len) apart) in
          let other : j ≡ index → ⊥ = λ e. apart (ap (λ k. k % len) e) in
          known len index j last taken now bound (or_right_of (j == index) (is_among taken index) (ne_eqb j index other) ∙ before.among)
    ]

-- what a list answers
pub answer_old : (len next index : ℕ) (places taken : List ℕ) → Remembers len next places taken → index < next - len
    → Some TooOld ≡ replay_fault len taken index
answer_old len next index places taken held old =
    let e = held.highest in
    sym (cond-true _ _ _ (lt-ltb (index + len) (next_of taken) (omega arith)))

answer_young : (len next index : ℕ) (places taken : List ℕ) → Remembers len next places taken → next - len ≤ index → index % len < len
    → replay_fault len taken index ≡ (if slice_index places (index % len) == index + 1 then Some TakenBefore else None)
answer_young len next index places taken held young within =
    let e = held.highest in
    let fits : next_of taken ≤ index + len = omega arith in
    let here : slice_index places (index % len) ≡ last_at len (index % len) taken = held.each (index % len) within in
    cond-false _ _ _ (le-ltb (index + len) (next_of taken) fits)
    ∙ ap (λ (b : Bool). if b then Some TakenBefore else None) ((knows len index taken fits).among ∙ ap (λ n. n == index + 1) (sym here))

pub answer_taken : (len next index : ℕ) (places taken : List ℕ) → Remembers len next places taken → next - len ≤ index → index % len < len
    → slice_index places (index % len) ≡ index + 1 → Some TakenBefore ≡ replay_fault len taken index
answer_taken len next index places taken held young within same =
    sym (answer_young len next index places taken held young within ∙ cond-true _ _ _ (eq-eqb _ _ same))

pub answer_new : (len next index : ℕ) (places taken : List ℕ) → Remembers len next places taken → next - len ≤ index → index % len < len
    → (slice_index places (index % len) ≡ index + 1 → ⊥) → None ≡ replay_fault len taken index
answer_new len next index places taken held young within other =
    sym (answer_young len next index places taken held young within ∙ cond-false _ _ _ (ne_eqb _ _ other))
