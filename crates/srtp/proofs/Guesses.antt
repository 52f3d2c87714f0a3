-- Which index a packet has by the indices that were taken before it.
use Rattle.std.proofs.Common.{◌≡◌, ℕ, ◌+◌, ◌-◌, ◌*◌, ◌^◌, ◌<◌, ◌≤◌, nat_lt, List, Some, None, refl, sym, ap, ◌∙◌}
use Rattle.std.proofs.lemmas.Bool.{eq-eqb, ne_eqb, cond-true, cond-false, lt-ltb, le-ltb}
use Rattle.srtp.specs.Fault.{or_else, fault_if}
use Rattle.srtp.specs.Index.{guessed_index}
use Rattle.srtp.specs.Replay.{next_of}
use Rattle.srtp.specs.Stream.{index_of, guess_fault}
use Rattle.srtp.specs.declared.fault.SrtpFault.TheVariants.{KeyEnd, TooOld}

pub first_index : (rollover seq next : ℕ) (taken : List ℕ) → next ≡ next_of taken → next ≡ 0 → 65536 * rollover + seq ≡ index_of rollover taken seq
unfolding index_of
first_index rollover seq next taken e none = sym (cond-true _ _ _ (eq-eqb (next_of taken) 0 (sym e ∙ none)))

pub first_fault : (next index : ℕ) (taken : List ℕ) → next ≡ next_of taken → next ≡ 0 → None ≡ guess_fault taken index
unfolding guess_fault
first_fault next index taken e none = sym (cond-true _ _ _ (eq-eqb (next_of taken) 0 (sym e ∙ none)))

pub later_index : (rollover seq next index : ℕ) (taken : List ℕ) → next ≡ next_of taken → (next ≡ 0 → ⊥) → index ≡ guessed_index (next - 1) seq
    → index ≡ index_of rollover taken seq
unfolding index_of
later_index rollover seq next index taken e some is =
    is ∙ ap (λ n. guessed_index (n - 1) seq) e ∙ sym (cond-false _ _ _ (ne_eqb (next_of taken) 0 (λ none. some (e ∙ none))))

later_fault : (next index : ℕ) (taken : List ℕ) → next ≡ next_of taken → (next ≡ 0 → ⊥)
    → guess_fault taken index ≡ or_else (fault_if (nat_lt (index + 2 ^ 47) next) KeyEnd) (fault_if (nat_lt (next + 2 ^ 47) index) TooOld)
unfolding guess_fault
later_fault next index taken e some =
    cond-false _ _ _ (ne_eqb (next_of taken) 0 (λ none. some (e ∙ none)))
    ∙ ap (λ n. or_else (fault_if (nat_lt (index + 2 ^ 47) n) KeyEnd) (fault_if (nat_lt (n + 2 ^ 47) index) TooOld)) (sym e)

pub past_the_end : (next index : ℕ) (taken : List ℕ) → next ≡ next_of taken → (next ≡ 0 → ⊥) → index + 2 ^ 47 < next → Some KeyEnd ≡ guess_fault taken index
past_the_end next index taken e some lt = sym (later_fault next index taken e some ∙ rw (lt-ltb (index + 2 ^ 47) next lt) refl)

pub before_the_first : (next index : ℕ) (taken : List ℕ) → next ≡ next_of taken → (next ≡ 0 → ⊥) → next ≤ index + 2 ^ 47 → next + 2 ^ 47 < index
    → Some TooOld ≡ guess_fault taken index
before_the_first next index taken e some le lt =
    sym (later_fault next index taken e some ∙ rw (le-ltb (index + 2 ^ 47) next le, lt-ltb (next + 2 ^ 47) index lt) refl)

pub between : (next index : ℕ) (taken : List ℕ) → next ≡ next_of taken → (next ≡ 0 → ⊥) → next ≤ index + 2 ^ 47 → index ≤ next + 2 ^ 47
    → None ≡ guess_fault taken index
between next index taken e some le ge =
    sym (later_fault next index taken e some ∙ rw (le-ltb (index + 2 ^ 47) next le, le-ltb (next + 2 ^ 47) index ge) refl)
