-- What `near` answers, in the words of nearness.
use Rattle.std.proofs.Common.{◌≡◌, ◌↔◌, ◌⊎◌, ℕ, ◌+◌, ◌-◌, ◌%◌, ◌^◌, ◌<◌, ◌≤◌, arith, refl, inl, inr, ltb, ltb-true, ltb-false, nat_lt, if◌then◌else◌, Result, Ok, Err}
use Rattle.std.proofs.lemmas.Bool.{cond_both}
use Rattle.places.specs.Place.{number, reach, IsNear, IsFar, IsPastEnd}
use Rattle.places.specs.declared.nearness.PlaceFault.{PlaceFault}
use Rattle.places.specs.declared.nearness.PlaceFault.TheVariants.{Far, PastEnd}

-- how far the sequence number is ahead of that of the highest place, modulo 65536
abbrev ahead : ℕ → ℕ → ℕ
ahead highest seq = (seq + 65536 - number highest) % 65536

abbrev lowered : ℕ → Result ℕ PlaceFault
lowered raised =
    if nat_lt raised 65536
    then Err PastEnd
    else (if nat_lt raised (2 ^ 48 + 65536) then Ok (raised - 65536) else Err PastEnd)

-- the answer as a function of the two numbers
abbrev pub near_place : ℕ → ℕ → Result ℕ PlaceFault
near_place highest seq =
    if nat_lt (ahead highest seq) reach
    then lowered (highest + 65536 + ahead highest seq)
    else (if nat_lt (65536 - reach) (ahead highest seq) then lowered (highest + ahead highest seq) else Err Far)

-- a near number is a place, or is none, or there is no near number
pub data IsAnswer (highest seq : ℕ) : Result ℕ PlaceFault → Type 0 where
  found : (place : ℕ) → place < 2 ^ 48 → IsNear highest seq place → IsAnswer highest seq (Ok place)
  past_end : IsPastEnd highest seq → IsAnswer highest seq (Err PastEnd)
  far : IsFar highest seq → IsAnswer highest seq (Err Far)

-- one cycle up a number is as near
raised : (h s q : ℕ) → IsNear h s q → IsNear (h + 65536) s (q + 65536)
raised h s q near = let n = near.same_number in let a = near.not_above in let b = near.not_below in
    record { same_number = omega arith; not_above = omega arith; not_below = omega arith }

lowered_is : (h s q : ℕ) → IsNear (h + 65536) s q → IsAnswer h s (lowered q)
lowered_is h s q near =
    cond_both (ltb q 65536) _ _ (IsAnswer h s) (λ e. past_end (q, near, inl (ltb-true _ _ e))) (λ e.
    cond_both (ltb q (2 ^ 48 + 65536)) _ _ (IsAnswer h s)
    (λ f. let over : 65536 ≤ q = ltb-false _ _ e in
    let n = near.same_number in let a = near.not_above in let b = near.not_below in
    found (q - 65536) (let under : q < 2 ^ 48 + 65536 = ltb-true _ _ f in omega arith) (record { same_number = omega arith; not_above = omega arith; not_below = omega arith }))
    (λ f. past_end (q, near, inr (ltb-false _ _ f))))

pub near_place_is : (h s : ℕ) → s < 65536 → IsAnswer h s (near_place h s)
near_place_is h s fits =
    cond_both (ltb (ahead h s) reach) _ _ (IsAnswer h s)
    (λ e. let close : ahead h s < reach = ltb-true _ _ e in
    lowered_is h s (h + 65536 + ahead h s) (record { same_number = omega arith; not_above = omega arith; not_below = omega arith }))
    (λ e. let over : reach ≤ ahead h s = ltb-false _ _ e in
    cond_both (ltb (65536 - reach) (ahead h s)) _ _ (IsAnswer h s)
    (λ f. let behind : 65536 - reach < ahead h s = ltb-true _ _ f in
    lowered_is h s (h + ahead h s) (record { same_number = omega arith; not_above = omega arith; not_below = omega arith }))
    (λ f. let most : ahead h s ≤ 65536 - reach = ltb-false _ _ f in
    far (λ q n. let a = n.same_number in let b = n.not_above in let d = n.not_below in omega arith)))

-- no other number is near
pub one : (h s p q : ℕ) → IsNear h s p → IsNear h s q → p ≡ q
one h s p q n m =
    let a = n.same_number in let b = n.not_above in let c = n.not_below in
    let d = m.same_number in let e = m.not_above in let f = m.not_below in omega arith

pub far_iff : (h s : ℕ) (r : Result ℕ PlaceFault) → IsAnswer h s r → (r ≡ Err Far) ↔ IsFar h s
far_iff h s _ (found place small near) = (λ e. cc, λ none. absurd (none _ (raised h s place near)))
far_iff h s _ (past_end p) = (λ e. cc, λ none. absurd (none p.0 p.1))
far_iff h s _ (far none) = (λ _. none, λ _. refl)

pub past_end_iff : (h s : ℕ) (r : Result ℕ PlaceFault) → IsAnswer h s r → (r ≡ Err PastEnd) ↔ IsPastEnd h s
past_end_iff h s _ (found place small near) = (
  λ e. cc,
  λ p. let same : p.0 ≡ place + 65536 = one _ _ _ _ p.1 (raised h s place near) in
      absurd (elim p.2 [ inl below ↦ omega arith | inr above ↦ omega arith ]),
)
past_end_iff h s _ (past_end p) = (λ _. p, λ _. refl)
past_end_iff h s _ (far none) = (λ e. cc, λ p. absurd (none p.0 p.1))

-- Of the three exactly one holds.
pub some_answer : (h s : ℕ) → s < 2 ^ 16 → ((place : ℕ) × (place < 2 ^ 48) × IsNear h s place) ⊎ (IsFar h s ⊎ IsPastEnd h s)
some_answer h s fits = told (near_place h s) (near_place_is h s fits)
  where
    told : (r : Result ℕ PlaceFault) → IsAnswer h s r → ((place : ℕ) × (place < 2 ^ 48) × IsNear h s place) ⊎ (IsFar h s ⊎ IsPastEnd h s)
    told _ (found place small near) = inl (place, small, near)
    told _ (past_end p) = inr (inr p)
    told _ (far none) = inr (inl none)

pub near_not_far : (h s q : ℕ) → IsNear h s q → IsFar h s → ⊥
near_not_far h s q near none = none _ (raised h s q near)

pub near_not_past_end : (h s q : ℕ) → q < 2 ^ 48 → IsNear h s q → IsPastEnd h s → ⊥
near_not_past_end h s q small near p =
    let same : p.0 ≡ q + 65536 = one _ _ _ _ p.1 (raised h s q near) in elim p.2 [ inl below ↦ omega arith | inr above ↦ omega arith ]

pub far_not_past_end : (h s : ℕ) → IsFar h s → IsPastEnd h s → ⊥
far_not_past_end h s none p = none p.0 p.1
