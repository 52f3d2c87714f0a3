-- The first check that octets fail is the first of the checks in their order.
use Rattle.std.proofs.Common.{◌≡◌, ◌≢◌, ℕ, ◌+◌, ◌-◌, ◌*◌, ◌<◌, ◌≤◌, ◌⊎◌, ◌==◌, ◌&&◌, ◌||◌, not, Bool, true, false, cond, List, [], ◌∷◌, length, drop, slice_index, Option, Some, None, arith, refl, eq-eqb, inl, inr, ltb, leb, ltb-true, ltb-false, option_map}
use Rattle.std.specs.Prelude.{IsTrue}
use Rattle.std.proofs.lemmas.Bool.{leb-false, leb-true, eqb-true, cases_Bool}
use Rattle.rtpwire.specs.declared.fault.RtpFault.{RtpFault}
use Rattle.rtpwire.specs.declared.fault.RtpFault.TheVariants.{Short, Version, CsrcList, Extension, Padding}
use Rattle.rtpwire.specs.RtpChecks.{version_of, is_padded, is_extended, sources_end, word_count, header_end, has_bad_padding, rtp_fault}
use Rattle.rtpwire.specs.Fault.{rtp_number}
use Rattle.rtpwire.specs.FirstOf.{FirstOf}
use Rattle.rtpwire.specs.RtpOrder.{EndsInExtension, MiscountsPadding, rtp_order}

check : (b : Bool) (C : Type 0) (later : List (ℕ × Type 0)) (fault : RtpFault) (rest : Option RtpFault) → (b ≡ true → C) → (b ≡ false → C → ⊥) →
    (b ≡ false → FirstOf later (option_map rtp_number rest)) → FirstOf ((rtp_number fault, C) ∷ later) (option_map rtp_number (cond b (Some fault) rest))
check true C later fault rest holds fails more = inl (holds refl, refl)
check false C later fault rest holds fails more = inr (fails refl, more refl)

is_not : (b : Bool) → not b ≡ true → b ≡ true → ⊥
is_not true e f = absurd cc
is_not false e f = absurd cc

is : (b : Bool) → not b ≡ false → b ≡ true
is true e = refl
is false e = absurd cc

-- past the end of the header is within the extension, where there is one
extension_ends : (octets : List ℕ) (b : Bool) → is_extended octets ≡ b → length octets < cond b (sources_end octets + 4 + 4 * word_count octets) (sources_end octets) →
    sources_end octets ≤ length octets → IsTrue b × EndsInExtension octets
extension_ends octets true e less within = (refl, inr less)
extension_ends octets false e less within = absurd (omega arith)

extension_fits : (octets : List ℕ) (b : Bool) → cond b (sources_end octets + 4 + 4 * word_count octets) (sources_end octets) ≤ length octets → IsTrue b × EndsInExtension octets → ⊥
extension_fits octets true fits (e, inl short) = omega arith
extension_fits octets true fits (e, inr short) = omega arith
extension_fits octets false fits (e, ends) = absurd cc

padding_bad : (l h count : ℕ) (b : Bool) → (b && (cond b count 0 == 0 || leb (l - h) (cond b count 0))) ≡ true → h ≤ l → IsTrue b × ((count ≡ 0) ⊎ (l ≤ h + count))
padding_bad l h count true bad within =
    elim (cases_Bool (count == 0)) [
      | inl zero ↦ (refl, inl (eqb-true count 0 zero))
      | inr some ↦ (refl, inr (let less : leb (l - h) count ≡ true = rw some at bad in let le = leb-true _ _ less in omega arith))
    ]
padding_bad l h count false bad within = absurd cc

second_false : (b c : Bool) → (b || c) ≡ false → c ≡ false
second_false true c e = absurd cc
second_false false c e = e

padding_good : (l h count : ℕ) (b : Bool) → (b && (cond b count 0 == 0 || leb (l - h) (cond b count 0))) ≡ false → IsTrue b × ((count ≡ 0) ⊎ (l ≤ h + count)) → ⊥
padding_good l h count true good (e, inl zero) = absurd (let f : true ≡ false = rw zero at good in cc)
padding_good l h count true good (e, inr short) = let room : count < l - h = leb-false _ _ (second_false (count == 0) _ good) in omega arith
padding_good l h count false good (e, bad) = absurd cc

-- the checks that are left after the first ones, and the fault that they find
module _ (octets : List ℕ) where
  abbrev left : ℕ → List (ℕ × Type 0)
  left n = drop n (rtp_order octets)

  abbrev padding_fault : Option RtpFault
  padding_fault = cond (has_bad_padding octets) (Some Padding) None

  abbrev header_fault : Option RtpFault
  header_fault = cond (ltb (length octets) (header_end octets)) (Some Extension) padding_fault

  abbrev sources_fault : Option RtpFault
  sources_fault = cond (ltb (length octets) (sources_end octets)) (Some CsrcList) header_fault

  abbrev version_fault : Option RtpFault
  version_fault = cond (not (version_of octets == 2)) (Some Version) sources_fault

  padding_in_order : header_end octets ≤ length octets → FirstOf (left 4) (option_map rtp_number padding_fault)
  unfolding rtp_order
  padding_in_order within =
      check (has_bad_padding octets) (IsTrue (is_padded octets) × MiscountsPadding octets) [] Padding None
      (λ e. padding_bad (length octets) (header_end octets) (slice_index octets (length octets - 1)) (is_padded octets) e within)
      (λ e. padding_good (length octets) (header_end octets) (slice_index octets (length octets - 1)) (is_padded octets) e) (λ good. refl)

  header_in_order : sources_end octets ≤ length octets → FirstOf (left 3) (option_map rtp_number header_fault)
  unfolding rtp_order
  header_in_order within =
      check (ltb (length octets) (header_end octets)) (IsTrue (is_extended octets) × EndsInExtension octets) (left 4) Extension padding_fault
      (λ e. extension_ends octets (is_extended octets) refl (ltb-true _ _ e) within) (λ e. extension_fits octets (is_extended octets) (ltb-false _ _ e))
      (λ e. padding_in_order (ltb-false _ _ e))

  sources_in_order : FirstOf (left 2) (option_map rtp_number sources_fault)
  unfolding rtp_order
  sources_in_order =
      check (ltb (length octets) (sources_end octets)) (length octets < sources_end octets) (left 3) CsrcList header_fault
      (ltb-true _ _) (λ e less. let more = ltb-false _ _ e in omega arith) (λ e. header_in_order (ltb-false _ _ e))

  version_in_order : FirstOf (left 1) (option_map rtp_number version_fault)
  unfolding rtp_order
  version_in_order =
      check (not (version_of octets == 2)) (version_of octets ≢ 2) (left 2) Version sources_fault
      (λ e same. is_not _ e (eq-eqb _ _ same)) (λ e other. other (eqb-true _ _ (is _ e))) (λ e. sources_in_order)

  pub in_order : FirstOf (rtp_order octets) (option_map rtp_number (rtp_fault octets))
  unfolding rtp_order
  in_order =
      check (ltb (length octets) 12) (length octets < 12) (left 1) Short version_fault
      (ltb-true _ _) (λ e less. let more = ltb-false _ _ e in omega arith) (λ e. version_in_order)
