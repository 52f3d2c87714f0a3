-- The octets that pass the checks spell one NACK, and those that spell a NACK pass.
use Rattle.std.proofs.Common.{◌≡◌, ℕ, ◌+◌, ◌/◌, ◌%◌, ◌<◌, ◌≤◌, Bool, true, false, cond, ltb-false, List, [], ◌∷◌, ◌++◌, length, drop, get_or, Option, Some, None, Result, Ok, Err, refl, ap, subst, sym, ◌∙◌, arith}
use Rattle.std.specs.Prelude.{not, ◌==◌, nat_lt, MatchResult, IfOk}
use Rattle.std.proofs.lemmas.Option.{none-some}
use Rattle.std.specs.List.{flat_map}
use Rattle.std.proofs.lemmas.List.{length-drop, drop-drop}
use Rattle.std.proofs.lemmas.Bool.{eqb-true, eqb-false, eq-eqb, ne_eqb, le-ltb, not-false, not_from_true, cond-false}
use Rattle.byteorder.specs.Endian.{big_bytes, big_number}
use Rattle.byteorder.specs.Numbers.{big_number-reads_back}
use Rattle.fbwire.specs.declared.fault.FeedbackFault.{FeedbackFault}
use Rattle.fbwire.specs.declared.fault.FeedbackFault.TheVariants.{Short, Version, Padded, NotRtpfb, NotNack, Length, Empty}
use Rattle.fbwire.specs.Nack.{Nack, IsNack, NackSpells, nack_octets, pair_octets}
use Rattle.fbwire.specs.Header.{packet_length}
use Rattle.fbwire.specs.NackChecks.{nack_fault}
use Rattle.fbwire.specs.NackReading.{nack_in, pairs_in, pairs_at}
use Rattle.fbwire.proofs.Octets.{AreOctets, AreOctets-drop, number_2_fits, number_4_fits, two_again, four_again}
use Rattle.fbwire.proofs.PairLists.{length-pairs_at, length-pair_octets, pairs_back, pairs_again, pairs_fit}

-- a check that passed, and those after it
pub passed : (b : Bool) (fault : FeedbackFault) (rest : Option FeedbackFault) → cond b (Some fault) rest ≡ None → (b ≡ false) × (rest ≡ None)
passed true fault rest e = absurd cc
passed false fault rest e = (refl, e)

-- all that was checked
pub record Passes (octets : List ℕ) : Type 0 where
  pub long : 12 < length octets
  pub first : get_or octets 0 0 ≡ 129
  pub second : get_or octets 1 0 ≡ 205
  pub counted : length octets ≡ packet_length octets

pub passes : (octets : List ℕ) → AreOctets octets → nack_fault octets ≡ None → Passes octets
passes octets fits e =
    let short = passed _ Short _ e in
    let version = passed _ Version _ short.1 in
    let padded = passed _ Padded _ version.1 in
    let transport = passed _ NotRtpfb _ padded.1 in
    let message = passed _ NotNack _ transport.1 in
    let counted = passed _ Length _ message.1 in
    let empty = passed _ Empty _ counted.1 in
    let octet = fits 0 in
    let is_2 : get_or octets 0 0 / 64 ≡ 2 = eqb-true _ _ (not-false _ version.0) in
    let unpadded : get_or octets 0 0 / 32 % 2 ≡ 1 → ⊥ = eqb-false _ _ padded.0 in
    let is_1 : get_or octets 0 0 % 32 ≡ 1 = eqb-true _ _ (not-false _ message.0) in
    let some : length octets ≡ 12 → ⊥ = eqb-false _ _ empty.0 in
    let enough : 12 ≤ length octets = ltb-false _ _ short.0 in
    record {
      long = omega arith;
      first = omega arith;
      second = eqb-true _ _ (not-false _ transport.0);
      counted = eqb-true _ _ (not-false _ counted.0);
    }

two_first : (octets : List ℕ) (a b : ℕ) → 2 ≤ length octets → get_or octets 0 0 ≡ a → get_or octets 1 0 ≡ b → a ∷ b ∷ drop 2 octets ≡ octets
two_first [] a b long e f = absurd (omega arith)
two_first (x ∷ []) a b long e f = absurd (omega arith)
two_first (x ∷ y ∷ rest) a b long e f = λ i. sym e i ∷ sym f i ∷ rest

-- what passes is spelled so
pub spells : (octets : List ℕ) → AreOctets octets → nack_fault octets ≡ None → NackSpells (nack_in octets) octets
spells octets fits e =
    let p = passes octets fits e in
    let long = p.long in let counted = p.counted in
    let count = length (drop 12 octets) / 4 in
    let pairs = pairs_in (drop 12 octets) in
    let of_count : length pairs ≡ count = length-pairs_at count (drop 12 octets) in
    let words : big_number 2 (drop 2 octets) ≡ 2 + length pairs = omega (arith, length-drop 12 octets) in
    let words_fit = number_2_fits (drop 2 octets) (AreOctets-drop 2 octets fits) in
    let words_of : List ℕ → List ℕ = λ t. big_bytes 2 (big_number 2 (drop 2 octets)) ++ t in
    let reporter_of : List ℕ → List ℕ = λ t. big_bytes 4 (big_number 4 (drop 4 octets)) ++ t in
    let media_of : List ℕ → List ℕ = λ t. big_bytes 4 (big_number 4 (drop 8 octets)) ++ t in
    let from_8 : media_of (flat_map pair_octets pairs) ≡ drop 8 octets =
    ap media_of (pairs_again count (drop 12 octets) (AreOctets-drop 12 octets fits) (omega (arith, length-drop 12 octets)) ∙ sym (drop-drop 4 8 octets))
    ∙ four_again (drop 8 octets) (AreOctets-drop 8 octets fits) (omega (arith, length-drop 8 octets)) in
    let from_4 : reporter_of (media_of (flat_map pair_octets pairs)) ≡ drop 4 octets =
    ap reporter_of (from_8 ∙ sym (drop-drop 4 4 octets))
    ∙ four_again (drop 4 octets) (AreOctets-drop 4 octets fits) (omega (arith, length-drop 4 octets)) in
    let from_2 : words_of (reporter_of (media_of (flat_map pair_octets pairs))) ≡ drop 2 octets =
    ap words_of (from_4 ∙ sym (drop-drop 2 2 octets))
    ∙ two_again (drop 2 octets) (AreOctets-drop 2 octets fits) (omega (arith, length-drop 2 octets)) in
    let whole : (n : ℕ) → n ≡ big_number 2 (drop 2 octets)
    → 129 ∷ 205 ∷ big_bytes 2 n ++ (reporter_of (media_of (flat_map pair_octets pairs))) ≡ octets =
    λ n same. ap (λ m. 129 ∷ 205 ∷ big_bytes 2 m ++ (reporter_of (media_of (flat_map pair_octets pairs)))) same
    ∙ ap (λ (t : List ℕ). 129 ∷ 205 ∷ t) from_2 ∙ two_first octets 129 205 (omega arith) p.first p.second in
    record {
      nack = record {
        reporter = number_4_fits (drop 4 octets) (AreOctets-drop 4 octets fits);
        media = number_4_fits (drop 8 octets) (AreOctets-drop 8 octets fits);
        some = omega (arith, length-drop 12 octets);
        counted = omega arith;
        each = pairs_fit count (drop 12 octets) (AreOctets-drop 12 octets fits);
      };
      spelled = sym (whole (2 + length pairs) (sym words));
    }

-- what spells a NACK passes
spelled_passes : (n : Nack) → IsNack n → nack_fault (nack_octets n) ≡ None
spelled_passes n fits =
    let some = fits.some in
    let pairs_length = length-pair_octets n.pairs in
    let words : big_number 2 (drop 2 (nack_octets n)) ≡ 2 + length n.pairs =
    big_number-reads_back 2 (2 + length n.pairs) (big_bytes 4 n.reporter ++ big_bytes 4 n.media ++ flat_map pair_octets n.pairs) fits.counted in
    let long : 12 ≤ length (nack_octets n) = omega arith in
    let counted : length (nack_octets n) ≡ packet_length (nack_octets n) = omega arith in
    let more : length (nack_octets n) ≡ 12 → ⊥ = λ e. omega arith in
    cond-false (nat_lt (length (nack_octets n)) 12) _ _ (le-ltb _ _ long)
    ∙ cond-false (not (length (nack_octets n) == packet_length (nack_octets n))) _ _ (not_from_true _ (eq-eqb _ _ counted))
    ∙ cond-false (length (nack_octets n) == 12) _ _ (ne_eqb _ _ more)

pub no_fault : (n : Nack) (octets : List ℕ) → NackSpells n octets → nack_fault octets ≡ None
no_fault n octets s = ap nack_fault s.spelled ∙ spelled_passes n s.nack

-- and is read as this NACK
read_back : (n : Nack) → IsNack n → nack_in (nack_octets n) ≡ n
read_back n fits =
    let octets = flat_map pair_octets n.pairs in
    let pairs_length = length-pair_octets n.pairs in
    let count : length octets / 4 ≡ length n.pairs = omega arith in
    let reporter : big_number 4 (drop 4 (nack_octets n)) ≡ n.reporter = big_number-reads_back 4 n.reporter (big_bytes 4 n.media ++ octets) fits.reporter in
    let media : big_number 4 (drop 8 (nack_octets n)) ≡ n.media = big_number-reads_back 4 n.media octets fits.media in
    let pairs : pairs_in octets ≡ n.pairs = ap (λ k. pairs_at k octets) count ∙ pairs_back n.pairs fits.each in
    λ i. record { reporter = reporter i; media = media i; pairs = pairs i }

pub read_as : (n : Nack) (octets : List ℕ) → NackSpells n octets → nack_in octets ≡ n
read_as n octets s = ap nack_in s.spelled ∙ read_back n s.nack

-- octets spell one NACK at most, and a NACK has one spelling
pub one_nack : (a b : Nack) (octets : List ℕ) → NackSpells a octets → NackSpells b octets → a ≡ b
one_nack a b octets s t = sym (read_as a octets s) ∙ read_as b octets t

pub one_spelling : (n : Nack) (octets others : List ℕ) → NackSpells n octets → NackSpells n others → octets ≡ others
one_spelling n octets others s t = s.spelled ∙ sym t.spelled

-- what the checks answer, and so what the reader answers
abbrev pub IsChecked : List ℕ → Result Nack FeedbackFault → Type 0
IsChecked octets answer =
    MatchResult answer
    (λ n. (nack_fault octets ≡ None) × (n ≡ nack_in octets))
    (λ fault. nack_fault octets ≡ Some fault)

pub spelled_by_checks : (octets : List ℕ) (answer : Result Nack FeedbackFault) → AreOctets octets → IsChecked octets answer → IfOk answer (λ n. NackSpells n octets)
spelled_by_checks octets (Ok n) fits h = subst (λ m. NackSpells m octets) (sym h.1) (spells octets fits h.0)
spelled_by_checks octets (Err fault) fits h = tt

pub only_by_checks : (octets : List ℕ) (answer : Result Nack FeedbackFault) → IsChecked octets answer → (n : Nack) → NackSpells n octets → answer ≡ Ok n
only_by_checks octets (Ok m) h n s = ap (λ (v : Nack). Ok v) (h.1 ∙ read_as n octets s)
only_by_checks octets (Err fault) h n s = absurd (none-some fault (sym (no_fault n octets s) ∙ h))
