-- How many NACKs octets spell at most, and how many numbers these name; and that no reader answers the last two faults.
use Rattle.std.proofs.Common.{◌≡◌, ℕ, suc, ◌+◌, ◌*◌, ◌<◌, ◌≤◌, ◌==◌, ◌&&◌, not, nat_lt, Bool, true, false, cond, List, [], ◌∷◌, length, map, filter, Option, Some, sym, ap, subst, arith, length-append, inl, inr}
use Rattle.std.specs.Prelude.{All}
use Rattle.std.specs.List.{concat, flat_map, list_any, count_by}
use Rattle.std.proofs.lemmas.List.{length-map}
use Rattle.std.proofs.lemmas.List.Sums.{length-filter, count_by-le-length}
use Rattle.std.proofs.lemmas.Option.{same_Some, none-some}
use Rattle.fbwire.specs.declared.fault.FeedbackFault.{FeedbackFault}
use Rattle.fbwire.specs.declared.fault.FeedbackFault.TheVariants.{Short, Version, Padded, NotRtpfb, NotNack, Length, Empty}
use Rattle.fbwire.specs.declared.nack.Pair.{Pair}
use Rattle.fbwire.specs.Fault.{feedback_number}
use Rattle.fbwire.specs.Header.{version_of, is_padded, packet_length, is_nack}
use Rattle.fbwire.specs.Nack.{Nack, IsNack, has_bit, up_from, mask_bits, masked_numbers, pair_numbers, numbers_of, nack_octets}
use Rattle.fbwire.specs.Compound.{CompoundSpells}
use Rattle.fbwire.specs.CompoundChecks.{packet_fault, is_feedback, IsRefused}
use Rattle.fbwire.proofs.PairLists.{length-pair_octets}

-- a pair names its PID, and one number for each bit that is set
masked_few : (pid mask : ℕ) → length (masked_numbers pid mask) ≤ 16
unfolding mask_bits
masked_few pid mask = subst (λ n. n ≤ 16) (sym mapped) (subst (λ n. n ≤ 16) (sym kept) most)
  where
    mapped : length (masked_numbers pid mask) ≡ length (filter (has_bit mask) (up_from 1 16))
    mapped = length-map _ _

    kept : length (filter (has_bit mask) (up_from 1 16)) ≡ count_by (has_bit mask) (up_from 1 16)
    kept = length-filter (has_bit mask) (up_from 1 16)

    most : count_by (has_bit mask) (up_from 1 16) ≤ 16
    most = count_by-le-length (has_bit mask) (up_from 1 16)

numbers_few : (pairs : List Pair) → length (numbers_of pairs) ≤ 17 * length pairs
numbers_few [] = omega arith
numbers_few (p ∷ pairs) =
    let one = masked_few p.pid p.blp in
    let rest = numbers_few pairs in
    let joined = length-append (pair_numbers p) (numbers_of pairs) in
    omega arith

nack_length : (n : Nack) → length (nack_octets n) ≡ 12 + 4 * length n.pairs
nack_length n = let pairs_length = length-pair_octets n.pairs in omega arith

-- the octets of some packets are no more than those of all
kept_short : (test : List ℕ → Bool) (packets : List (List ℕ)) → length (concat (filter test packets)) ≤ length (concat packets)
kept_short test [] = omega arith
kept_short test (p ∷ packets) = by (test p) (kept_short test packets)
  where
    by : (b : Bool) → length (concat (filter test packets)) ≤ length (concat packets) → length (concat (cond b (p ∷ filter test packets) (filter test packets))) ≤ length (concat (p ∷ packets))
    by true rest = let a = length-append p (concat (filter test packets)) in let b = length-append p (concat packets) in omega arith
    by false rest = let b = length-append p (concat packets) in omega arith

few_numbers : (nacks : List Nack) → 4 * length (flat_map (λ (nack : Nack). numbers_of nack.pairs) nacks) ≤ 17 * length (concat (map nack_octets nacks))
few_numbers [] = omega arith
few_numbers (nack ∷ nacks) =
    let rest = few_numbers nacks in
    let here = numbers_few nack.pairs in
    let long = nack_length nack in
    let a = length-append (numbers_of nack.pairs) (flat_map (λ (nack : Nack). numbers_of nack.pairs) nacks) in
    let b = length-append (nack_octets nack) (concat (map nack_octets nacks)) in
    omega arith

few_nacks : (nacks : List Nack) → All IsNack nacks → 16 * length nacks ≤ length (concat (map nack_octets nacks))
few_nacks [] each = omega arith
few_nacks (nack ∷ nacks) each =
    let rest = few_nacks nacks (λ k d within. each (suc k) d (omega arith)) in
    let first : IsNack nack = each 0 nack (omega arith) in
    let some = first.some in
    let long = nack_length nack in
    let b = length-append (nack_octets nack) (concat (map nack_octets nacks)) in
    omega arith

pub few : (octets : List ℕ) (nacks : List Nack) → CompoundSpells nacks octets →
    (16 * length nacks ≤ length octets) × (4 * length (flat_map (λ (nack : Nack). numbers_of nack.pairs) nacks) ≤ 17 * length octets)
few octets nacks spells =
    let kept = kept_short is_nack spells.packets in
    let spelled : length (concat (filter is_nack spells.packets)) ≡ length (concat (map nack_octets nacks)) = ap (λ (list : List (List ℕ)). length (concat list)) spells.in_order.spelled in
    let whole : length octets ≡ length (concat spells.packets) = ap (λ (list : List ℕ). length list) spells.joined in
    let count = few_nacks nacks spells.in_order.each in
    let numbers = few_numbers nacks in
    (omega arith, omega arith)

-- the faults of a reader

abbrev OfReader : Option FeedbackFault → Type 0
OfReader o = (fault : FeedbackFault) → o ≡ Some fault → feedback_number fault < 18

this : (f : FeedbackFault) → feedback_number f < 18 → OfReader (Some f)
this f small fault e = subst (λ (x : FeedbackFault). feedback_number x < 18) (same_Some _ _ e) small

either : (b : Bool) (x y : Option FeedbackFault) → OfReader x → OfReader y → OfReader (cond b x y)
either true x y f g = f
either false x y f g = g

packet_of_reader : (octets : List ℕ) → OfReader (packet_fault octets)
packet_of_reader octets =
    either (nat_lt (length octets) 4) _ _ (this Short (omega arith))
    (either (not (version_of octets == 2)) _ _ (this Version (omega arith))
    (either (is_nack octets && is_padded octets) _ _ (this Padded (omega arith))
    (either (nat_lt (length octets) (packet_length octets)) _ _ (this Length (omega arith))
    (either (is_nack octets && nat_lt (packet_length octets) 12) _ _ (this Short (omega arith))
    (either (is_nack octets && (packet_length octets == 12)) _ _ (this Empty (omega arith)) (λ fault e. absurd (none-some fault e)))))))

pub of_reader : (octets : List ℕ) (fault : FeedbackFault) → IsRefused octets fault → feedback_number fault < 18
of_reader octets fault (inl fails) = packet_of_reader fails.rest fault fails.fails
of_reader octets fault (inr lacks) = subst (λ (x : FeedbackFault). feedback_number x < 18) (sym lacks.lacks) (by (list_any is_feedback lacks.packets))
  where
    by : (b : Bool) → feedback_number (cond b NotNack NotRtpfb) < 18
    by true = omega arith
    by false = omega arith
