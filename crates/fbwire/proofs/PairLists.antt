-- Pairs, and the octets that spell them.
use Rattle.std.proofs.Common.{◌≡◌, ℕ, zero, suc, ◌*◌, ◌/◌, ◌<◌, ◌≤◌, List, [], ◌∷◌, ◌++◌, length, drop, refl, ap, sym, ◌∙◌, arith}
use Rattle.std.specs.List.{flat_map, All}
use Rattle.std.proofs.lemmas.List.{length-drop, drop-drop}
use Rattle.std.proofs.lemmas.List.Elements.{All-head, All-tail, All-nil, All-cons}
use Rattle.byteorder.specs.Endian.{big_bytes, big_number}
use Rattle.byteorder.specs.Numbers.{big_number-reads_back}
use Rattle.fbwire.specs.declared.nack.Pair.{Pair}
use Rattle.fbwire.specs.Nack.{IsPair, pair_octets}
use Rattle.fbwire.specs.NackReading.{pair_in, pairs_at, pairs_in}
use Rattle.fbwire.proofs.Octets.{AreOctets, AreOctets-drop, number_2_fits, two_again}

-- pairs are read one by one
pub pairs_in-more : (octets : List ℕ) → 4 ≤ length octets → pairs_in octets ≡ pair_in octets ∷ pairs_in (drop 4 octets)
pairs_in-more octets long =
    let count : length octets / 4 ≡ suc (length (drop 4 octets) / 4) = omega (arith, length-drop 4 octets) in
    ap (λ n. pairs_at n octets) count

pub pairs_in-none : (octets : List ℕ) → length octets < 4 → pairs_in octets ≡ []
pairs_in-none octets short =
    let count : length octets / 4 ≡ 0 = omega arith in
    ap (λ n. pairs_at n octets) count

pub length-pairs_at : (n : ℕ) (octets : List ℕ) → length (pairs_at n octets) ≡ n
length-pairs_at zero octets = refl
length-pairs_at (suc n) octets = let e = length-pairs_at n (drop 4 octets) in omega (arith, e)

pub length-pair_octets : (pairs : List Pair) → length (flat_map pair_octets pairs) ≡ 4 * length pairs
length-pair_octets [] = refl
length-pair_octets (p ∷ pairs) = let e = length-pair_octets pairs in omega (arith, e)

-- what was spelled is read again
pair_back : (p : Pair) (rest : List ℕ) → IsPair p → pair_in (pair_octets p ++ rest) ≡ p
pair_back p rest fits =
    let pid : big_number 2 (pair_octets p ++ rest) ≡ p.pid = big_number-reads_back 2 p.pid (big_bytes 2 p.blp ++ rest) fits.pid in
    let blp : big_number 2 (big_bytes 2 p.blp ++ rest) ≡ p.blp = big_number-reads_back 2 p.blp rest fits.blp in
    λ i. record { pid = pid i; blp = blp i }

pub pairs_back : (pairs : List Pair) → All IsPair pairs → pairs_at (length pairs) (flat_map pair_octets pairs) ≡ pairs
pairs_back [] fit = refl
pairs_back (p ∷ pairs) fit =
    let here : pair_in (pair_octets p ++ flat_map pair_octets pairs) ≡ p = pair_back p (flat_map pair_octets pairs) (All-head IsPair p pairs fit) in
    let rest : pairs_at (length pairs) (flat_map pair_octets pairs) ≡ pairs = pairs_back pairs (All-tail IsPair p pairs fit) in
    λ i. here i ∷ rest i

-- what was read is spelled so
pub pairs_again : (n : ℕ) (octets : List ℕ) → AreOctets octets → length octets ≡ 4 * n → flat_map pair_octets (pairs_at n octets) ≡ octets
pairs_again zero [] h long = refl
pairs_again zero (a ∷ rest) h long = absurd (omega arith)
pairs_again (suc n) octets h long =
    let pid : List ℕ → List ℕ = λ t. big_bytes 2 (big_number 2 octets) ++ t in
    let both : List ℕ → List ℕ = λ t. pid (big_bytes 2 (big_number 2 (drop 2 octets)) ++ t) in
    let rest = pairs_again n (drop 4 octets) (AreOctets-drop 4 octets h) (omega (arith, length-drop 4 octets)) in
    ap both rest ∙ ap both (sym (drop-drop 2 2 octets))
    ∙ ap pid (two_again (drop 2 octets) (AreOctets-drop 2 octets h) (omega (arith, length-drop 2 octets)))
    ∙ two_again octets h (omega arith)

pub pairs_fit : (n : ℕ) (octets : List ℕ) → AreOctets octets → All IsPair (pairs_at n octets)
pairs_fit zero octets h = All-nil IsPair
pairs_fit (suc n) octets h =
    All-cons IsPair (pair_in octets) (pairs_at n (drop 4 octets))
    (record { pid = number_2_fits octets h; blp = number_2_fits (drop 2 octets) (AreOctets-drop 2 octets h) })
    (pairs_fit n (drop 4 octets) (AreOctets-drop 4 octets h))
