-- Whole packets, and what their first four octets say of them.
use Rattle.std.proofs.Common.{◌≡◌, ℕ, ◌+◌, ◌<◌, ◌≤◌, Bool, true, false, ltb-false, List, ◌++◌, length, take, drop, get_or, None, refl, ap, subst, sym, ◌∙◌, arith, inl, inr, length-append}
use Rattle.std.specs.Prelude.{◌==◌, ◌&&◌}
use Rattle.std.specs.List.{flat_map}
use Rattle.std.proofs.lemmas.List.{length-drop, length-take, get_or_append_left, drop-append-le, take-append-drop}
use Rattle.std.proofs.lemmas.Bool.{eqb-true, eqb-false, eq-eqb, ne_eqb, le-ltb, not-false, not_from_true, cond-false, cases_Bool, and_left, and_right, and_cases, and_parts, both_ways}
use Rattle.byteorder.specs.Endian.{big_bytes, big_number}
use Rattle.byteorder.specs.Numbers.{big_number-reads_back, big_from-append}
use Rattle.fbwire.specs.declared.fault.FeedbackFault.TheVariants.{Short, Version, Padded, Length, Empty}
use Rattle.fbwire.specs.Header.{version_of, is_padded, message_type, packet_type, packet_length, is_nack}
use Rattle.fbwire.specs.Nack.{Nack, IsNack, NackSpells, nack_octets, pair_octets}
use Rattle.fbwire.specs.NackChecks.{nack_fault}
use Rattle.fbwire.specs.CompoundChecks.{packet_fault, is_feedback}
use Rattle.fbwire.proofs.PairLists.{length-pair_octets}
use Rattle.fbwire.proofs.NackSpelling.{passed}

-- the two agree in the fields of the header
pub record SameHead (a b : List ℕ) : Type 0 where
  pub first : get_or a 0 0 ≡ get_or b 0 0
  pub second : get_or a 1 0 ≡ get_or b 1 0
  pub words : big_number 2 (drop 2 a) ≡ big_number 2 (drop 2 b)

pub same_head : (p r : List ℕ) → 4 ≤ length p → SameHead (p ++ r) p
same_head p r headed =
    record {
      first = get_or_append_left p r 0 0 (omega arith);
      second = get_or_append_left p r 0 1 (omega arith);
      words = ap (big_number 2) (drop-append-le 2 p r (omega arith)) ∙ big_from-append 2 (drop 2 p) r (omega (arith, length-drop 2 p));
    }

pub same_version : (a b : List ℕ) → SameHead a b → version_of a ≡ version_of b
same_version a b same = rw same.first refl

pub same_padded : (a b : List ℕ) → SameHead a b → is_padded a ≡ is_padded b
same_padded a b same = rw same.first refl

pub same_nack : (a b : List ℕ) → SameHead a b → is_nack a ≡ is_nack b
same_nack a b same = rw (same.first, same.second) refl

pub same_feedback : (a b : List ℕ) → SameHead a b → is_feedback a ≡ is_feedback b
same_feedback a b same = rw same.second refl

pub same_length : (a b : List ℕ) → SameHead a b → packet_length a ≡ packet_length b
same_length a b same = rw same.words refl

-- the packet at the front passes each check
pub record IsSound (octets : List ℕ) : Type 0 where
  pub headed : 4 ≤ length octets
  pub version : version_of octets ≡ 2
  pub unpadded : is_nack octets ≡ true → is_padded octets ≡ false
  pub fits : packet_length octets ≤ length octets
  pub full : is_nack octets ≡ true → 12 < packet_length octets

pub sound : (octets : List ℕ) → packet_fault octets ≡ None → IsSound octets
sound octets e =
    let headed = passed _ Short _ e in
    let version = passed _ Version _ headed.1 in
    let padded = passed _ Padded _ version.1 in
    let fits = passed _ Length _ padded.1 in
    let short = passed _ Short _ fits.1 in
    let empty = passed _ Empty _ short.1 in
    record {
      headed = ltb-false _ _ headed.0;
      version = eqb-true _ _ (not-false _ version.0);
      unpadded = λ nack. elim (and_cases _ _ padded.0) [ inl other ↦ absurd (both_ways _ other nack) | inr is ↦ is ];
      fits = ltb-false _ _ fits.0;
      full = λ nack.
          let long : 12 ≤ packet_length octets = elim (and_cases _ _ short.0) [ inl other ↦ absurd (both_ways _ other nack) | inr is ↦ ltb-false _ _ is ] in
          let more : packet_length octets ≡ 12 → ⊥ = elim (and_cases _ _ empty.0) [ inl other ↦ absurd (both_ways _ other nack) | inr is ↦ eqb-false _ _ is ] in
          omega arith;
    }

pub no_packet_fault : (octets : List ℕ) → IsSound octets → packet_fault octets ≡ None
no_packet_fault octets s =
    let unless : (t : Bool) → (is_nack octets ≡ true → t ≡ false) → (is_nack octets && t) ≡ false = λ t h.
    elim (cases_Bool (is_nack octets)) [ inl nack ↦ and_right _ t (h nack) | inr other ↦ and_left _ t other ] in
    cond-false _ _ _ (le-ltb _ _ s.headed)
    ∙ cond-false _ _ _ (not_from_true _ (eq-eqb _ _ s.version))
    ∙ cond-false _ _ _ (unless _ s.unpadded)
    ∙ cond-false _ _ _ (le-ltb _ _ s.fits)
    ∙ cond-false _ _ _ (unless _ (λ nack. le-ltb _ _ (let more = s.full nack in omega arith)))
    ∙ cond-false _ _ _ (unless _ (λ nack. ne_eqb _ _ (λ e. let more = s.full nack in omega arith)))

-- a packet that passes, and is all of the octets
pub record IsPacket (octets : List ℕ) : Type 0 where
  pub sound : IsSound octets
  pub whole : length octets ≡ packet_length octets

-- with octets after it, it passes still
pub sound_append : (p r : List ℕ) → IsPacket p → IsSound (p ++ r)
sound_append p r packet =
    let s = packet.sound in
    let same = same_head p r s.headed in
    let longer : length p ≤ length (p ++ r) = omega (arith, length-append p r) in
    let headed = s.headed in let whole = packet.whole in
    let is = same_nack (p ++ r) p same in
    let long = same_length (p ++ r) p same in
    record {
      headed = omega arith;
      version = same_version (p ++ r) p same ∙ s.version;
      unpadded = λ nack. same_padded (p ++ r) p same ∙ s.unpadded (sym is ∙ nack);
      fits = omega arith;
      full = λ nack. let more = s.full (sym is ∙ nack) in omega arith;
    }

-- the part of the octets that its length says
pub packet_part : (octets : List ℕ) → IsSound octets → IsPacket (take (packet_length octets) octets)
packet_part octets s =
    let p = take (packet_length octets) octets in
    let fits = s.fits in
    let long : length p ≡ packet_length octets = omega (arith, length-take (packet_length octets) octets) in
    let headed : 4 ≤ length p = omega arith in
    let whole_is : p ++ drop (packet_length octets) octets ≡ octets = take-append-drop (packet_length octets) octets in
    let same : SameHead octets p = subst (λ t. SameHead t p) whole_is (same_head p (drop (packet_length octets) octets) headed) in
    let is = same_nack octets p same in
    let lengths = same_length octets p same in
    record {
      sound = record {
        headed = headed;
        version = sym (same_version octets p same) ∙ s.version;
        unpadded = λ nack. sym (same_padded octets p same) ∙ s.unpadded (is ∙ nack);
        fits = omega arith;
        full = λ nack. let more = s.full (is ∙ nack) in omega arith;
      };
      whole = omega arith;
    }

-- a packet that is no generic NACK
pub record IsOther (octets : List ℕ) : Type 0 where
  pub version : version_of octets ≡ 2
  pub other : is_nack octets ≡ false
  pub whole : length octets ≡ packet_length octets

-- a packet is a NACK or another
pub other_packet : (p : List ℕ) → IsOther p → IsPacket p
other_packet p other =
    let whole = other.whole in
    record {
      sound = record {
        headed = omega arith;
        version = other.version;
        unpadded = λ nack. absurd (both_ways _ other.other nack);
        fits = omega arith;
        full = λ nack. absurd (both_ways _ other.other nack);
      };
      whole = whole;
    }

pub packet_other : (p : List ℕ) → IsPacket p → is_nack p ≡ false → IsOther p
packet_other p packet other = record { version = packet.sound.version; other = other; whole = packet.whole }

-- the octets of a NACK are a packet with a NACK's header
spelled_packet : (n : Nack) → IsNack n → IsPacket (nack_octets n)
spelled_packet n fits =
    let some = fits.some in
    let pairs_length = length-pair_octets n.pairs in
    let words : big_number 2 (drop 2 (nack_octets n)) ≡ 2 + length n.pairs =
    big_number-reads_back 2 (2 + length n.pairs) (big_bytes 4 n.reporter ++ big_bytes 4 n.media ++ flat_map pair_octets n.pairs) fits.counted in
    let whole : length (nack_octets n) ≡ packet_length (nack_octets n) = omega arith in
    let long : 12 < length (nack_octets n) = omega arith in
    record {
      sound = record {
        headed = omega arith;
        version = refl;
        unpadded = λ nack. refl;
        fits = omega arith;
        full = λ nack. omega arith;
      };
      whole = whole;
    }

pub nack_packet : (n : Nack) (p : List ℕ) → NackSpells n p → IsPacket p
nack_packet n p s = subst IsPacket (sym s.spelled) (spelled_packet n s.nack)

pub nack_headed : (n : Nack) (p : List ℕ) → NackSpells n p → is_nack p ≡ true
nack_headed n p s = ap is_nack s.spelled

-- a packet with a NACK's header passes the checks of a NACK
pub nack_passes : (p : List ℕ) → IsPacket p → is_nack p ≡ true → nack_fault p ≡ None
nack_passes p packet nack =
    let s = packet.sound in
    let full = s.full nack in let whole = packet.whole in
    let types = and_parts (packet_type p == 205) (message_type p == 1) nack in
    let long : 12 ≤ length p = omega arith in
    cond-false _ _ _ (le-ltb _ _ long)
    ∙ cond-false _ _ _ (not_from_true _ (eq-eqb _ _ s.version))
    ∙ cond-false _ _ _ (s.unpadded nack)
    ∙ cond-false _ _ _ (not_from_true _ types.0)
    ∙ cond-false _ _ _ (not_from_true _ types.1)
    ∙ cond-false _ _ _ (not_from_true _ (eq-eqb _ _ whole))
    ∙ cond-false _ _ _ (ne_eqb (length p) 12 (λ e. omega arith))
