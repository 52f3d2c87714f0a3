-- Octets that no check refuses spell the packet that a reader sees in them.
use Rattle.std.proofs.Common.{◌≡◌, ℕ, ◌+◌, ◌-◌, ◌*◌, ◌/◌, ◌%◌, ◌^◌, ◌<◌, ◌≤◌, true, cond, List, [], ◌∷◌, ◌++◌, length, take, drop, slice_index, slice_range, Option, Some, None, is_some, IfSome, nat_lt, nat_le, arith, refl, sym, ◌∙◌, ap, append_assoc, inl, inr}
use Rattle.std.proofs.Math.Seq.{take-add}
use Rattle.std.proofs.lemmas.Bool.{lt-ltb, leb-true, leb-false, eqb-true, eqb-false, cases_Bool, cond_both}
use Rattle.std.proofs.lemmas.List.{drop-drop, take-append-drop, length-drop, length-take, get_or-drop}
use Rattle.std.proofs.lemmas.List.Elements.{All-take, All-drop}
use Rattle.std.specs.Option.{option_map}
use Rattle.byteorder.specs.Endian.{big_bytes, big_number}
use Rattle.rtpwire.specs.Rtp.{RtpSpells, IsPacket, IsExtension, bit, first_octet, fixed_header, word_octets, extension_octets, unpadded}
use Rattle.rtpwire.specs.RtpChecks.{is_padded, is_extended, source_count, sources_end, word_count, header_end, padding_count, rtp_fault}
use Rattle.rtpwire.specs.RtpReading.{words_at, extension_in, packet_in}
use Rattle.rtpwire.proofs.Numbers.{EachOctet, EachOctet-drop, number-fits, bytes-again_2, bytes-again_4}
use Rattle.rtpwire.proofs.OctetsIn.{from_each}
use Rattle.rtpwire.proofs.WordsIn.{length_words_at, words_at-words, word_octets-words_at}
use Rattle.rtpwire.proofs.Checks.{Passes, passed}
use Rattle.rtpwire.proofs.Spelled.{regrouped}

-- a part of a list, and what follows it
join : (xs : List ℕ) (i j : ℕ) → i ≤ j → slice_range xs i j ++ drop j xs ≡ drop i xs
join xs i j order =
    let more : drop j xs ≡ drop (j - i) (drop i xs) = ap (λ k. drop k xs) (omega arith) ∙ sym (drop-drop (j - i) i xs) in
    ap (λ (x : List ℕ). slice_range xs i j ++ x) more ∙ take-append-drop (j - i) (drop i xs)

-- the flags of the first octet
padded_bit : (octets : List ℕ) → Passes octets → bit (nat_lt 0 (padding_count octets)) ≡ slice_index octets 0 / 32 % 2
padded_bit octets ok =
    elim (cases_Bool (is_padded octets)) [
      | inl padded ↦ ap bit (lt-ltb 0 _ (ok.padding padded).0) ∙ sym (eqb-true _ _ padded)
      | inr plain ↦
          let none : padding_count octets ≡ 0 = ap (λ b. cond b (slice_index octets (length octets - 1)) 0) plain in
          let clear : slice_index octets 0 / 32 % 2 ≡ 1 → ⊥ = eqb-false _ _ plain in
          ap (λ k. bit (nat_lt 0 k)) none ∙ omega arith
    ]

extended_bit : (octets : List ℕ) → bit (is_some (extension_in octets)) ≡ slice_index octets 0 / 16 % 2
extended_bit octets =
    let e : ℕ × List ℕ = (big_number 2 (drop (sources_end octets) octets), words_at (word_count octets) (drop (sources_end octets + 4) octets)) in
    elim (cases_Bool (is_extended octets)) [
      | inl extended ↦ ap (λ b. bit (is_some (cond b (Some e) None))) extended ∙ sym (eqb-true _ _ extended)
      | inr plain ↦
          let clear : slice_index octets 0 / 16 % 2 ≡ 1 → ⊥ = eqb-false _ _ plain in
          ap (λ b. bit (is_some (cond b (Some e) None))) plain ∙ omega arith
    ]

first_seen : (octets : List ℕ) → Passes octets → first_octet (packet_in octets) ≡ slice_index octets 0
first_seen octets ok =
    let p = padded_bit octets ok in
    let x = extended_bit octets in
    let n = length_words_at (source_count octets) (drop 12 octets) in
    let v = ok.version in
    omega (arith, p, x, n, v)

second_seen : (octet : ℕ) → octet < 256 → 128 * bit (nat_le 128 octet) + octet % 128 ≡ octet
second_seen octet small =
    elim (cases_Bool (nat_le 128 octet)) [
      | inl marked ↦ let high : 128 ≤ octet = leb-true _ _ marked in ap (λ b. 128 * bit b + octet % 128) marked ∙ omega arith
      | inr plain ↦ let low : octet < 128 = leb-false _ _ plain in ap (λ b. 128 * bit b + octet % 128) plain ∙ omega arith
    ]

two : (octets : List ℕ) → 2 ≤ length octets → take 2 octets ≡ slice_index octets 0 ∷ slice_index octets 1 ∷ []
two [] long = absurd (omega arith)
two (a ∷ []) long = absurd (omega arith)
two (a ∷ b ∷ rest) long = refl

same_header : {a a' b b' : ℕ} {s s' t t' r r' : List ℕ} → a ≡ a' → b ≡ b' → s ≡ s' → t ≡ t' → r ≡ r'
    → a ∷ b ∷ s ++ t ++ r ≡ (a' ∷ b' ∷ []) ++ (s' ++ (t' ++ r'))
same_header {a' = a'} {b' = b'} {s' = s'} {t' = t'} {r' = r'} a b s t r =
    rw (a, b, s, t, r) (ap (λ (x : List ℕ). a' ∷ b' ∷ x) (append_assoc s' t' r'))

header_seen : (octets : List ℕ) → EachOctet octets → Passes octets → fixed_header (packet_in octets) ≡ take 12 octets
header_seen octets all ok =
    let long = ok.long in
    let left : (k : ℕ) → length (drop k octets) ≡ length octets - k = λ k. length-drop k octets in
    let rest : List ℕ = take 2 (drop 2 octets) ++ (take 4 (drop 4 octets) ++ take 4 (drop 8 octets)) in
    let parts : take 12 octets ≡ take 2 octets ++ rest =
    take-add 2 10 octets
    ∙ ap (λ (x : List ℕ). take 2 octets ++ x) (take-add 2 8 (drop 2 octets)
    ∙ ap (λ (x : List ℕ). take 2 (drop 2 octets) ++ take 8 x) (drop-drop 2 2 octets)
    ∙ ap (λ (x : List ℕ). take 2 (drop 2 octets) ++ x) (take-add 4 4 (drop 4 octets)
    ∙ ap (λ (x : List ℕ). take 4 (drop 4 octets) ++ take 4 x) (drop-drop 4 4 octets))) in
    same_header (first_seen octets ok) (second_seen (slice_index octets 1) (all 1))
    (bytes-again_2 (drop 2 octets) (omega (arith, left 2)) (EachOctet-drop 2 octets all))
    (bytes-again_4 (drop 4 octets) (omega (arith, left 4)) (EachOctet-drop 4 octets all))
    (bytes-again_4 (drop 8 octets) (omega (arith, left 8)) (EachOctet-drop 8 octets all))
    ∙ ap (λ (x : List ℕ). x ++ rest) (sym (two octets (omega arith)))
    ∙ sym parts

-- the header extension, where there is one
abbrev extension_at : List ℕ → ℕ × List ℕ
extension_at octets = (big_number 2 (drop (sources_end octets) octets), words_at (word_count octets) (drop (sources_end octets + 4) octets))

same_parts : {a a' b b' c c' : List ℕ} → a ≡ a' → b ≡ b' → c ≡ c' → a ++ b ++ c ≡ a' ++ b' ++ c'
same_parts a b c = cc

extension_spelled : (octets : List ℕ) (start words : ℕ) → EachOctet octets → words ≡ big_number 2 (drop (start + 2) octets) → start + 4 + 4 * words ≤ length octets
    → extension_octets (Some (big_number 2 (drop start octets), words_at words (drop (start + 4) octets))) ≡ take (4 + 4 * words) (drop start octets)
extension_spelled octets start words all counted fits =
    let left : (k : ℕ) → length (drop k octets) ≡ length octets - k = λ k. length-drop k octets in
    let profile : big_bytes 2 (big_number 2 (drop start octets)) ≡ take 2 (drop start octets) =
    bytes-again_2 (drop start octets) (omega (arith, left start)) (EachOctet-drop start octets all) in
    let count : big_bytes 2 (length (words_at words (drop (start + 4) octets))) ≡ take 2 (drop 2 (drop start octets)) =
    ap (big_bytes 2) (length_words_at words (drop (start + 4) octets) ∙ counted)
    ∙ bytes-again_2 (drop (start + 2) octets) (omega (arith, left (start + 2))) (EachOctet-drop (start + 2) octets all)
    ∙ ap (take 2) (sym (drop-drop 2 start octets)) in
    let list : word_octets (words_at words (drop (start + 4) octets)) ≡ take (4 * words) (drop 4 (drop start octets)) =
    word_octets-words_at words (drop (start + 4) octets) (omega (arith, left (start + 4))) (EachOctet-drop (start + 4) octets all)
    ∙ ap (take (4 * words)) (sym (drop-drop 4 start octets)) in
    let four : take 4 (drop start octets) ≡ take 2 (drop start octets) ++ take 2 (drop 2 (drop start octets)) = take-add 2 2 (drop start octets) in
    same_parts profile count list
    ∙ ap (λ (x : List ℕ). x ++ take (4 * words) (drop 4 (drop start octets))) (sym four)
    ∙ sym (take-add 4 (4 * words) (drop start octets))

extension_seen : (octets : List ℕ) → EachOctet octets → Passes octets → extension_octets (extension_in octets) ≡ slice_range octets (sources_end octets) (header_end octets)
extension_seen octets all ok =
    elim (cases_Bool (is_extended octets)) [
      | inl extended ↦
          let end : header_end octets ≡ sources_end octets + 4 + 4 * word_count octets =
          ap (λ b. cond b (sources_end octets + 4 + 4 * word_count octets) (sources_end octets)) extended in
          let fits = ok.header in
          let size : header_end octets - sources_end octets ≡ 4 + 4 * word_count octets = omega (arith, end) in
          ap (λ b. extension_octets (cond b (Some (extension_at octets)) None)) extended
          ∙ extension_spelled octets (sources_end octets) (word_count octets) all refl (omega (arith, end, fits))
          ∙ ap (λ k. take k (drop (sources_end octets) octets)) (sym size)
      | inr plain ↦
          let end : header_end octets ≡ sources_end octets = ap (λ b. cond b (sources_end octets + 4 + 4 * word_count octets) (sources_end octets)) plain in
          let size : header_end octets - sources_end octets ≡ 0 = omega (arith, end) in
          ap (λ b. extension_octets (cond b (Some (extension_at octets)) None)) plain
          ∙ ap (λ k. take k (drop (sources_end octets) octets)) (sym size)
    ]

header_after : (octets : List ℕ) → sources_end octets ≤ header_end octets
header_after octets =
    cond_both (is_extended octets) (sources_end octets + 4 + 4 * word_count octets) (sources_end octets) (λ end. sources_end octets ≤ end)
    (λ _. omega arith) (λ _. omega arith)

padding_fits : (octets : List ℕ) → EachOctet octets → Passes octets → (padding_count octets < 256) × (header_end octets + padding_count octets ≤ length octets)
padding_fits octets all ok =
    let header = ok.header in
    elim (cases_Bool (is_padded octets)) [
      | inl padded ↦
          let counted = ok.padding padded in
          let octet : padding_count octets ≡ slice_index octets (length octets - 1) = ap (λ b. cond b (slice_index octets (length octets - 1)) 0) padded in
          (omega (arith, octet, all (length octets - 1)), omega (arith, counted.1))
      | inr plain ↦
          let none : padding_count octets ≡ 0 = ap (λ b. cond b (slice_index octets (length octets - 1)) 0) plain in
          (omega (arith, none), omega (arith, none, header))
    ]

padding_seen : (octets : List ℕ) → 0 < padding_count octets → is_padded octets ≡ true
padding_seen octets some =
    elim (cases_Bool (is_padded octets)) [
      | inl padded ↦ padded
      | inr plain ↦ let none : padding_count octets ≡ 0 = ap (λ b. cond b (slice_index octets (length octets - 1)) 0) plain in absurd (omega (arith, none, some))
    ]

pub packet_fits : (octets : List ℕ) → EachOctet octets → Passes octets → IsPacket (packet_in octets)
packet_fits octets all ok =
    record {
      payload_type = omega arith;
      sequence = number-fits 2 (drop 2 octets) (EachOctet-drop 2 octets all);
      timestamp = number-fits 4 (drop 4 octets) (EachOctet-drop 4 octets all);
      ssrc = number-fits 4 (drop 8 octets) (EachOctet-drop 8 octets all);
      source_count = omega (arith, length_words_at (source_count octets) (drop 12 octets));
      sources = words_at-words (source_count octets) (drop 12 octets) (EachOctet-drop 12 octets all);
      extension = cond_both (is_extended octets) (Some (extension_at octets)) None (λ e. IfSome e IsExtension)
          (λ _. record {
            profile = number-fits 2 (drop (sources_end octets) octets) (EachOctet-drop (sources_end octets) octets all);
            count = omega (arith, length_words_at (word_count octets) (drop (sources_end octets + 4) octets), number-fits 2 (drop (sources_end octets + 2) octets) (EachOctet-drop (sources_end octets + 2) octets all));
            words = words_at-words (word_count octets) (drop (sources_end octets + 4) octets) (EachOctet-drop (sources_end octets + 4) octets all);
          })
          (λ _. tt);
      payload = All-take (λ o. o < 2 ^ 8) _ _ (All-drop (λ o. o < 2 ^ 8) (header_end octets) octets (from_each octets all));
      padding = (padding_fits octets all ok).0;
      padded = λ some. let counted = ok.padding (padding_seen octets some) in
          omega (arith, counted.1, length-take (length octets - padding_count octets - header_end octets) (drop (header_end octets) octets), length-drop (header_end octets) octets);
    }

-- the words of the extension as they lie in the octets, from where the payload begins
pub extension_again : (octets : List ℕ) (start payload_start profile : ℕ) → EachOctet octets → Passes octets → is_extended octets ≡ true
    → start ≡ sources_end octets → payload_start ≡ header_end octets → profile ≡ big_number 2 (drop start octets)
    → ◌≡◌ {A = Option (ℕ × List ℕ)} (Some (profile, take (payload_start - (start + 4)) (drop (start + 4) octets)))
    (option_map {U = ℕ × List ℕ} (λ e. (e.0, word_octets e.1)) (extension_in octets))
extension_again octets start payload_start profile all ok extended sources payload_at read =
    let end : header_end octets ≡ sources_end octets + 4 + 4 * word_count octets =
    ap (λ b. cond b (sources_end octets + 4 + 4 * word_count octets) (sources_end octets)) extended in
    let fits = ok.header in
    let size : payload_start - (sources_end octets + 4) ≡ 4 * word_count octets = omega (arith, payload_at, end) in
    let words : word_octets (words_at (word_count octets) (drop (sources_end octets + 4) octets)) ≡ take (4 * word_count octets) (drop (sources_end octets + 4) octets) =
    word_octets-words_at (word_count octets) (drop (sources_end octets + 4) octets) (omega (arith, end, fits, length-drop (sources_end octets + 4) octets)) (EachOctet-drop (sources_end octets + 4) octets all) in
    let at : ℕ = sources_end octets in
    ap (λ x. Some (x, take (payload_start - (start + 4)) (drop (start + 4) octets))) read
    ∙ ap (λ k. Some (big_number 2 (drop k octets), take (payload_start - (k + 4)) (drop (k + 4) octets))) sources
    ∙ ap (λ k. Some (big_number 2 (drop at octets), take k (drop (sources_end octets + 4) octets))) size
    ∙ ap (λ (x : List ℕ). Some (big_number 2 (drop at octets), x)) (sym words)
    ∙ ap (λ b. option_map {U = ℕ × List ℕ} (λ (e : ℕ × List ℕ). (e.0, word_octets e.1)) (cond b (Some (extension_at octets)) None)) (sym extended)

pub seen-spelled : (octets : List ℕ) → EachOctet octets → rtp_fault octets ≡ None → RtpSpells (packet_in octets) octets
seen-spelled octets all none =
    let ok = passed octets none in
    let p = packet_in octets in
    let rest : List ℕ = drop (length octets - padding_count octets) octets in
    let fits = (padding_fits octets all ok).1 in
    let sources = ok.sources in
    let words : word_octets p.sources ≡ slice_range octets 12 (sources_end octets) =
    word_octets-words_at (source_count octets) (drop 12 octets) (omega (arith, sources, length-drop 12 octets)) (EachOctet-drop 12 octets all)
    ∙ ap (λ k. take k (drop 12 octets)) (omega arith) in
    let from_header : p.payload ++ rest ≡ drop (header_end octets) octets = join octets (header_end octets) (length octets - padding_count octets) (omega (arith, fits)) in
    let from_sources : extension_octets p.extension ++ drop (header_end octets) octets ≡ drop (sources_end octets) octets =
    ap (λ (x : List ℕ). x ++ drop (header_end octets) octets) (extension_seen octets all ok)
    ∙ join octets (sources_end octets) (header_end octets) (header_after octets) in
    let from_twelve : word_octets p.sources ++ drop (sources_end octets) octets ≡ drop 12 octets =
    ap (λ (x : List ℕ). x ++ drop (sources_end octets) octets) words ∙ join octets 12 (sources_end octets) (omega arith) in
    let from_start : fixed_header p ++ drop 12 octets ≡ octets =
    ap (λ (x : List ℕ). x ++ drop 12 octets) (header_seen octets all ok) ∙ take-append-drop 12 octets in
    let whole : unpadded p ++ rest ≡ octets =
    regrouped p rest
    ∙ ap (λ (x : List ℕ). fixed_header p ++ (word_octets p.sources ++ (extension_octets p.extension ++ x))) from_header
    ∙ ap (λ (x : List ℕ). fixed_header p ++ (word_octets p.sources ++ x)) from_sources
    ∙ ap (λ (x : List ℕ). fixed_header p ++ x) from_twelve
    ∙ from_start in
    record {
      packet = packet_fits octets all ok;
      padding = rest;
      padded = record {
        are_octets = All-drop (λ o. o < 2 ^ 8) _ octets (from_each octets all);
        as_long = length-drop (length octets - padding_count octets) octets ∙ omega (arith, fits);
        counted = λ some.
            let last : slice_index octets (length octets - 1) ≡ padding_count octets =
            sym (ap (λ b. cond b (slice_index octets (length octets - 1)) 0) (padding_seen octets some)) in
            get_or-drop (length octets - padding_count octets) octets (padding_count octets - 1) 0
            ∙ ap (slice_index octets) (omega (arith, fits, some)) ∙ last;
      };
      spelled = sym whole;
    }
