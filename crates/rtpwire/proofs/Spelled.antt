-- Octets that spell a packet: no check refuses them, and a reader sees that packet in them.
use Rattle.std.proofs.Common.{◌≡◌, ℕ, zero, suc, ◌+◌, ◌-◌, ◌*◌, ◌%◌, ◌<◌, ◌==◌, Bool, true, false, cond, List, ◌++◌, length, take, drop, get_or, slice_index, Option, Some, None, is_some, IfSome, nat_lt, nat_le, arith, refl, sym, ◌∙◌, ap, append_assoc, length-append, ltb-true, add-zero}
use Rattle.std.proofs.lemmas.Bool.{lt-ltb, le-leb, lt-leb}
use Rattle.std.proofs.lemmas.List.{drop-drop, drop_at, take_at, get_or-append-add}
use Rattle.byteorder.specs.Endian.{big_bytes, big_number}
use Rattle.rtpwire.specs.Rtp.{RtpPacket, RtpSpells, IsPadding, IsExtension, bit, fixed_header, word_octets, extension_octets, unpadded}
use Rattle.rtpwire.specs.RtpChecks.{version_of, is_padded, is_extended, source_count, sources_end, word_count, header_end, padding_count}
use Rattle.rtpwire.specs.RtpReading.{words_at, extension_in, packet_in}
use Rattle.rtpwire.proofs.Numbers.{number-again}
use Rattle.rtpwire.proofs.WordsIn.{length-word_octets, words_at-word_octets}
use Rattle.rtpwire.proofs.Checks.{Passes, first-version, first-count, first-padded, first-extended, bit-again}

-- the second octet
second-marker : (m : Bool) (t : ℕ) → t < 128 → nat_le 128 (128 * bit m + t) ≡ m
second-marker true t small = le-leb _ _ (omega arith)
second-marker false t small = lt-leb _ _ (omega arith)

second-type : (m : Bool) (t : ℕ) → t < 128 → (128 * bit m + t) % 128 ≡ t
second-type true t small = omega arith
second-type false t small = omega arith

-- the header extension
record Extended (octets : List ℕ) (extension : Option (ℕ × List ℕ)) : Type 0 where
  end : header_end octets ≡ sources_end octets + length (extension_octets extension)
  seen : extension_in octets ≡ extension

extended : (octets : List ℕ) (extension : Option (ℕ × List ℕ)) (rest : List ℕ) → IfSome extension IsExtension → is_extended octets ≡ is_some extension
    → drop (sources_end octets) octets ≡ extension_octets extension ++ rest → Extended octets extension
extended octets None rest fits plain at =
    record {
      end = ap (λ b. cond b (sources_end octets + 4 + 4 * word_count octets) (sources_end octets)) plain ∙ sym (add-zero (sources_end octets));
      seen = ap (λ b. cond b (Some (big_number 2 (drop (sources_end octets) octets), words_at (word_count octets) (drop (sources_end octets + 4) octets))) None) plain;
    }
extended octets (Some e) rest fits is_there at =
    let words : drop (sources_end octets + 4) octets ≡ word_octets e.1 ++ rest = sym (drop-drop 4 (sources_end octets) octets) ∙ ap (drop 4) at in
    let counted : drop (sources_end octets + 2) octets ≡ big_bytes 2 (length e.1) ++ (word_octets e.1 ++ rest) = sym (drop-drop 2 (sources_end octets) octets) ∙ ap (drop 2) at in
    let count : word_count octets ≡ length e.1 = ap (big_number 2) counted ∙ number-again 2 (length e.1) (word_octets e.1 ++ rest) fits.count in
    let profile : big_number 2 (drop (sources_end octets) octets) ≡ e.0 = ap (big_number 2) at ∙ number-again 2 e.0 (big_bytes 2 (length e.1) ++ (word_octets e.1 ++ rest)) fits.profile in
    let read : words_at (word_count octets) (drop (sources_end octets + 4) octets) ≡ e.1 =
    ap (λ n. words_at n (drop (sources_end octets + 4) octets)) count ∙ ap (words_at (length e.1)) words ∙ words_at-word_octets e.1 rest fits.words in
    let long : length (word_octets e.1) ≡ 4 * length e.1 = length-word_octets e.1 in
    let size : length (extension_octets (Some e)) ≡ 4 + 4 * length e.1 = omega arith in
    let end : sources_end octets + 4 + 4 * word_count octets ≡ sources_end octets + length (extension_octets (Some e)) = omega (arith, size, count) in
    record {
      end = ap (λ b. cond b (sources_end octets + 4 + 4 * word_count octets) (sources_end octets)) is_there ∙ end;
      seen = ap (λ b. cond b (Some (big_number 2 (drop (sources_end octets) octets), words_at (word_count octets) (drop (sources_end octets + 4) octets))) None) is_there
          ∙ ap (λ x. Some (x, words_at (word_count octets) (drop (sources_end octets + 4) octets))) profile
          ∙ ap (λ x. Some (e.0, x)) read;
    }

-- the padding
counted : (octets front padding : List ℕ) (n : ℕ) → octets ≡ front ++ padding → IsPadding n padding → is_padded octets ≡ nat_lt 0 n → padding_count octets ≡ n
counted octets front padding zero split is plain =
    ap (λ b. cond b (slice_index octets (length octets - 1)) 0) plain
counted octets front padding (suc k) split is padded =
    let total : length octets ≡ length front + length padding = ap length split ∙ length-append front padding in
    let long = is.as_long in
    let at : length octets - 1 ≡ length front + k = omega arith in
    let last : slice_index octets (length octets - 1) ≡ suc k =
    ap (slice_index octets) at ∙ ap (λ (x : List ℕ). get_or x (length front + k) 0) split ∙ get_or-append-add front padding k 0
    ∙ ap (slice_index padding) (omega arith) ∙ is.counted (omega arith) in
    ap (λ b. cond b (slice_index octets (length octets - 1)) 0) (padded ∙ lt-ltb 0 (suc k) (omega arith)) ∙ last

abbrev packet : Bool → (payload_type sequence timestamp ssrc : ℕ) → List ℕ → Option (ℕ × List ℕ) → List ℕ → ℕ → RtpPacket
packet marker payload_type sequence timestamp ssrc sources extension payload padding =
    record {
      marker = marker;
      payload_type = payload_type;
      sequence = sequence;
      timestamp = timestamp;
      ssrc = ssrc;
      sources = sources;
      extension = extension;
      payload = payload;
      padding = padding;
    }

-- what follows the fixed header
abbrev pub tail_of : RtpPacket → List ℕ → List ℕ
tail_of p padding = word_octets p.sources ++ (extension_octets p.extension ++ (p.payload ++ padding))

pub regrouped : (p : RtpPacket) (padding : List ℕ) → unpadded p ++ padding ≡ fixed_header p ++ tail_of p padding
regrouped p padding = simp append_assoc

-- packets with equal fields are one
same_packet : {m m' : Bool} {t t' s s' a a' b b' : ℕ} {c c' : List ℕ} {e e' : Option (ℕ × List ℕ)} {d d' : List ℕ} {n n' : ℕ}
    → m ≡ m' → t ≡ t' → s ≡ s' → a ≡ a' → b ≡ b' → c ≡ c' → e ≡ e' → d ≡ d' → n ≡ n'
    → packet m t s a b c e d n ≡ packet m' t' s' a' b' c' e' d' n'
same_packet m t s a b c e d n = cc

pub record Spelled (p : RtpPacket) (octets : List ℕ) : Type 0 where
  pub passes : Passes octets
  pub seen : packet_in octets ≡ p

pub spelled : (p : RtpPacket) (octets : List ℕ) → RtpSpells p octets → Spelled p octets
spelled p octets s =
    let k = s.packet in
    let n = length p.sources in
    let most = k.source_count in
    let few : n < 16 = omega (arith, most) in
    let split : octets ≡ fixed_header p ++ tail_of p s.padding = s.spelled ∙ regrouped p s.padding in
    let count : source_count octets ≡ n = ap source_count split ∙ first-count (nat_lt 0 p.padding) (is_some p.extension) n few in
    let version : version_of octets ≡ 2 = ap version_of split ∙ first-version (nat_lt 0 p.padding) (is_some p.extension) n few in
    let padded : is_padded octets ≡ nat_lt 0 p.padding =
    ap is_padded split ∙ ap (λ x. x == 1) (first-padded (nat_lt 0 p.padding) (is_some p.extension) n few) ∙ bit-again (nat_lt 0 p.padding) in
    let extension : is_extended octets ≡ is_some p.extension =
    ap is_extended split ∙ ap (λ x. x == 1) (first-extended (nat_lt 0 p.padding) (is_some p.extension) n few) ∙ bit-again (is_some p.extension) in
    let sources : sources_end octets ≡ 12 + 4 * n = ap (λ x. 12 + 4 * x) count in
    let words = length-word_octets p.sources in
    let after_sources : drop (sources_end octets) octets ≡ extension_octets p.extension ++ (p.payload ++ s.padding) =
    ap (λ x. drop x octets) sources ∙ ap (drop (12 + 4 * n)) split
    ∙ sym (drop-drop (4 * n) 12 (fixed_header p ++ tail_of p s.padding))
    ∙ drop_at (word_octets p.sources) (extension_octets p.extension ++ (p.payload ++ s.padding)) (4 * n) words in
    let header = extended octets p.extension (p.payload ++ s.padding) k.extension extension after_sources in
    let end = header.end in
    let after_header : drop (header_end octets) octets ≡ p.payload ++ s.padding =
    ap (λ x. drop x octets) end ∙ sym (drop-drop (length (extension_octets p.extension)) (sources_end octets) octets)
    ∙ ap (drop (length (extension_octets p.extension))) after_sources
    ∙ drop_at (extension_octets p.extension) (p.payload ++ s.padding) _ refl in
    let size : length octets ≡ 12 + 4 * n + length (extension_octets p.extension) + length p.payload + length s.padding =
    ap length split ∙ omega (
      arith,
      words,
      length-append (word_octets p.sources) (extension_octets p.extension ++ (p.payload ++ s.padding)),
      length-append (extension_octets p.extension) (p.payload ++ s.padding),
      length-append p.payload s.padding,
    ) in
    let padding : padding_count octets ≡ p.padding = counted octets (unpadded p) s.padding p.padding s.spelled s.padded padded in
    let long = s.padded.as_long in
    let payload_size : length octets - padding_count octets - header_end octets ≡ length p.payload = omega arith in
    let payload : take (length octets - padding_count octets - header_end octets) (drop (header_end octets) octets) ≡ p.payload =
    ap (λ x. take x (drop (header_end octets) octets)) payload_size ∙ ap (take (length p.payload)) after_header ∙ take_at p.payload s.padding _ refl in
    record {
      passes = record {
        long = omega arith;
        version = version;
        sources = omega arith;
        header = omega arith;
        padding = λ there.
            let some : 0 < p.padding = ltb-true _ _ (sym padded ∙ there) in
            let payload_there = k.padded some in
            (omega arith, omega arith);
      };
      seen =
          let marker : nat_le 128 (slice_index octets 1) ≡ p.marker = ap (λ (x : List ℕ). nat_le 128 (slice_index x 1)) split ∙ second-marker p.marker p.payload_type k.payload_type in
          let payload_type : slice_index octets 1 % 128 ≡ p.payload_type = ap (λ (x : List ℕ). slice_index x 1 % 128) split ∙ second-type p.marker p.payload_type k.payload_type in
          let sequence : big_number 2 (drop 2 octets) ≡ p.sequence =
          ap (λ (x : List ℕ). big_number 2 (drop 2 x)) split ∙ number-again 2 p.sequence (big_bytes 4 p.timestamp ++ (big_bytes 4 p.ssrc ++ tail_of p s.padding)) k.sequence in
          let timestamp : big_number 4 (drop 4 octets) ≡ p.timestamp =
          ap (λ (x : List ℕ). big_number 4 (drop 4 x)) split ∙ number-again 4 p.timestamp (big_bytes 4 p.ssrc ++ tail_of p s.padding) k.timestamp in
          let ssrc : big_number 4 (drop 8 octets) ≡ p.ssrc =
          ap (λ (x : List ℕ). big_number 4 (drop 8 x)) split ∙ number-again 4 p.ssrc (tail_of p s.padding) k.ssrc in
          let list : words_at (source_count octets) (drop 12 octets) ≡ p.sources =
          ap (λ x. words_at x (drop 12 octets)) count ∙ ap (λ (x : List ℕ). words_at n (drop 12 x)) split
          ∙ words_at-word_octets p.sources (extension_octets p.extension ++ (p.payload ++ s.padding)) k.sources in
          let seen_extension = header.seen in
          same_packet marker payload_type sequence timestamp ssrc list seen_extension payload padding;
    }
