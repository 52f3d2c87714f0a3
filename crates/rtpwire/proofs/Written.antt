-- What is written spells the packet.
use Rattle.std.proofs.Common.{◌≡◌, ℕ, zero, suc, ◌+◌, ◌-◌, ◌^◌, ◌<◌, ◌≤◌, cond, List, [], ◌∷◌, ◌++◌, length, take, drop, replicate, slice_index, slice_set, get_or, drop-cons, append_assoc, refl, sym, subst, ◌∙◌, ap, arith, length-append}
use Rattle.std.proofs.lemmas.List.{length-replicate, get_or_at, set_at}
use Rattle.std.proofs.Math.Seq.{take-append_seam}
use Rattle.rtpwire.specs.Buffer.{in_front}
use Rattle.rtpwire.specs.Retransmission.{Repair, repair_packet}
use Rattle.rtpwire.specs.Rtp.{RtpPacket, RtpSpells, AreOctets, IsPacket, IsPadding, unpadded, written, written_padding}
use Rattle.std.proofs.lemmas.List.Elements.{All-nil}
use Rattle.rtpwire.proofs.Checks.{eqb-positive}
use Rattle.rtpwire.proofs.OctetsIn.{zeros_and, number_and}

pub written_padding-some : (count : ℕ) → 0 < count → written_padding count ≡ replicate (count - 1) 0 ++ count ∷ []
written_padding-some count some = ap (λ b. cond b [] (replicate (count - 1) 0 ++ count ∷ [])) (eqb-positive count some)

written_padding-is : (count : ℕ) → count < 2 ^ 8 → IsPadding count (written_padding count)
written_padding-is zero small = record { are_octets = All-nil (λ o. o < 2 ^ 8); as_long = refl; counted = λ some. absurd (omega arith) }
written_padding-is (suc n) small =
    let is = written_padding-some (suc n) (omega arith) in
    let less : suc n - 1 ≡ n = omega arith in
    record {
      are_octets = subst AreOctets (sym is) (zeros_and (suc n - 1) (suc n) small);
      as_long = ap length is ∙ omega (arith, length-append (replicate (suc n - 1) 0) (suc n ∷ []), length-replicate {A = ℕ} (suc n - 1) 0, less);
      counted = λ _. ap (λ (x : List ℕ). slice_index x (suc n - 1)) is
          ∙ get_or_at (replicate (suc n - 1) 0) (suc n) [] 0 (suc n - 1) (length-replicate {A = ℕ} (suc n - 1) 0);
    }

pub length-written_padding : (count : ℕ) → count < 2 ^ 8 → length (written_padding count) ≡ count
length-written_padding count small = (written_padding-is count small).as_long

pub written-spelled : (p : RtpPacket) → IsPacket p → RtpSpells p (written p)
written-spelled p fits = record { packet = fits; padding = written_padding p.padding; padded = written_padding-is p.padding fits.padding; spelled = refl }

-- and so do the first octets of a buffer that it stands in front of
pub front-written : (p : RtpPacket) (old new : List ℕ) (n : ℕ) → IsPacket p → new ≡ in_front (written p) old → n ≡ length (written p) → RtpSpells p (take n new)
front-written p old new n fits is count =
    let taken : take n new ≡ written p =
    ap (λ k. take k new) count
    ∙ ap (take (length (written p))) is
    ∙ take-append_seam (written p) (drop (length (written p)) old) in
    subst (λ (octets : List ℕ). RtpSpells p octets) (sym taken) (written-spelled p fits)

-- and so they do where it was written there in parts
pub front-spelled : (p : RtpPacket) (header payload old new : List ℕ) (n : ℕ) → IsPacket p → header ++ payload ≡ unpadded p → new ≡ in_front (header ++ payload ++ written_padding p.padding) old
    → n ≡ length header + length payload + p.padding → RtpSpells p (take n new)
front-spelled p header payload old new n fits same is count =
    let padding : List ℕ = written_padding p.padding in
    let size : length padding ≡ p.padding = length-written_padding p.padding fits.padding in
    let whole : header ++ payload ++ padding ≡ written p = ap (λ (x : List ℕ). x ++ padding) same in
    let len : n ≡ length (header ++ payload ++ padding) = omega (arith, count, size, length-append (header ++ payload) padding, length-append header payload) in
    front-written p old new n fits (is ∙ ap (λ (x : List ℕ). in_front x old) whole) (len ∙ ap length whole)

-- A retransmission is a packet where its packet with the original payload alone is one.
pub repair-packet : (r : Repair) → IsPacket r.packet → IsPacket (repair_packet r)
repair-packet r is =
    record {
      payload_type = is.payload_type;
      sequence = is.sequence;
      timestamp = is.timestamp;
      ssrc = is.ssrc;
      source_count = is.source_count;
      sources = is.sources;
      extension = is.extension;
      payload = number_and r.original r.packet.payload is.payload;
      padding = is.padding;
      padded = λ _. omega arith;
    }

-- Zeros are written to the front of a buffer, and their count behind them.
pub zeros-counted : (count before : ℕ) (zeros old new : List ℕ) → 0 < count → count < 2 ^ 8 → before ≡ count - 1 → count ≤ length old → zeros ≡ replicate before 0 → new ≡ in_front zeros old
    → slice_set new before count ≡ in_front (written_padding count) old
zeros-counted count before zeros old new some small less room are_zeros is =
    let size : length (replicate {A = ℕ} before 0) ≡ before = length-replicate {A = ℕ} before 0 in
    let behind : drop before old ≡ get_or old before 0 ∷ drop (suc before) old = drop-cons old before 0 (omega arith) in
    let end : suc before ≡ length (written_padding count) = omega (arith, length-written_padding count small) in
    ap (λ (x : List ℕ). slice_set x before count)
    (is
    ∙ ap (λ (x : List ℕ). in_front x old) are_zeros
    ∙ ap (λ k. replicate before 0 ++ drop k old) size
    ∙ ap (λ (x : List ℕ). replicate before 0 ++ x) behind)
    ∙ set_at (replicate before 0) (get_or old before 0) (drop (suc before) old) count before size
    ∙ sym (append_assoc (replicate before 0) (count ∷ []) (drop (suc before) old))
    ∙ ap (λ k. (replicate before 0 ++ count ∷ []) ++ drop k old) end
    ∙ ap (λ (x : List ℕ). x ++ drop (length (written_padding count)) old) (ap (λ k. replicate k 0 ++ count ∷ []) less ∙ sym (written_padding-some count some))
