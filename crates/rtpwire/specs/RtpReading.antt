-- What a reader of octets sees in them: each field where RFC 3550, section 5.1, has it. That the octets
-- spell this packet, and no other, is proved.
use Rattle.std.specs.Prelude.{◌≡◌, ℕ, zero, suc, ◌+◌, ◌-◌, ◌%◌, ◌^◌, ◌<◌, nat_le, List, [], ◌∷◌, length, drop, slice_index, slice_range, Option, Some, None, if◌then◌else◌}
use Rattle.byteorder.specs.Endian.{big_number}
use Rattle.rtpwire.specs.Rtp.{RtpPacket}
use Rattle.rtpwire.specs.RtpChecks.{is_extended, source_count, sources_end, word_count, header_end, padding_count, rtp_fault}

-- the first words of 32 bits, so many of them
abbrev pub words_at : ℕ → List ℕ → List ℕ
words_at zero octets = []
words_at (suc n) octets = big_number 4 octets ∷ words_at n (drop 4 octets)

abbrev pub extension_in : List ℕ → Option (ℕ × List ℕ)
extension_in octets =
    if is_extended octets
    then Some (big_number 2 (drop (sources_end octets) octets), words_at (word_count octets) (drop (sources_end octets + 4) octets))
    else None

abbrev pub packet_in : List ℕ → RtpPacket
packet_in octets =
    record {
      marker = nat_le 128 (slice_index octets 1);
      payload_type = slice_index octets 1 % 128;
      sequence = big_number 2 (drop 2 octets);
      timestamp = big_number 4 (drop 4 octets);
      ssrc = big_number 4 (drop 8 octets);
      sources = words_at (source_count octets) (drop 12 octets);
      extension = extension_in octets;
      payload = slice_range octets (header_end octets) (length octets - padding_count octets);
      padding = padding_count octets;
    }

-- What a view keeps: octets that pass every check, and where their payload begins and ends.
pub record IsView (octets : List ℕ) (payload_start payload_end : ℕ) : Type 0 where
  pub are_octets : (i : ℕ) → slice_index octets i < 2 ^ 8
  pub passes : rtp_fault octets ≡ None
  pub start : payload_start ≡ header_end octets
  pub end : payload_end ≡ length octets - padding_count octets
