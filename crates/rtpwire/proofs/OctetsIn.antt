-- Where octets are, and that what is spelled is octets.
use Rattle.std.proofs.Common.{ℕ, zero, suc, ◌/◌, ◌%◌, ◌^◌, ◌<◌, ◌≤◌, Bool, true, false, List, [], ◌∷◌, ◌++◌, length, replicate, Option, Some, None, is_some, nat_lt, arith, subst, sym}
use Rattle.std.proofs.lemmas.List.Elements.{All-nil, All-cons, All-head, All-tail, All-append, All-replicate, All-from_get_or}
use Rattle.byteorder.specs.Endian.{big_bytes}
use Rattle.rtpwire.specs.Rtp.{RtpPacket, RtpSpells, IsPacket, AreOctets, bit, first_octet, second_octet, fixed_header, word_octets, extension_octets, header, unpadded}
use Rattle.rtpwire.proofs.Numbers.{EachOctet}

abbrev IsOctet : ℕ → Type 0
IsOctet o = o < 2 ^ 8

pub from_each : (octets : List ℕ) → EachOctet octets → AreOctets octets
from_each octets each = All-from_get_or IsOctet octets 0 (λ i within. each i)

pub each_of : (octets : List ℕ) → AreOctets octets → EachOctet octets
each_of [] all i = omega arith
each_of (o ∷ octets) all zero = All-head IsOctet o octets all
each_of (o ∷ octets) all (suc i) = each_of octets (All-tail IsOctet o octets all) i

both : (a b : List ℕ) → AreOctets a → AreOctets b → AreOctets (a ++ b)
both a b x y = All-append IsOctet a b x y

one : (o : ℕ) (octets : List ℕ) → o < 256 → AreOctets octets → AreOctets (o ∷ octets)
one o octets fits all = All-cons IsOctet o octets fits all

two_octets : (x : ℕ) → AreOctets (big_bytes 2 x)
two_octets x = one (x / 256 % 256) (x % 256 ∷ []) (omega arith) (one (x % 256) [] (omega arith) (All-nil IsOctet))

four_octets : (x : ℕ) → AreOctets (big_bytes 4 x)
four_octets x =
    one (x / 16777216 % 256) (x / 65536 % 256 ∷ x / 256 % 256 ∷ x % 256 ∷ []) (omega arith)
    (one (x / 65536 % 256) (x / 256 % 256 ∷ x % 256 ∷ []) (omega arith) (two_octets x))

words_are_octets : (words : List ℕ) → AreOctets (word_octets words)
words_are_octets [] = All-nil IsOctet
words_are_octets (w ∷ words) = both (big_bytes 4 w) (word_octets words) (four_octets w) (words_are_octets words)

extension_is_octets : (extension : Option (ℕ × List ℕ)) → AreOctets (extension_octets extension)
extension_is_octets None = All-nil IsOctet
extension_is_octets (Some e) =
    both (big_bytes 2 e.0 ++ big_bytes 2 (length e.1)) (word_octets e.1)
    (both (big_bytes 2 e.0) (big_bytes 2 (length e.1)) (two_octets e.0) (two_octets (length e.1))) (words_are_octets e.1)

bit-small : (b : Bool) → bit b ≤ 1
bit-small true = omega arith
bit-small false = omega arith

header_is_octets : (p : RtpPacket) → IsPacket p → AreOctets (header p)
header_is_octets p fits =
    let padded = bit-small (nat_lt 0 p.padding) in
    let extended = bit-small (is_some p.extension) in
    let marked = bit-small p.marker in
    let count = fits.source_count in
    let small = fits.payload_type in
    let numbers : List ℕ = big_bytes 2 p.sequence ++ big_bytes 4 p.timestamp ++ big_bytes 4 p.ssrc in
    let fixed : AreOctets (fixed_header p) =
    one (first_octet p) (second_octet p ∷ numbers) (omega (arith, padded, extended, count)) (one (second_octet p) numbers (omega (arith, marked, small))
    (both (big_bytes 2 p.sequence ++ big_bytes 4 p.timestamp) (big_bytes 4 p.ssrc)
    (both (big_bytes 2 p.sequence) (big_bytes 4 p.timestamp) (two_octets p.sequence) (four_octets p.timestamp)) (four_octets p.ssrc))) in
    both (fixed_header p ++ word_octets p.sources) (extension_octets p.extension) (both (fixed_header p) (word_octets p.sources) fixed (words_are_octets p.sources)) (extension_is_octets p.extension)

pub spelled_octets : (p : RtpPacket) (octets : List ℕ) → RtpSpells p octets → AreOctets octets
spelled_octets p octets s =
    subst AreOctets (sym s.spelled)
    (both (unpadded p) s.padding (both (header p) p.payload (header_is_octets p s.packet) s.packet.payload) s.padded.are_octets)

-- zeros, and a count
pub zeros_and : (zeros count : ℕ) → count < 256 → AreOctets (replicate zeros 0 ++ count ∷ [])
zeros_and zeros count fits =
    both (replicate zeros 0) (count ∷ []) (All-replicate IsOctet zeros 0 (omega arith)) (one count [] fits (All-nil IsOctet))

-- a number of 16 bits, and octets
pub number_and : (x : ℕ) (octets : List ℕ) → AreOctets octets → AreOctets (big_bytes 2 x ++ octets)
number_and x octets all = both (big_bytes 2 x) octets (two_octets x) all
