-- How a packet of RTP is protected (RFC 3711, section 3.1): what is behind the header is encrypted, and behind that stands a tag of
-- 80 bits, which is made of the packet and of the rollover counter (sections 4.2 and 4.2.1).
use Rattle.std.specs.Prelude.{ℕ, Bool, true, false, ◌/◌, ◌==◌, ◌&&◌, List, [], ◌∷◌, ◌++◌, take, drop, if◌then◌else◌}
use Rattle.byteorder.specs.Endian.{big_bytes}
use Rattle.srtp.specs.Hmac.{hmac_sha1}
use Rattle.srtp.specs.Counter.{counter_base, encrypted}
use Rattle.srtp.specs.Derivation.{Keys}

-- What is behind so many octets, encrypted with the key's counter mode under this SSRC and index, where the keys encrypt.
unfoldable pub enciphered : Keys → (clear ssrc index : ℕ) → List ℕ → List ℕ
enciphered keys clear ssrc index octets =
    if keys.encrypts
    then take clear octets ++ encrypted keys.cipher (counter_base keys.salt ssrc index) (drop clear octets)
    else octets

-- the first 80 bits of the code of the octets and of what is put behind them
unfoldable pub tag_of : Keys → (octets behind : List ℕ) → List ℕ
tag_of keys octets behind = take 10 (hmac_sha1 keys.auth (octets ++ behind))

-- the rollover counter: what is above the lowest 16 bits of an index, in 32 bits
abbrev pub rollover_octets : ℕ → List ℕ
rollover_octets index = big_bytes 4 (index / 65536)

-- two lists have the same octets
abbrev pub same_octets : List ℕ → List ℕ → Bool
same_octets [] [] = true
same_octets [] (y ∷ ys) = false
same_octets (x ∷ xs) [] = false
same_octets (x ∷ xs) (y ∷ ys) = (x == y) && same_octets xs ys
