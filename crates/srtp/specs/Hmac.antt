-- HMAC-SHA-1 (RFC 2104, section 2), with SHA-1 as FIPS 180-4 defines it.
use Rattle.std.specs.Prelude.{ℕ, ◌-◌, List, ◌++◌, length, replicate, nat_lt, if◌then◌else◌}
use Rattle.sha1.specs.Sha1.{Holds, sha1}
use Rattle.srtp.specs.Octets.{xor_octets}
use Rattle.srtp.specs.declared.hmac.HmacSha1.{HmacSha1}

-- a key longer than a block of B = 64 octets is hashed first
abbrev pub hashed_key : List ℕ → List ℕ
hashed_key key = if nat_lt 64 (length key) then sha1 key else key

-- step 1: the key with zeros behind it, B octets in all
abbrev pub block_key : List ℕ → List ℕ
block_key key = hashed_key key ++ replicate (64 - length (hashed_key key)) 0

-- steps 2 and 5: the key by exclusive or with ipad, the octet 0x36 repeated B times, and with opad, the octet 0x5C
abbrev pub inner_key : List ℕ → List ℕ
inner_key key = xor_octets (block_key key) (replicate 64 0x36)

abbrev pub outer_key : List ℕ → List ℕ
outer_key key = xor_octets (block_key key) (replicate 64 0x5c)

-- H(K XOR opad, H(K XOR ipad, text))
unfoldable pub hmac_sha1 : (key text : List ℕ) → List ℕ
hmac_sha1 key text = sha1 (outer_key key ++ sha1 (inner_key key ++ text))

-- the states of the two hashes after the key's blocks are those of this key
unfoldable pub IsKeyed : HmacSha1 → List ℕ → Type 0
IsKeyed hmac key = Holds hmac.inner (inner_key key) × Holds hmac.outer (outer_key key)
