-- Key derivation (RFC 3711, section 4.3) with key derivation rate 0: the index divided by the rate, r, is 0 for every packet.
use Rattle.std.specs.Prelude.{◌≡◌, ℕ, ◌+◌, Bool, true, false, ◌∷◌, List, ◌++◌, replicate, take}
use Rattle.srtp.specs.Octets.{xor_octets}
use Rattle.srtp.specs.Aes.{AreRoundKeys}
use Rattle.srtp.specs.Counter.{keystream, block_count}
use Rattle.srtp.specs.Hmac.{IsKeyed}
use Rattle.srtp.specs.declared.keys.MasterKey.{MasterKey}
use Rattle.srtp.specs.declared.keys.SessionKeys.{SessionKeys}
use Rattle.srtp.specs.declared.keys.Profile.{Profile}
use Rattle.srtp.specs.declared.keys.Profile.TheVariants.{NullHmacSha1, Aes128CmHmacSha1}

-- key_id is the label, in 8 bits, and r, in 48: its octets, with zeros before them up to the length of a salt
abbrev pub key_id : ℕ → List ℕ
key_id label = replicate 7 0 ++ label ∷ replicate 6 0

-- x = key_id XOR master_salt, and the first n octets of the keystream that AES makes of x 2^16 under the master key (section 4.3.3)
unfoldable pub derived : (key salt : List ℕ) (label n : ℕ) → List ℕ
derived key salt label n = take n (keystream key (xor_octets salt (key_id label)) (block_count n))

-- the master key and its salt
pub record IsMaster (master : MasterKey) (key salt : List ℕ) : Type 0 where
  pub cipher : AreRoundKeys master.aes.keys key
  pub salted : master.salt ≡ salt

-- what protects packets under one SSRC: whether they are encrypted, with which key and salt, and the key of their tags
pub record Keys : Type 0 where
  pub encrypts : Bool
  pub cipher : List ℕ
  pub salt : List ℕ
  pub auth : List ℕ

-- Whether a profile encrypts (RFC 5764, section 4.1.2).
abbrev pub profile_encrypts : Profile → Bool
profile_encrypts NullHmacSha1 = false
profile_encrypts Aes128CmHmacSha1 = true

-- The labels of encryption key, authentication key and salt follow one another (sections 4.3.1 and 4.3.2).
abbrev pub session_keys : Profile → (key salt : List ℕ) → ℕ → Keys
session_keys profile key salt label =
    record {
      encrypts = profile_encrypts profile;
      cipher = derived key salt label 16;
      auth = derived key salt (label + 1) 20;
      salt = derived key salt (label + 2) 14;
    }

-- labels 0 to 2 are those of SRTP, and 3 to 5 those of SRTCP
abbrev pub rtp_keys : Profile → (key salt : List ℕ) → Keys
rtp_keys profile key salt = session_keys profile key salt 0

abbrev pub rtcp_keys : Profile → (key salt : List ℕ) → Keys
rtcp_keys profile key salt = session_keys profile key salt 3

-- the keys, made ready
pub record AreKeys (made : SessionKeys) (keys : Keys) : Type 0 where
  pub encrypts : made.encrypts ≡ keys.encrypts
  pub cipher : AreRoundKeys made.aes.keys keys.cipher
  pub salt : made.salt ≡ keys.salt
  pub auth : IsKeyed made.hmac keys.auth
