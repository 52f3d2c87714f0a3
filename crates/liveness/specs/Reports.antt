-- Extended reports (RFC 3611, section 2): version 2 without padding, packet type 207, the number of words of 32 bits,
-- less one, the SSRC of who sends it, and one block, which has its type, an octet of its own, and how many words
-- follow.
use Rattle.std.specs.Prelude.{ℕ, ◌+◌, ◌*◌, ◌/◌, ◌%◌, ◌^◌, ◌<◌, List, ◌∷◌, ◌++◌}
use Rattle.byteorder.specs.Endian.{big_bytes}
use Rattle.liveness.specs.declared.reference.ReferenceTime.{ReferenceTime}
use Rattle.liveness.specs.declared.answer.Answer.{Answer}

-- what a reference time can hold
pub record IsReference (time : ReferenceTime) : Type 0 where
  pub ssrc : time.ssrc < 2 ^ 32
  pub seconds : time.seconds < 2 ^ 32
  pub fraction : time.fraction < 2 ^ 32

-- a block of type 4, and two words: a time (section 4.4)
abbrev pub reference_octets : ReferenceTime → List ℕ
reference_octets time =
    128 ∷ 207 ∷ 0 ∷ 4 ∷ big_bytes 4 time.ssrc ++ (4 ∷ 0 ∷ 0 ∷ 2 ∷ big_bytes 4 time.seconds ++ big_bytes 4 time.fraction)

-- the middle 32 bits of a time
abbrev pub middle : ReferenceTime → ℕ
middle time = time.seconds % 65536 * 65536 + time.fraction / 65536

-- what an answer can hold
pub record IsAnswer (answer : Answer) : Type 0 where
  pub ssrc : answer.ssrc < 2 ^ 32
  pub receiver : answer.receiver < 2 ^ 32
  pub last : answer.last < 2 ^ 32
  pub delay : answer.delay < 2 ^ 32
  pub media : answer.media < 2 ^ 32
  pub first : answer.first < 2 ^ 64

-- a block of type 5, and three words: whose time is answered, its middle bits, and how long ago it came (section 4.5)
abbrev pub delay_octets : Answer → List ℕ
delay_octets answer =
    128 ∷ 207 ∷ 0 ∷ 5 ∷ big_bytes 4 answer.ssrc
    ++ (5 ∷ 0 ∷ 0 ∷ 3 ∷ big_bytes 4 answer.receiver ++ big_bytes 4 answer.last ++ big_bytes 4 answer.delay)

-- A packet that an application defines: packet type 204, its name, here "Gozd", and its octets, here the media's SSRC
-- and an index (RFC 3550, section 6.7).
abbrev pub first_octets : Answer → List ℕ
first_octets answer =
    128 ∷ 204 ∷ 0 ∷ 5 ∷ big_bytes 4 answer.ssrc ++ (71 ∷ 111 ∷ 122 ∷ 100 ∷ big_bytes 4 answer.media ++ big_bytes 8 answer.first)

abbrev pub answer_octets : Answer → List ℕ
answer_octets answer = delay_octets answer ++ first_octets answer
