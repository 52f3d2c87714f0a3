-- Datagrams on a stream, each behind its length (RFC 4571, section 2).
use Rattle.std.specs.Prelude.{◌≡◌, ℕ, Bool, ◌+◌, ◌<◌, ◌≤◌, List, ◌++◌, length, All}
use Rattle.std.specs.List.{flat_map}
use Rattle.byteorder.specs.Endian.{big_bytes, big_number}
use Rattle.rtpwire.specs.declared.limits.TheConstants.{MAX_DATAGRAM}
use Rattle.rtpwire.specs.Rtp.{AreOctets}

-- What a frame holds: octets, and not more than a datagram has (a limit of this project: the standard's is
-- 65535).
pub record IsDatagram (datagram : List ℕ) : Type 0 where
  pub are_octets : AreOctets datagram
  pub fits : length datagram ≤ MAX_DATAGRAM

-- a datagram's length in two octets, and the datagram
abbrev pub frame : List ℕ → List ℕ
frame datagram = big_bytes 2 (length datagram) ++ datagram

-- The octets are the frames of these datagrams, one after another.
pub record Frames (datagrams : List (List ℕ)) (octets : List ℕ) : Type 0 where
  pub each : All IsDatagram datagrams
  pub whole : octets ≡ flat_map frame datagrams

-- A proper beginning of one frame: not both octets of a length, or after a length that a datagram may have fewer
-- octets than it says.
pub record IsRest (octets : List ℕ) : Type 0 where
  pub short : 2 ≤ length octets → big_number 2 octets ≤ MAX_DATAGRAM
  pub partial : 2 ≤ length octets → length octets < 2 + big_number 2 octets

-- A length above a datagram's most stands where a frame begins.
pub record BeginsTooLong (octets : List ℕ) : Type 0 where
  pub counted : 2 ≤ length octets
  pub above : MAX_DATAGRAM < big_number 2 octets

-- The stream is the frames of these datagrams, and then a proper beginning of one more.
pub record Splits (datagrams : List (List ℕ)) (rest stream : List ℕ) : Type 0 where
  pub each : All IsDatagram datagrams
  pub partial : IsRest rest
  pub whole : stream ≡ flat_map frame datagrams ++ rest

-- The stream is the frames of these datagrams, and then comes a length that none has.
pub record Breaks (datagrams : List (List ℕ)) (stream : List ℕ) : Type 0 where
  pub each : All IsDatagram datagrams
  pub after : List ℕ
  pub too_long : BeginsTooLong after
  pub whole : stream ≡ flat_map frame datagrams ++ after

-- What a deframer holds between two pieces of a stream: the rest, and whether a length that no datagram has came.
pub record DeframerState : Type 0 where
  pub rest : List ℕ
  pub has_failed : Bool
