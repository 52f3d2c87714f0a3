-- The place that a receiver finds for a sequence number, or why it has none there: the checks that come before its
-- window is asked to take the place.
use Rattle.std.specs.Prelude.{◌≡◌, ℕ, ◌+◌, ◌^◌, ◌<◌, Option, Some, None, Result, Ok, Err}
use Rattle.places.specs.Place.{IsNear, IsFar, IsPastEnd}
use Rattle.places.specs.declared.nearness.PlaceFault.TheVariants.{Far, PastEnd}
use Rattle.receiver.specs.declared.fault.ReceiveFault.{ReceiveFault}
use Rattle.receiver.specs.declared.fault.ReceiveFault.TheVariants as refused
use Rattle.receiver.specs.declared.stream.Stream.{Stream}
use Rattle.receiver.specs.declared.stream.Stream.TheVariants.{Media, Repair, Candidate}
use Rattle.receiver.specs.Window.{ReceiverState}
use Rattle.receiver.specs.Heard.{WasAsked}

-- a packet of this stream starts a receiver
abbrev pub MayStart : Stream → Type 0
MayStart Media = Unit {0}
MayStart Repair = ⊥
MayStart (Candidate ssrc) = ⊥

-- A packet of this stream may have the place: where the stream is to be learnt, the place is one that was asked for.
abbrev pub MayHave : Stream → ReceiverState → (place : ℕ) → Type 0
MayHave Media old place = Unit {0}
MayHave Repair old place = Unit {0}
MayHave (Candidate ssrc) old place = WasAsked (old.missing place)

-- at a started receiver: the near place, or the one check that fails
abbrev pub FindsNear : Stream → ReceiverState → (seq : ℕ) → Result ℕ ReceiveFault → Type 0
FindsNear stream old seq (Ok place) = IsNear old.highest seq place × (place < 2 ^ 48) × MayHave stream old place
FindsNear stream old seq (Err (refused.Place Far)) = IsFar old.highest seq
FindsNear stream old seq (Err (refused.Place PastEnd)) = IsPastEnd old.highest seq
FindsNear stream old seq (Err refused.Unasked) =
    (place : ℕ) × IsNear old.highest seq place × (place < 2 ^ 48) × (MayHave stream old place → ⊥)
FindsNear stream old seq (Err fault) = ⊥

-- at one that took nothing: the first place, one cycle above the sequence number
abbrev pub FindsFirst : Stream → (seq : ℕ) → Result ℕ ReceiveFault → Type 0
FindsFirst stream seq (Ok place) = (place ≡ 65536 + seq) × MayStart stream
FindsFirst stream seq (Err refused.NotStarted) = MayStart stream → ⊥
FindsFirst stream seq (Err fault) = ⊥

abbrev pub FindsPlace : Stream → Option ReceiverState → (seq : ℕ) → Result ℕ ReceiveFault → Type 0
FindsPlace stream None seq found = FindsFirst stream seq found
FindsPlace stream (Some old) seq found = FindsNear stream old seq found
