-- What a part of the showing of a trace has done so far.
use Rattle.std.specs.Prelude.{◌≡◌, ℕ, List, ◌++◌, length, Option, All}
use Rattle.std.specs.List.{flat_map}
use Rattle.rtpwire.specs.declared.fault.FrameFault.TheVariants.{Truncated, FrameTooLong}
use Rattle.rtpwire.specs.Framing.{IsDatagram, Splits, frame}
use Rattle.commands.specs.declared.show.ShowFault.{ShowFault}
use Rattle.commands.specs.declared.show.ShowFault.TheVariants.{Frame, Read, Write}
use Rattle.commands.specs.Show.{IsTooLong, Wrote, WroteFront, counted}

-- What was read so far is frames and this rest; the frames are counted, and their lines were written since the start.
pub record SoFar (start now : Option (List ℕ)) (read rest : List ℕ) (count : ℕ) : Type 0 where
  pub datagrams : List (List ℕ)
  pub splits : Splits datagrams rest read
  pub counts : count ≡ counted (length datagrams)
  pub wrote : Wrote datagrams start now

-- Whatever was done before, more was done with this piece.
abbrev pub GoesOn : (old new : Option (List ℕ)) → (rest rest' : List ℕ) → (count count' : ℕ) → (piece : List ℕ) → Type 0
GoesOn old new rest rest' count count' piece =
    (start : Option (List ℕ)) (read : List ℕ) → SoFar start old read rest count → SoFar start new (read ++ piece) rest' count'

-- What was read begins with frames, and a beginning of their lines was written.
pub record ShowedSome (read : List ℕ) (old new : Option (List ℕ)) : Type 0 where
  pub datagrams : List (List ℕ)
  pub after : List ℕ
  pub each : All IsDatagram datagrams
  pub frames : read ≡ flat_map frame datagrams ++ after
  pub wrote : WroteFront datagrams old new

-- why a piece was not shown to its end
abbrev pub StopsAt : ShowFault → (start now : Option (List ℕ)) → (read : List ℕ) → Type 0
StopsAt (Frame Truncated number) start now read = ⊥
StopsAt (Frame FrameTooLong number) start now read = IsTooLong number read start now
StopsAt Read start now read = ⊥
StopsAt Write start now read = ShowedSome read start now

-- whatever was done before, this is why it stopped within this piece
abbrev pub StopsWithin : ShowFault → (old new : Option (List ℕ)) → (rest : List ℕ) → (count : ℕ) → (piece : List ℕ) → Type 0
StopsWithin fault old new rest count piece =
    (start : Option (List ℕ)) (read : List ℕ) → SoFar start old read rest count → StopsAt fault start new (read ++ piece)
