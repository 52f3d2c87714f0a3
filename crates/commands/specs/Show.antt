-- What showing a trace writes.
use Rattle.std.specs.Prelude.{◌≡◌, ◌≢◌, ℕ, ◌+◌, ◌-◌, ◌^◌, min, List, [], ◌++◌, length, Option, All}
use Rattle.std.specs.List.{flat_map}
use Rattle.std.specs.Io.KnownBytes.{Appends}
use Rattle.rtpwire.specs.declared.fault.FrameFault.TheVariants.{Truncated, FrameTooLong}
use Rattle.rtpwire.specs.Framing.{Frames, IsDatagram, Splits, Breaks, frame}
use Rattle.lines.specs.ShowText.{ShowsAll}
use Rattle.lines.specs.Sink.{AppendsFront}
use Rattle.commands.specs.declared.show.ShowFault.{ShowFault}
use Rattle.commands.specs.declared.show.ShowFault.TheVariants.{Frame, Read, Write}

-- a count that would pass 2 ^ 64 - 1 stays there
abbrev pub counted : ℕ → ℕ
counted count = min count (2 ^ 64 - 1)

-- The lines of these datagrams were written.
pub record Wrote (datagrams : List (List ℕ)) (old new : Option (List ℕ)) : Type 0 where
  pub text : List ℕ
  pub shows : ShowsAll datagrams text
  pub appended : Appends old new text

-- A beginning of the lines of these datagrams was written.
pub record WroteFront (datagrams : List (List ℕ)) (old new : Option (List ℕ)) : Type 0 where
  pub text : List ℕ
  pub shows : ShowsAll datagrams text
  pub appended : AppendsFront old new text

-- The trace is so many frames, and their lines were written.
pub record IsShown (count : ℕ) (trace : List ℕ) (old new : Option (List ℕ)) : Type 0 where
  pub datagrams : List (List ℕ)
  pub frames : Frames datagrams trace
  pub counts : count ≡ counted (length datagrams)
  pub wrote : Wrote datagrams old new

-- The trace is frames and a proper beginning of the one with this number.
pub record IsCut (number : ℕ) (trace : List ℕ) (old new : Option (List ℕ)) : Type 0 where
  pub datagrams : List (List ℕ)
  pub rest : List ℕ
  pub splits : Splits datagrams rest trace
  pub begun : rest ≢ []
  pub numbered : number ≡ counted (length datagrams + 1)
  pub wrote : Wrote datagrams old new

-- The trace is frames, and then comes one with this number that is too long.
pub record IsTooLong (number : ℕ) (trace : List ℕ) (old new : Option (List ℕ)) : Type 0 where
  pub datagrams : List (List ℕ)
  pub breaks : Breaks datagrams trace
  pub numbered : number ≡ counted (length datagrams + 1)
  pub wrote : Wrote datagrams old new

-- What was read, which lies before what is left, is frames and what stands behind the last whole one; the lines of all
-- of them were written.
pub record WroteAllRead (trace left : List ℕ) (old new : Option (List ℕ)) : Type 0 where
  pub read : List ℕ
  pub whole : trace ≡ read ++ left
  pub datagrams : List (List ℕ)
  pub rest : List ℕ
  pub splits : Splits datagrams rest read
  pub wrote : Wrote datagrams old new

-- What was read begins with frames, and a beginning of their lines was written.
pub record WroteSomeRead (trace left : List ℕ) (old new : Option (List ℕ)) : Type 0 where
  pub read : List ℕ
  pub whole : trace ≡ read ++ left
  pub datagrams : List (List ℕ)
  pub after : List ℕ
  pub each : All IsDatagram datagrams
  pub frames : read ≡ flat_map frame datagrams ++ after
  pub wrote : WroteFront datagrams old new

-- Why a trace was not shown to its end, and what was written of it.
abbrev pub StopsIn : ShowFault → (old new : Option (List ℕ)) → (trace left : List ℕ) → Type 0
StopsIn (Frame Truncated number) old new trace left = IsCut number trace old new × (left ≡ [])
StopsIn (Frame FrameTooLong number) old new trace left = IsTooLong number trace old new
StopsIn Read old new trace left = WroteAllRead trace left old new
StopsIn Write old new trace left = WroteSomeRead trace left old new
