-- What the packing of places writes.
use Rattle.std.specs.Prelude.{ℕ, List, [], Option}
use Rattle.std.specs.Io.KnownBytes.{Appends}
use Rattle.std.specs.List.Sorted.{IsStrictlyIncreasing}
use Rattle.fbwire.specs.Packing.{IsNarrow}
use Rattle.lines.specs.PackText.{AskInTurn, datagram_lines}
use Rattle.lines.specs.Sink.{AppendsFront}
use Rattle.commands.specs.declared.pack.PackFault.{PackFault}
use Rattle.commands.specs.declared.pack.PackFault.TheVariants.{NotRising, Write}

-- The lines of datagrams that ask for all places were written.
pub record WrotePacking (places : List ℕ) (old new : Option (List ℕ)) : Type 0 where
  pub rising : IsStrictlyIncreasing places
  pub narrow : IsNarrow places
  pub datagrams : List (List ℕ)
  pub asks : AskInTurn places datagrams []
  pub wrote : Appends old new (datagram_lines datagrams)

-- A beginning of the lines of datagrams that ask for the first places was written.
pub record WroteFirst (places : List ℕ) (old new : Option (List ℕ)) : Type 0 where
  pub datagrams : List (List ℕ)
  pub left : List ℕ
  pub asks : AskInTurn places datagrams left
  pub wrote : AppendsFront old new (datagram_lines datagrams)

-- The places don't rise, or span too much, and nothing was written.
pub record WroteNone (places : List ℕ) (old new : Option (List ℕ)) : Type 0 where
  pub refused : IsStrictlyIncreasing places × IsNarrow places → ⊥
  pub wrote : Appends old new []

abbrev pub MayNotPack : List ℕ → (old new : Option (List ℕ)) → PackFault → Type 0
MayNotPack places old new NotRising = WroteNone places old new
MayNotPack places old new Write = IsStrictlyIncreasing places × IsNarrow places × WroteFirst places old new
