-- What a run of the program did, and what it means that it did not.
use Rattle.std.specs.Prelude.{◌≡◌, ℕ, ◌⊎◌, Bool, false, List, [], Option, Some, None}
use Rattle.std.specs.Option.{IfSome}
use Rattle.std.specs.Io.KnownBytes.{Appends}
use Rattle.clap.specs.Words.{IsAmong, Text, fault_of, kind_of, takes}
use Rattle.clap.specs.declared.error.Error.{Error}
use Rattle.clap.specs.declared.error.ErrorKind.TheVariants.{DisplayHelp, DisplayVersion}
use Rattle.rtxtool.specs.declared.command_line.ChooseFault.TheVariants.{Line}
use Rattle.rtxtool.specs.declared.tell.ToolFault.{ToolFault}
use Rattle.rtxtool.specs.declared.tell.ToolFault.TheVariants.{Choose, Output}
use Rattle.rtxtool.specs.CommandLine.{Asked, LacksValue, Loops, Packs, Shows, Sims, Soaks, asked, tool}
use Rattle.rtxtool.specs.Printing.{CameOut, ComesOut, Known, MayBe, PackedSome, PrintedAll, PrintedBefore, PrintedLoop, PrintedSome, PrintedSomeLoop, PrintedSomeTally, PrintedTally, ShowedAll}
use Rattle.commands.specs.declared.fault.SimFault.TheVariants.{BadLine}
use Rattle.commands.specs.DropList.{drops_of}
use Rattle.commands.specs.Pack.{WroteNone, WrotePacking}
use Rattle.commands.specs.Show.{IsCut, IsTooLong}
use Rattle.commands.specs.Showing.{ShowedSome}

-- All that was asked for was done.
abbrev pub Does : Asked → Known → (old new : Option (List ℕ)) → Type 0
Does (Sims file) known old new = IfSome (known.files file) (λ text. PrintedAll text old new)
Does (Shows file) known old new = IfSome (known.files file) (λ trace. ShowedAll trace old new)
Does (Packs places) known old new = WrotePacking places old new
Does (Soaks seed packets loss) known old new = PrintedTally seed packets loss old new
Does (Loops packets drops) known old new = MayBe known.output × MayBe known.link × PrintedLoop packets drops old new

-- ---- where it was not done

-- The input was refused: the line or the frame is told, and what stands before it was printed. A drawn run has no input.
abbrev pub Refuses : Asked → Known → (old new : Option (List ℕ)) → Type 0
Refuses (Sims file) known old new = IfSome (known.files file) (λ text. (line : ℕ) × PrintedBefore (BadLine line) text old new)
Refuses (Shows file) known old new = IfSome (known.files file) (λ trace. (number : ℕ) × (IsCut number trace old new ⊎ IsTooLong number trace old new))
Refuses (Packs places) known old new = WroteNone places old new
Refuses (Soaks seed packets loss) known old new = ⊥
Refuses (Loops packets drops) known old new = (drops_of drops packets ≡ None) × Appends old new []

-- of a file that can't be opened nothing has come out
abbrev pub NoneOut : (opens : Option Bool) → (old new : Option (List ℕ)) → Type 0
NoneOut opens old new = IfSome opens (λ there. there ≡ false → CameOut old new)

-- A file or a socket failed: what has come out is a beginning of what would be printed, and of a file a beginning was read.
-- Where the places don't rise, or no run over a link came to its end, nothing has come out.
abbrev pub Breaks : Asked → Known → (old new : Option (List ℕ)) → Type 0
Breaks (Sims file) known old new = NoneOut (known.opens file) old new × IfSome (known.files file) (λ text. ComesOut (λ total. PrintedSome text old total) new)
Breaks (Shows file) known old new = NoneOut (known.opens file) old new × IfSome (known.files file) (λ trace. ComesOut (λ total. ShowedSome trace old total) new)
Breaks (Packs places) known old new = CameOut old new ⊎ ComesOut (λ total. PackedSome places old total) new
Breaks (Soaks seed packets loss) known old new = ComesOut (λ total. PrintedSomeTally seed packets loss old total) new
Breaks (Loops packets drops) known old new =
    CameOut old new ⊎ (MayBe known.output × MayBe known.link × ComesOut (λ total. PrintedSomeLoop packets drops old total) new)

-- Memory was refused: a script's log so far has come out, and else nothing. A trace and a packing ask for no memory.
abbrev pub RunsShort : Asked → Known → (old new : Option (List ℕ)) → Type 0
RunsShort (Sims file) known old new = IfSome (known.files file) (λ text. PrintedSome text old new)
RunsShort (Shows file) known old new = ⊥
RunsShort (Packs places) known old new = ⊥
RunsShort (Soaks seed packets loss) known old new = CameOut old new
RunsShort (Loops packets drops) known old new = CameOut old new

-- What the exit status says where something was asked for and not done.
pub record Stops (status : ℕ) (said : Asked) (known : Known) (old new : Option (List ℕ)) : Type 0 where
  pub refused : status ≡ 1 → Refuses said known old new
  pub device : status ≡ 3 → Breaks said known old new
  pub memory : status ≡ 4 → RunsShort said known old new
  pub others : (status ≡ 1) ⊎ (status ≡ 3) ⊎ (status ≡ 4)

-- ---- what a run says of its words

-- help or the version was asked for
abbrev pub AsksForHelp : List Text → Type 0
AsksForHelp words = IsAmong DisplayHelp (fault_of tool words) ⊎ IsAmong DisplayVersion (fault_of tool words)

-- `clap` has a text for the words that is no complaint
abbrev pub Helps : Error → Type 0
Helps text = (kind_of text ≡ DisplayHelp) ⊎ (kind_of text ≡ DisplayVersion)

-- it could not be printed, or the text is one
abbrev pub HelpsNot : Error → ToolFault → Type 0
HelpsNot text fault = ((fault ≡ Output) × Helps text) ⊎ (fault ≡ Choose (Line text))

-- these words ask for something of which this holds
abbrev pub AskFor : List Text → (Asked → Type 0) → Type 0
AskFor words P = (said : Asked) × (asked words ≡ Some said) × P said

abbrev pub Succeeds : Known → List Text → (old new : Option (List ℕ)) → Type 0
Succeeds known words old new = AsksForHelp words ⊎ AskFor words (λ said. Does said known old new)

-- What an exit status says of a command line and of what came out. Memory may be refused before the words are read: then
-- nothing has come out.
pub record Ends (status : ℕ) (known : Known) (words : List Text) (old new : Option (List ℕ)) : Type 0 where
  pub done : status ≡ 0 → Succeeds known words old new
  pub refused : status ≡ 1 → AskFor words (λ said. Refuses said known old new)
  pub command_line : status ≡ 2 → (takes tool words ≡ false) ⊎ LacksValue words
  pub device : status ≡ 3 → AsksForHelp words ⊎ AskFor words (λ said. Breaks said known old new)
  pub memory : status ≡ 4 → CameOut old new ⊎ AskFor words (λ said. RunsShort said known old new)
  pub others : (status ≡ 0) ⊎ (status ≡ 1) ⊎ (status ≡ 2) ⊎ (status ≡ 3) ⊎ (status ≡ 4)
