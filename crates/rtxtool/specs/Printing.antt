-- What each command prints, all of it or a beginning, and what of it has come out of the buffer.
use Rattle.std.specs.Prelude.{◌≡◌, ℕ, ◌⊎◌, Bool, true, false, List, [], Option, Some, None, codes}
use Rattle.std.specs.Option.{IfSome}
use Rattle.std.specs.List.Sorted.{IsStrictlyIncreasing}
use Rattle.std.specs.Io.KnownBytes.{Appends, Keeps, append_known}
use Rattle.rtpwire.specs.declared.fault.FrameFault.TheVariants.{Truncated, FrameTooLong}
use Rattle.fbwire.specs.Packing.{IsNarrow}
use Rattle.lines.specs.Sink.{AppendsFront}
use Rattle.runs.specs.declared.link.Transfer.{Transfer}
use Rattle.runs.specs.declared.tally.Tally.{Tally}
use Rattle.runs.specs.Soak.{Draws, seeded}
use Rattle.commands.specs.declared.drops.ListFault.TheVariants as listing
use Rattle.commands.specs.declared.fault.SimFault.{SimFault}
use Rattle.commands.specs.declared.fault.SimFault.TheVariants.{BadLine, Read, Write, OutOfMemory}
use Rattle.commands.specs.declared.pack.PackFault.{PackFault}
use Rattle.commands.specs.declared.pack.PackFault.TheVariants as packing
use Rattle.commands.specs.declared.show.ShowFault.{ShowFault}
use Rattle.commands.specs.declared.show.ShowFault.TheVariants as showing
use Rattle.rtxtool.specs.declared.tell.ToolFault.{ToolFault}
use Rattle.rtxtool.specs.declared.tell.ToolFault.TheVariants.{Output, Memory, List as Listed, Link, Drive}
use Rattle.commands.specs.DropList.{drops_of}
use Rattle.commands.specs.Loopback.{RunsOverLink}
use Rattle.commands.specs.Pack.{WroteFirst, WroteNone}
use Rattle.commands.specs.Script.{bad_line}
use Rattle.commands.specs.Show.{IsCut, IsShown, IsTooLong}
use Rattle.commands.specs.Showing.{ShowedSome}
use Rattle.commands.specs.Sim.{IsDone, WroteBefore, WroteOfRead}
use Rattle.commands.specs.TallyText.{tally_line}

-- ---- what comes out of what is put into the buffer

-- A beginning of what was put in has come out, all but this rest.
abbrev pub CameOut : (total new : Option (List ℕ)) → Type 0
CameOut total new = (rest : List ℕ) × Keeps total (append_known new rest)

-- This holds of all that was put in, and a beginning of it has come out.
abbrev pub ComesOut : (Option (List ℕ) → Type 0) → (new : Option (List ℕ)) → Type 0
ComesOut Holds new = (total : Option (List ℕ)) × Holds total × CameOut total new

-- ---- what each command prints

-- the text was a script, and its whole log was written
abbrev pub PrintedAll : List ℕ → (old new : Option (List ℕ)) → Type 0
PrintedAll text old new = (count : ℕ) × IsDone count text old new

-- of a beginning of the text, a beginning of the log was written
abbrev pub PrintedSome : List ℕ → (old new : Option (List ℕ)) → Type 0
PrintedSome text old new = (left : List ℕ) × WroteOfRead old new text left

-- the trace was whole frames, and all their lines were written
abbrev pub ShowedAll : List ℕ → (old new : Option (List ℕ)) → Type 0
ShowedAll trace old new = (count : ℕ) × IsShown count trace old new

-- the places rise and are narrow, and a beginning of the lines of their packing was written
abbrev pub PackedSome : List ℕ → (old new : Option (List ℕ)) → Type 0
PackedSome places old new = IsStrictlyIncreasing places × IsNarrow places × WroteFirst places old new

-- the tally of the run that is drawn from this seed was written
abbrev pub PrintedTally : (seed packets loss : ℕ) → (old new : Option (List ℕ)) → Type 0
PrintedTally seed packets loss old new =
    (tally : Tally) × Draws loss packets (seeded seed) tally × Appends old new (tally_line (codes "lost") tally)

-- a beginning of it
abbrev pub PrintedSomeTally : (seed packets loss : ℕ) → (old new : Option (List ℕ)) → Type 0
PrintedSomeTally seed packets loss old new =
    (tally : Tally) × Draws loss packets (seeded seed) tally × AppendsFront old new (tally_line (codes "lost") tally)

-- the tally is that of a run over some link, in which the packets that the text lists were dropped
abbrev pub CountsLoop : (packets : ℕ) → (drops : List ℕ) → Tally → Type 0
CountsLoop packets drops tally =
    (list : List ℕ) × (told : Option (List Transfer)) × (telling : Option (List Transfer)) × (drops_of drops packets ≡ Some list)
    × RunsOverLink packets list told telling tally

-- the tally of such a run was written
abbrev pub PrintedLoop : (packets : ℕ) → (drops : List ℕ) → (old new : Option (List ℕ)) → Type 0
PrintedLoop packets drops old new = (tally : Tally) × CountsLoop packets drops tally × Appends old new (tally_line (codes "dropped") tally)

-- a beginning of it
abbrev pub PrintedSomeLoop : (packets : ℕ) → (drops : List ℕ) → (old new : Option (List ℕ)) → Type 0
PrintedSomeLoop packets drops old new = (tally : Tally) × CountsLoop packets drops tally × AppendsFront old new (tally_line (codes "dropped") tally)

-- ---- what is known of where the program runs

-- What stands in each file that can be opened, which files can be, whether there is an output, and whether a link can be had.
pub record Known : Type 0 where
  pub files : List ℕ → Option (List ℕ)
  pub opens : List ℕ → Option Bool
  pub output : Option Bool
  pub link : Option Bool

-- where nothing is known
abbrev pub unknown : Known
unknown = record { files = λ file. None; opens = λ file. None; output = None; link = None }

-- nothing tells that it is not there
abbrev pub MayBe : Option Bool → Type 0
MayBe there = IfSome there (λ is. is ≡ true)

-- nothing tells that it is there
abbrev pub MayLack : Option Bool → Type 0
MayLack there = IfSome there (λ is. is ≡ false)

-- ---- what each has printed where it fails

-- A script is refused at a line, behind the log of those before it. Else a beginning of the log was printed; of it all has
-- come out where memory was refused, and where the reader or the writer failed a beginning.
abbrev pub PrintedBefore : SimFault → List ℕ → (old new : Option (List ℕ)) → Type 0
PrintedBefore (BadLine line) text old new = (bad_line text ≡ Some line) × WroteBefore text old new
PrintedBefore Read text old new = ComesOut (λ total. PrintedSome text old total) new
PrintedBefore Write text old new = ComesOut (λ total. PrintedSome text old total) new
PrintedBefore OutOfMemory text old new = PrintedSome text old new

abbrev pub RefusesTrace : ShowFault → List ℕ → (old new : Option (List ℕ)) → Type 0
RefusesTrace (showing.Frame Truncated number) trace old new = IsCut number trace old new
RefusesTrace (showing.Frame FrameTooLong number) trace old new = IsTooLong number trace old new
RefusesTrace showing.Read trace old new = ComesOut (λ total. ShowedSome trace old total) new
RefusesTrace showing.Write trace old new = ComesOut (λ total. ShowedSome trace old total) new

-- Where the places don't rise, nothing comes out even if the writer fails.
abbrev pub RefusesPacking : PackFault → List ℕ → (old new : Option (List ℕ)) → Type 0
RefusesPacking packing.NotRising places old new = WroteNone places old new
RefusesPacking packing.Write places old new = CameOut old new ⊎ ComesOut (λ total. PackedSome places old total) new

-- the fault of a drawn run
abbrev pub FailsToDraw : ToolFault → (seed packets loss : ℕ) → (old new : Option (List ℕ)) → Type 0
FailsToDraw Output seed packets loss old new = ComesOut (λ total. PrintedSomeTally seed packets loss old total) new
FailsToDraw Memory seed packets loss old new = CameOut old new
FailsToDraw _ seed packets loss old new = ⊥

-- The list is read, and there may be an output and a link, but no run over it came to its end: nothing has come out.
abbrev pub StopsLoop : (packets : ℕ) → (drops : List ℕ) → Known → (old new : Option (List ℕ)) → Type 0
StopsLoop packets drops known old new =
    ((list : List ℕ) × (drops_of drops packets ≡ Some list)) × MayBe known.output × MayBe known.link × CameOut old new

-- The fault of a run over a link. Where the output failed, that was before the run, or a beginning of the tally has come out.
abbrev pub FailsToLoop : ToolFault → (packets : ℕ) → (drops : List ℕ) → Known → (old new : Option (List ℕ)) → Type 0
FailsToLoop (Listed listing.BadList) packets drops known old new = (drops_of drops packets ≡ None) × Appends old new []
FailsToLoop (Listed listing.OutOfMemory) packets drops known old new = CameOut old new
FailsToLoop Output packets drops known old new =
    CameOut old new ⊎ (MayBe known.output × MayBe known.link × ComesOut (λ total. PrintedSomeLoop packets drops old total) new)
FailsToLoop Link packets drops known old new = MayBe known.output × MayLack known.link × CameOut old new
FailsToLoop (Drive fault) packets drops known old new = StopsLoop packets drops known old new
FailsToLoop _ packets drops known old new = ⊥
