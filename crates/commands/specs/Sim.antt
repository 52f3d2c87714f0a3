-- What a simulation of a script writes.
use Rattle.std.specs.Prelude.{◌≡◌, ℕ, ◌⊎◌, List, [], ◌∷◌, ◌++◌, length, take, reverse, Option, Some, None}
use Rattle.std.specs.Io.KnownBytes.{Appends}
use Rattle.world.specs.declared.event.Event.{Event}
use Rattle.world.specs.declared.event.Entry.{Entry}
use Rattle.world.specs.Config.{Config}
use Rattle.world.specs.Answers.{WorldState, Step, Answers}
use Rattle.world.specs.World.{Recorded, stand_of}
use Rattle.commands.specs.declared.fault.SimFault.{SimFault}
use Rattle.commands.specs.declared.fault.SimFault.TheVariants.{BadLine, Read, Write, OutOfMemory}
use Rattle.commands.specs.Script.{script_config, script_events, bad_line}
use Rattle.commands.specs.IsScript.{IsScript, LacksFeed}
use Rattle.commands.specs.Reading.{IfBoth}
use Rattle.lines.specs.LogText.{entry_line, log_text}

-- The text is that of the log and the wire that answer these events.
pub record Prints (c : Config) (events : List Event) (text : List ℕ) : Type 0 where
  pub log : List Entry
  pub end : WorldState
  pub answers : Answers c (reverse events) (reverse log) end
  pub is : text ≡ log_text log end.wire

-- A world does an event, and this is the line of its entry.
pub record Advances (old : Recorded) (event : Event) (new : Recorded) (text : List ℕ) : Type 0 where
  pub entry : Entry
  pub step : Step old.config (stand_of old) event entry (stand_of new)
  pub log : new.log ≡ old.log ++ entry ∷ []
  pub config : new.config ≡ old.config
  pub is : text ≡ entry_line new.wire entry

-- The text was a script of so many events, and their log was written.
pub record IsDone (count : ℕ) (text : List ℕ) (old new : Option (List ℕ)) : Type 0 where
  pub config : Config
  pub events : List Event
  pub script : IsScript text config events
  pub counted : count ≡ length events
  pub printed : List ℕ
  pub prints : Prints config events printed
  pub wrote : Appends old new printed

-- the log of a text's events; without a configuration there is none
abbrev pub PrintsAny : Option Config → List Event → List ℕ → Type 0
PrintsAny None events text = text ≡ []
PrintsAny (Some c) events text = Prints c events text

-- The log of the events before the first bad line was written.
pub record WroteBefore (text : List ℕ) (old new : Option (List ℕ)) : Type 0 where
  pub printed : List ℕ
  pub prints : PrintsAny (script_config text) (script_events text) printed
  pub wrote : Appends old new printed

-- A beginning of the log of the first events was written.
pub record WroteSome (text : List ℕ) (old new : Option (List ℕ)) : Type 0 where
  pub count : ℕ  -- so many events
  pub printed : List ℕ
  pub prints : PrintsAny (script_config text) (take count (script_events text)) printed
  pub size : ℕ  -- so many octets
  pub wrote : Appends old new (take size printed)

-- the first bad line is told, and the log of the events before it was written
abbrev pub IsStopped : SimFault → List ℕ → Option (List ℕ) → Option (List ℕ) → Type 0
IsStopped (BadLine k) text old new = (bad_line text ≡ Some k) × WroteBefore text old new
IsStopped Read text old new = Unit {0}
IsStopped Write text old new = Unit {0}
IsStopped OutOfMemory text old new = Unit {0}

-- of the text that was read, which lies before what is left, a beginning of the log was written
abbrev pub WroteOfRead : Option (List ℕ) → Option (List ℕ) → (text left : List ℕ) → Type 0
WroteOfRead old new text left = (read : List ℕ) × (text ≡ read ++ left) × WroteSome read old new

-- The text is a script and the front of one more line, and the script's whole log was written.
pub record AnsweredLines (text : List ℕ) (old new : Option (List ℕ)) : Type 0 where
  pub config : Config
  pub events : List Event
  pub script : List ℕ
  pub front : List ℕ
  pub split : text ≡ script ++ front
  pub whole_lines : IsScript script config events
  pub in_line : LacksFeed front
  pub printed : List ℕ
  pub prints : Prints config events printed
  pub wrote : Appends old new printed

-- each whole line of the text was answered; before the config line's end there is none
abbrev pub AnsweredAll : List ℕ → Option (List ℕ) → Option (List ℕ) → Type 0
AnsweredAll text old new = (LacksFeed text × Appends old new []) ⊎ AnsweredLines text old new

-- where the reader failed, each whole line of what was read was answered
abbrev pub AnswersRead : SimFault → (old new : Option (List ℕ)) → (text left : Option (List ℕ)) → Type 0
AnswersRead (BadLine k) old new text left = Unit {0}
AnswersRead Read old new text left = IfBoth text left (λ text left. (read : List ℕ) × (text ≡ read ++ left) × AnsweredAll read old new)
AnswersRead Write old new text left = Unit {0}
AnswersRead OutOfMemory old new text left = Unit {0}
