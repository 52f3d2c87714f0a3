-- What reading one line of a script says of the text before and after it.
use Rattle.std.specs.Prelude.{◌≡◌, ℕ, ◌⊎◌, List, [], ◌∷◌, ◌++◌, Option, Some, None}
use Rattle.std.specs.Io.KnownBytes.{IsAtEnd, Keeps, prepend_known}
use Rattle.world.specs.declared.event.Event.{Event}
use Rattle.world.specs.Config.{Config}
use Rattle.commands.specs.declared.fault.SimFault.{SimFault}
use Rattle.commands.specs.declared.fault.SimFault.TheVariants.{BadLine, Read, Write, OutOfMemory}
use Rattle.lines.specs.ConfigLine.{config_of}
use Rattle.commands.specs.Script.{script_config, bad_line, events_in, bad_in}
use Rattle.commands.specs.IsScript.{LacksFeed, IsLineOf}

-- a fact on what was left before and what is left now, where that is known
abbrev pub IfBoth : Option (List ℕ) → Option (List ℕ) → (List ℕ → List ℕ → Type 0) → Type 0
IfBoth None new P = Unit {0}
IfBoth (Some x) None P = ⊥
IfBoth (Some x) (Some y) P = P x y

-- rest follows the config line of text
pub record TakesConfig (config : Config) (text rest : List ℕ) : Type 0 where
  pub line : List ℕ
  pub whole : text ≡ line ++ 10 ∷ rest
  pub says : config_of line ≡ Some config
  pub one_line : LacksFeed line

-- rest follows a line of text that says this event
pub record TakesEvent (event : Event) (text rest : List ℕ) : Type 0 where
  pub line : List ℕ
  pub whole : text ≡ line ++ 10 ∷ rest
  pub says : IsLineOf line event

-- the next event of text and what follows its line; or text is at its end
abbrev pub Continues : Option Event → (text rest : List ℕ) → Type 0
Continues None text rest = text ≡ []
Continues (Some event) text rest = TakesEvent event text rest

-- no more is read after the last event
abbrev pub EndsAt : Option Event → Option (List ℕ) → Type 0
EndsAt None left = IsAtEnd left
EndsAt (Some event) left = Unit {0}

-- left is what remains of text
abbrev pub EndsWith : (text left : List ℕ) → Type 0
EndsWith text left = (front : List ℕ) × (text ≡ front ++ left)

-- a fault of the first line
abbrev pub FailsFirst : SimFault → List ℕ → Type 0
FailsFirst (BadLine k) text = (k ≡ 1) × (bad_line text ≡ Some 1) × (script_config text ≡ None)
FailsFirst Read text = Unit {0}
FailsFirst Write text = Unit {0}
FailsFirst OutOfMemory text = Unit {0}

-- a fault of the event line with this number
abbrev pub FailsAt : ℕ → SimFault → List ℕ → Type 0
FailsAt number (BadLine k) text = (k ≡ number) × (events_in text ≡ []) × (bad_in number text ≡ Some number)
FailsAt number Read text = Unit {0}
FailsAt number Write text = Unit {0}
FailsAt number OutOfMemory text = Unit {0}

-- left is what remains of text behind octets in which no line ends
abbrev pub EndsInLine : (text left : List ℕ) → Type 0
EndsInLine text left = (front : List ℕ) × (text ≡ front ++ left) × LacksFeed front

-- What a fault leaves of the text: where the reader failed, no whole line was read in vain.
abbrev pub Leaves : SimFault → Option (List ℕ) → Option (List ℕ) → Type 0
Leaves (BadLine k) text left = IfBoth text left EndsWith
Leaves Read text left = IfBoth text left EndsInLine
Leaves Write text left = IfBoth text left EndsWith
Leaves OutOfMemory text left = IfBoth text left EndsWith

-- no line could be had, whatever the text says
abbrev pub IsNoLine : SimFault → Type 0
IsNoLine fault = (fault ≡ Read) ⊎ (fault ≡ Write) ⊎ (fault ≡ OutOfMemory)

-- no piece could be had: a reader that failed gave nothing
abbrev pub FailsToFill : SimFault → (pending : List ℕ) → (old new : Option (List ℕ)) → Type 0
FailsToFill (BadLine k) pending old new = ⊥
FailsToFill Read pending old new = Keeps old new
FailsToFill Write pending old new = ⊥
FailsToFill OutOfMemory pending old new = IfBoth (prepend_known pending old) new EndsWith
