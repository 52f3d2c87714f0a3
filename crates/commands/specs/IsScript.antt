-- A script, line by line.
use Rattle.std.specs.Prelude.{◌≡◌, ◌≢◌, ℕ, List, [], ◌∷◌, ◌++◌, Some, All}
use Rattle.std.specs.List.{flat_map, AllZip}
use Rattle.world.specs.declared.event.Event.{Event}
use Rattle.world.specs.Config.{Config}
use Rattle.lines.specs.ConfigLine.{config_of}
use Rattle.lines.specs.EventLine.{event_of}

-- no line feed stands there
abbrev pub LacksFeed : List ℕ → Type 0
LacksFeed octets = All (λ x. x ≢ 10) octets

-- a line and its line feed
abbrev pub ended : List ℕ → List ℕ
ended line = line ++ 10 ∷ []

-- the line says this event, and is one line
abbrev pub IsLineOf : List ℕ → Event → Type 0
IsLineOf line event = (event_of line ≡ Some event) × LacksFeed line

-- The text is a config line and a line for each event, each with its line feed, and nothing else.
pub record IsScript (text : List ℕ) (config : Config) (events : List Event) : Type 0 where
  pub first : List ℕ
  pub lines : List (List ℕ)
  pub whole : text ≡ ended first ++ flat_map ended lines
  pub config_line : config_of first ≡ Some config
  pub one_line : LacksFeed first
  pub event_lines : AllZip IsLineOf lines events
