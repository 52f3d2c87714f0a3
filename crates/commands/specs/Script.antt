-- A script: the configuration and the events that it says up to its first bad line, and that line's number.
use Rattle.std.specs.Prelude.{ℕ, ◌+◌, List, [], ◌∷◌, Option, Some, None}
use Rattle.std.specs.Option.{option_map_or}
use Rattle.world.specs.declared.event.Event.{Event}
use Rattle.world.specs.Config.{Config}
use Rattle.commands.specs.Lines.{lines_of, tail_of}
use Rattle.lines.specs.ConfigLine.{config_of}
use Rattle.lines.specs.EventLine.{event_of}

-- the events of lines, up to the first that is none
abbrev pub events_from : List (List ℕ) → List Event
events_from [] = []
events_from (line ∷ lines) = option_map_or (λ event. event ∷ events_from lines) (event_of line) []

-- The number of the first line that is no event, where the first has the number k. What follows the last
-- line feed is a bad line.
abbrev pub bad_from : ℕ → List (List ℕ) → List ℕ → Option ℕ
bad_from k [] [] = None
bad_from k [] (c ∷ more) = Some k
bad_from k (line ∷ lines) rest = option_map_or (λ event. bad_from (k + 1) lines rest) (event_of line) (Some k)

-- the same of a text of event lines
abbrev pub events_in : List ℕ → List Event
events_in text = events_from (lines_of text)

abbrev pub bad_in : ℕ → List ℕ → Option ℕ
bad_in k text = bad_from k (lines_of text) (tail_of text)

abbrev pub config_first : List (List ℕ) → Option Config
config_first [] = None
config_first (first ∷ lines) = config_of first

abbrev pub events_after : List (List ℕ) → List Event
events_after [] = []
events_after (first ∷ lines) = option_map_or (λ config. events_from lines) (config_of first) []

abbrev pub bad_among : List (List ℕ) → List ℕ → Option ℕ
bad_among [] rest = Some 1
bad_among (first ∷ lines) rest = option_map_or (λ config. bad_from 2 lines rest) (config_of first) (Some 1)

-- a script's configuration
abbrev pub script_config : List ℕ → Option Config
script_config text = config_first (lines_of text)

-- its events, up to its first bad line
abbrev pub script_events : List ℕ → List Event
script_events text = events_after (lines_of text)

-- the number of its first bad line
abbrev pub bad_line : List ℕ → Option ℕ
bad_line text = bad_among (lines_of text) (tail_of text)
