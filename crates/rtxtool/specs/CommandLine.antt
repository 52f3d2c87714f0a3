-- What a command line asks for, by the rules of `clap`.
use Rattle.std.specs.Prelude.{◌≡◌, ℕ, ◌^◌, ◌-◌, ◌≤◌, true, false, List, [], ◌∷◌, Option, Some, None, codes, if◌then◌else◌, option_map, option_and_then}
use Rattle.std.specs.Str.{bytes_eq}
use Rattle.clap.specs.declared.builder.ArgAction.TheVariants.{Set, Append}
use Rattle.clap.specs.Words.{App, IsAmong, Row, Rule, Text, all_of, fault_of, first_of, kind_of, new_app, new_rule, subcommand_of, takes, with_rule, with_subcommand}
use Rattle.clap.specs.Simple.{new_shape}
use Rattle.lines.specs.Steps.{◌>>=◌}
use Rattle.lines.specs.Decimal.{decimal_between}
use Rattle.rtxtool.specs.declared.command_line.Choice.{Choice}
use Rattle.rtxtool.specs.declared.command_line.Choice.TheVariants as choice
use Rattle.rtxtool.specs.declared.command_line.ChooseFault.{ChooseFault}
use Rattle.rtxtool.specs.declared.command_line.ChooseFault.TheVariants.{Line, Value, OutOfMemory}

-- ---- the words that are taken

-- FILE, one word, which has to be there
abbrev pub file_rule : Rule
file_rule = record (new_rule (codes "FILE")) { required = true; action = Some Set }

-- N.., one word or more
abbrev pub places_rule : Rule
places_rule = record (new_rule (codes "N")) { required = true; action = Some Append }

-- `--NAME VALUE`, which has to be there
abbrev pub option_rule : Text → Rule
option_rule name = record (new_rule name) { long = Some name; value_names = 1; required = true; action = Some Set }

-- `--drop LIST`, where LIST is `none` if it isn't there
abbrev pub drop_rule : Rule
drop_rule = record (new_rule (codes "drop")) { long = Some (codes "drop"); value_names = 1; defaults = codes "none" ∷ []; action = Some Set }

-- `sim FILE`
abbrev pub sim : App
sim = with_rule (new_app (codes "sim")) file_rule

-- `show FILE`
abbrev pub show : App
show = with_rule (new_app (codes "show")) file_rule

-- `pack N..`
abbrev pub pack : App
pack = with_rule (new_app (codes "pack")) places_rule

-- `soak --seed N --packets N --loss PERMILLE`
abbrev pub soak : App
soak = with_rule (with_rule (with_rule (new_app (codes "soak")) (option_rule (codes "seed"))) (option_rule (codes "packets"))) (option_rule (codes "loss"))

-- `loopback --packets N [--drop LIST]`
abbrev pub loopback : App
loopback = with_rule (with_rule (new_app (codes "loopback")) (option_rule (codes "packets"))) drop_rule

-- the program without its subcommands: one of them has to be named, and it tells its version
abbrev pub bare_tool : App
bare_tool = record (new_app (codes "rtxtool")) { top = record (new_shape (codes "rtxtool")) { has_version = true; subcommand_required = true } }

-- the program
abbrev pub tool : App
tool = with_subcommand (with_subcommand (with_subcommand (with_subcommand (with_subcommand bare_tool sim.top) show.top) pack.top) soak.top) loopback.top

-- ---- what they ask for

pub data Asked : Type 0 where
  Sims : (file : Text) → Asked
  Shows : (file : Text) → Asked
  Packs : (places : List ℕ) → Asked
  Soaks : (seed packets loss : ℕ) → Asked
  Loops : (packets : ℕ) (drops : Text) → Asked

-- the value of an option, a decimal between these bounds
abbrev pub number_in : Text → (least most : ℕ) → List Row → Option ℕ
number_in name least most rows = first_of name rows >>= decimal_between least most

abbrev pub place_of : Text → Option ℕ
place_of = decimal_between 0 (2 ^ 48 - 1)

-- the places that words write, all of them
abbrev pub places_of : List Text → Option (List ℕ)
places_of [] = Some []
places_of (word ∷ words) = do
  place ← place_of word
  places ← places_of words
  Some (place ∷ places)

abbrev pub file_in : List Row → Option Text
file_in = first_of (codes "FILE")

abbrev pub pack_in : List Row → Option Asked
pack_in rows = do
  words ← all_of (codes "N") rows
  places ← places_of words
  Some (Packs places)

abbrev pub soak_in : List Row → Option Asked
soak_in rows = do
  seed ← number_in (codes "seed") 0 (2 ^ 64 - 1) rows
  packets ← number_in (codes "packets") 1 10000 rows
  loss ← number_in (codes "loss") 0 1000 rows
  Some (Soaks seed packets loss)

abbrev pub loopback_in : List Row → Option Asked
loopback_in rows = do
  packets ← number_in (codes "packets") 1 1000 rows
  drops ← first_of (codes "drop") rows
  Some (Loops packets drops)

-- what a subcommand with these values asks for
abbrev pub asked_of : Text → List Row → Option Asked
asked_of name rows =
    if bytes_eq name (codes "sim") then option_map Sims (file_in rows)
    else if bytes_eq name (codes "show") then option_map Shows (file_in rows)
    else if bytes_eq name (codes "pack") then pack_in rows
    else if bytes_eq name (codes "soak") then soak_in rows
    else if bytes_eq name (codes "loopback") then loopback_in rows
    else None

abbrev pub asked_in : Option (Text × List Row) → Option Asked
asked_in = option_and_then (λ met. asked_of met.0 met.1)

-- what a command line asks for; the first word is the program's name
abbrev pub asked : List Text → Option Asked
asked words = asked_in (subcommand_of tool words)

abbrev pub said_by : Choice → Asked
said_by (choice.Sim file) = Sims file.now
said_by (choice.Show file) = Shows file.now
said_by (choice.Pack places) = Packs places.items
said_by (choice.Soak seed packets loss) = Soaks seed packets loss
said_by (choice.Loopback packets drop) = Loops packets drop.now

-- a drawn run loses at most 1000 of 1000 packets
abbrev pub IsWithin : Choice → Type 0
IsWithin (choice.Sim file) = Unit {0}
IsWithin (choice.Show file) = Unit {0}
IsWithin (choice.Pack places) = Unit {0}
IsWithin (choice.Soak seed packets loss) = loss ≤ 1000
IsWithin (choice.Loopback packets drop) = Unit {0}

-- ---- where they ask for nothing

-- a value is missing or is no decimal between its bounds, where what would be asked for is this
abbrev pub MissesIn : {A : Type 0} → Option A → ChooseFault → Type 0
MissesIn found (Line error) = ⊥
MissesIn found Value = found ≡ None
MissesIn found OutOfMemory = Unit {0}

-- the words have no mistake of the command line's form and ask for no help, and a value is missing or out of its bounds
abbrev pub LacksValue : List Text → Type 0
LacksValue words = (fault_of tool words ≡ []) × (asked words ≡ None)

-- Why these words ask for nothing: a kind of mistake or of request that they have, for which they are not taken, or
-- a value that they lack.
abbrev pub Misses : List Text → ChooseFault → Type 0
Misses words (Line error) = IsAmong (kind_of error) (fault_of tool words) × (takes tool words ≡ false)
Misses words Value = LacksValue words
Misses words OutOfMemory = Unit {0}
