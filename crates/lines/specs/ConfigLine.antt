-- What a config line says: `config FIRST RFIRST HISTORY WINDOW PATIENCE RETRY ASKS REPEATS`, and `learn`
-- behind them where the receiver is to learn the SSRC of the retransmissions.
use Rattle.std.specs.Prelude.{ℕ, Bool, true, false, ◌^◌, ◌-◌, nat_le, List, [], ◌∷◌, length, codes, if◌then◌else◌, Option, Some, None}
use Rattle.std.specs.Str.{bytes_eq}
use Rattle.receiver.specs.Config.{config_of as receiving}
use Rattle.world.specs.Config.{Config, config}
use Rattle.world.specs.Session.{trial_session}
use Rattle.lines.specs.Steps.{◌>>=◌}
use Rattle.lines.specs.Words.{words_of, longest_line}
use Rattle.lines.specs.Numbers.{numbers_first}

-- what each number of a config line may be: the least, and the most
abbrev pub config_bounds : List (ℕ × ℕ)
config_bounds =
    (0, 65535)  -- the sequence number of the first send
    ∷ (0, 65535)  -- and of the first retransmission
    ∷ (1, 8192)  -- how many contents the sender keeps
    ∷ (1, 8192)  -- how many places the receiver keeps
    ∷ (0, 2 ^ 64 - 1)  -- patience, in milliseconds
    ∷ (1, 2 ^ 64 - 1)  -- retry, in milliseconds
    ∷ (1, 255)  -- how often a place is asked for
    ∷ (1, 255)  -- how often a content is sent again
    ∷ []

-- what the words behind the numbers say: whether the receiver learns
abbrev pub learns_of : List (List ℕ) → Option Bool
learns_of [] = Some false
learns_of (word ∷ []) = if bytes_eq word (codes "learn") then Some true else None
learns_of _ = None

-- the numbers of a config line in their order, and whether the receiver learns
abbrev pub config_with : List ℕ → (learns : Bool) → Option Config
config_with (first ∷ repair_first ∷ history ∷ window ∷ patience ∷ retry ∷ asks ∷ repeats ∷ []) learns =
    Some (config (receiving trial_session patience retry asks learns) first repair_first history window repeats)
config_with _ _ = None

-- the words behind `config`
abbrev pub configuration_of : List (List ℕ) → Option Config
configuration_of words = do
  numbers ← numbers_first config_bounds words
  learns ← learns_of numbers.1
  config_with numbers.0 learns

abbrev pub config_of_words : List (List ℕ) → Option Config
config_of_words [] = None
config_of_words (kind ∷ words) = if bytes_eq kind (codes "config") then configuration_of words else None

-- what a line says as a config line, if it is one
abbrev pub config_of : List ℕ → Option Config
config_of line = if nat_le (length line) longest_line then config_of_words (words_of line) else None
