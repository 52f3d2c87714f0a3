-- What an event line says.
use Rattle.std.specs.Prelude.{ℕ, ◌^◌, ◌-◌, ◌==◌, nat_le, List, [], ◌∷◌, length, codes, if◌then◌else◌, Option, Some, None}
use Rattle.std.specs.Str.{bytes_eq}
use Rattle.rtpwire.specs.declared.limits.TheConstants.{MAX_DATAGRAM, MAX_PAYLOAD}
use Rattle.world.specs.declared.event.Event.{Event}
use Rattle.world.specs.declared.event.Event.TheVariants.{Send, Repair, Ask, Deliver, Play, Inject}
use Rattle.world.specs.declared.event.End.{End}
use Rattle.world.specs.declared.event.End.TheVariants.{Sender, Receiver}
use Rattle.lines.specs.Steps.{◌>>=◌}
use Rattle.lines.specs.Words.{words_of, longest_line}
use Rattle.lines.specs.Decimal.{decimal_up_to}
use Rattle.lines.specs.Numbers.{numbers_between}
use Rattle.lines.specs.Octets.{vector_of, octets_up_to, sources_of_word, extension_of_word}

-- a moment in milliseconds
abbrev pub number_of : List ℕ → Option ℕ
number_of word = decimal_up_to (2 ^ 64 - 1) word

-- `S TIMESTAMP MARKER PADDING PAYLOAD CSRC EXT`: a send. The marker is 0 or 1, PADDING the count of its
-- octets.
abbrev pub send_of : List (List ℕ) → Option Event
send_of (timestamp ∷ marker ∷ padding ∷ payload ∷ sources ∷ extension ∷ []) = do
  timestamp ← decimal_up_to (2 ^ 32 - 1) timestamp
  marker ← decimal_up_to 1 marker
  padding ← decimal_up_to 255 padding
  payload ← octets_up_to MAX_PAYLOAD payload
  sources ← sources_of_word sources
  extension ← extension_of_word extension
  Some (Send (record { payload = vector_of payload; timestamp = timestamp; marker = marker == 1; sources = vector_of sources; extension = extension }) padding)
send_of _ = None

-- `R`: the sender retransmits
abbrev pub repair_of : List (List ℕ) → Option Event
repair_of [] = Some Repair
repair_of _ = None

-- the least and the most of an index, and of a moment
abbrev pub any_number : ℕ × ℕ
any_number = (0, 2 ^ 64 - 1)

abbrev pub ask_with : List ℕ → Option Event
ask_with (moment ∷ []) = Some (Ask moment)
ask_with _ = None

-- `A NOW`: the receiver asks
abbrev pub ask_of : List (List ℕ) → Option Event
ask_of words = numbers_between (any_number ∷ []) words >>= ask_with

abbrev pub delivery_with : List ℕ → Option Event
delivery_with (index ∷ moment ∷ []) = Some (Deliver index moment)
delivery_with _ = None

-- `D INDEX NOW`: the wire's datagram at an index is delivered
abbrev pub delivery_of : List (List ℕ) → Option Event
delivery_of words = numbers_between (any_number ∷ any_number ∷ []) words >>= delivery_with

abbrev pub play_with : List ℕ → Option Event
play_with (moment ∷ []) = Some (Play moment)
play_with _ = None

-- `P NOW`: the receiver plays
abbrev pub play_of : List (List ℕ) → Option Event
play_of words = numbers_between (any_number ∷ []) words >>= play_with

-- an end, by its letter
abbrev pub end_of_word : List ℕ → Option End
end_of_word word = if bytes_eq word (codes "r") then Some Receiver else if bytes_eq word (codes "s") then Some Sender else None

-- `I END OCTETS NOW`: a datagram that nobody sent reaches an end
abbrev pub injection_of : List (List ℕ) → Option Event
injection_of (end ∷ octets ∷ now ∷ []) = do
  end ← end_of_word end
  datagram ← octets_up_to MAX_DATAGRAM octets
  moment ← number_of now
  Some (Inject end (vector_of datagram) moment)
injection_of _ = None

abbrev pub event_of_words : List (List ℕ) → Option Event
event_of_words [] = None
event_of_words (kind ∷ words) =
    if bytes_eq kind (codes "S") then send_of words
    else if bytes_eq kind (codes "R") then repair_of words
    else if bytes_eq kind (codes "A") then ask_of words
    else if bytes_eq kind (codes "D") then delivery_of words
    else if bytes_eq kind (codes "P") then play_of words
    else if bytes_eq kind (codes "I") then injection_of words
    else None

-- what a line says as an event line, if it is one
abbrev pub event_of : List ℕ → Option Event
event_of line = if nat_le (length line) longest_line then event_of_words (words_of line) else None
