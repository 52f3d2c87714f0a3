-- All counts as one JSON object (RFC 8259).
use Rattle.std.specs.Prelude.{ℕ, List, [], ◌∷◌, ◌++◌, codes, Some, None}
use Rattle.serde_json.specs.Written.{compact_text}
use Rattle.serde_json.specs.Data.{Data, Members, null, number, unsigned, object, no_members, put}
use Rattle.gozdrit_relay.specs.declared.figures.Amount.{Amount}
use Rattle.gozdrit_relay.specs.declared.figures.Amount.TheVariants.{Count, Time, Size}
use Rattle.gozdrit_relay.specs.declared.figures.Figure.{Figure}

-- a number, or null where none is known
abbrev pub data_of : Amount → Data
data_of (Count count) = number (unsigned count)
data_of (Time (Some time)) = number (unsigned time)
data_of (Time None) = null
data_of (Size octets) = number (unsigned octets)

-- each figure under its name
abbrev pub put_all : List Figure → Members → Members
put_all [] members = members
put_all (figure ∷ figures) members = put_all figures (put figure.name.now (data_of figure.amount) members)

abbrev pub object_of : List Figure → Data
object_of figures = object (put_all figures no_members)

-- the object as one line
abbrev pub stats_line : List Figure → List ℕ
stats_line figures = compact_text (object_of figures) ++ codes "\n"
