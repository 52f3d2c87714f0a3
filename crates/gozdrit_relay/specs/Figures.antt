-- What is told of a run, figure by figure. Text is a list of octets.
use Rattle.std.specs.Prelude.{ℕ, List, [], ◌∷◌, Some, None, codes}
use Rattle.std.specs.Fmt.{decimal}
use Rattle.gozdrit_relay.specs.declared.figures.Amount.{Amount}
use Rattle.gozdrit_relay.specs.declared.figures.Amount.TheVariants.{Count, Time, Size}
use Rattle.gozdrit_relay.specs.declared.figures.Figure.{Figure}

-- a number, or a dash where none is known
abbrev pub amount_text : Amount → List ℕ
amount_text (Count count) = decimal count
amount_text (Time (Some time)) = decimal time
amount_text (Time None) = codes "-"
amount_text (Size octets) = decimal octets

-- a figure in the line of counts: its name and its amount
abbrev pub figure_words : Figure → List (List ℕ)
figure_words figure = figure.name.now ∷ amount_text figure.amount ∷ []
