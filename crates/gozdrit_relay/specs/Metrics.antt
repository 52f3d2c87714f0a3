-- Figures in the text form of Prometheus, version 0.0.4. Text is a list of octets.
use Rattle.std.specs.Prelude.{ℕ, ◌+◌, ◌/◌, ◌%◌, List, [], ◌∷◌, ◌++◌, Some, None, codes}
use Rattle.std.specs.Fmt.{decimal}
use Rattle.std.specs.List.{flat_map}
use Rattle.lines.specs.Line.{line_of}
use Rattle.gozdrit_relay.specs.declared.figures.Amount.{Amount}
use Rattle.gozdrit_relay.specs.declared.figures.Amount.TheVariants.{Count, Time, Size}
use Rattle.gozdrit_relay.specs.declared.figures.Figure.{Figure}

-- milliseconds as seconds, with three digits behind the point
abbrev pub seconds_text : ℕ → List ℕ
seconds_text time = decimal (time / 1000) ++ codes "." ++ (48 + time / 100 % 10) ∷ (48 + time / 10 % 10) ∷ (48 + time % 10) ∷ []

-- what a metric is, of which kind, and how much
abbrev pub sample_text : (name what kind amount : List ℕ) → List ℕ
sample_text name what kind amount =
    line_of (codes "# HELP" ∷ name ∷ what ∷ []) ++ line_of (codes "# TYPE" ∷ name ∷ kind ∷ []) ++ line_of (name ∷ amount ∷ [])

-- A count is a counter, a time a gauge in seconds, and a size one in octets. What is not known is left out.
abbrev pub metric_by : Amount → (name what : List ℕ) → List ℕ
metric_by (Count count) name what = sample_text (name ++ codes "_total") what (codes "counter") (decimal count)
metric_by (Time (Some time)) name what = sample_text (name ++ codes "_seconds") what (codes "gauge") (seconds_text time)
metric_by (Time None) name what = []
metric_by (Size octets) name what = sample_text (name ++ codes "_bytes") what (codes "gauge") (decimal octets)

abbrev pub metric_text : (prefix : List ℕ) → Figure → List ℕ
metric_text prefix figure = metric_by figure.amount (prefix ++ figure.name.now) figure.what.now

abbrev pub metrics_text : (prefix : List ℕ) → List Figure → List ℕ
metrics_text prefix figures = flat_map (metric_text prefix) figures
