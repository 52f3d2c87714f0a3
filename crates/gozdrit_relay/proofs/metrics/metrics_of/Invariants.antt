use Rattle.std.proofs.Common.{◌≡◌, take}
use Rattle.std.specs.List.{flat_map}
use Rattle.gozdrit_relay.specs.Metrics.{metric_text}
use Rattle.gozdrit_relay.proofs.metrics.metrics_of.Given as goal

-- the text so far has the metrics of the figures so far
abbrev pub invariant-loop-figure : goal.invariant-loop-figure
invariant-loop-figure l = l.text.items ≡ flat_map (metric_text l.prefix) (take l.figure-index l.figures)
