use Rattle.gozdrit_relay.proofs.Objects.{text_of_object}
use Rattle.gozdrit_relay.proofs.stats.stats_text.Goals as goal

pub returns : goal.returns
returns c = text_of_object _ _ c.args.figures.now c.to_string.ensures.text c.in_ok-object_of.ensures
