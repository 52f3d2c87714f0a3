use Rattle.relays.proofs.holding.+stamp_from.Given as goal

abbrev pub decreases-stamp_from : goal.decreases-stamp_from
decreases-stamp_from g l = l.ahead
