use Rattle.std.proofs.Common.{Some, sym, ap, ◌∙◌}
use Rattle.endpoint.specs.Answering.{last_of}
use Rattle.endpoint.proofs.LastPair.{last_by, last_of_the_last}
use Rattle.endpoint.proofs.answering.last_of_pairs.Goals as goal

pub returns-in-Some : goal.returns-in-Some
returns-in-Some c =
    c.last_of.ensures ∙ ap (last_of (Some c.in-Some.pair.pid)) c.masked.ensures ∙ ap (last_by c.args.before) c.in-Some.ensures
    ∙ sym (last_of_the_last c.args.before c.args.pairs)

pub returns-in-None : goal.returns-in-None
returns-in-None c = ap (last_by c.args.before) c.in-None.ensures ∙ sym (last_of_the_last c.args.before c.args.pairs)
