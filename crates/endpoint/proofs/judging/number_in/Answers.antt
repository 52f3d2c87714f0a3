use Rattle.std.proofs.Common.{ap, ◌∙◌}
use Rattle.endpoint.specs.Receiving.{media_number_of}
use Rattle.endpoint.proofs.judging.number_in.Goals as goal

pub returns-clause-number : goal.returns-clause-number
returns-clause-number c = λ octets spelled p same. c.number_of.ensures ∙ ap (media_number_of c.args.session.now) (c.spelling_is_determined.ensures.one c.args.packet.now p octets spelled same)
