use Rattle.gozdrit.proofs.Blank.{none_blank}
use Rattle.gozdrit.proofs.laws.longer_configurations_say_no_more.Goals as goal

pub returns-clause-says_more : goal.returns-clause-says_more
returns-clause-says_more c known size octet before after some says = none_blank before octet after some says.1
