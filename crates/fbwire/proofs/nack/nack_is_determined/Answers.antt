use Rattle.fbwire.proofs.CheckOrder.{nack_in_order}
use Rattle.fbwire.proofs.NackSpelling.{no_fault, read_as, one_nack, one_spelling}
use Rattle.fbwire.proofs.NameLists.{names_contains}
use Rattle.fbwire.proofs.nack.nack_is_determined.Goals as goal

pub returns-clause-passes : goal.returns-clause-passes
returns-clause-passes c = no_fault

pub returns-clause-read_back : goal.returns-clause-read_back
returns-clause-read_back c = read_as

pub returns-clause-one_nack : goal.returns-clause-one_nack
returns-clause-one_nack c = λ octets a b s t. one_nack a b octets s t

pub returns-clause-one_spelling : goal.returns-clause-one_spelling
returns-clause-one_spelling c = one_spelling

pub returns-clause-names : goal.returns-clause-names
returns-clause-names c = names_contains

pub returns-clause-order : goal.returns-clause-order
returns-clause-order c = nack_in_order
