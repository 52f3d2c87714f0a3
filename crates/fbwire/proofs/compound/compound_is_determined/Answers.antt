use Rattle.fbwire.proofs.CheckOrder.{datagram_in_order, seen}
use Rattle.fbwire.proofs.Lengths.{few, of_reader}
use Rattle.fbwire.proofs.NameLists.{list_names, names_or_not}
use Rattle.fbwire.proofs.Walks.{one_list, one_fault, not_both, alone}
use Rattle.fbwire.proofs.compound.compound_is_determined.Goals as goal

pub returns-clause-one_list : goal.returns-clause-one_list
returns-clause-one_list c = one_list

pub returns-clause-one_fault : goal.returns-clause-one_fault
returns-clause-one_fault c = one_fault

pub returns-clause-not_both : goal.returns-clause-not_both
returns-clause-not_both c = not_both

pub returns-clause-alone : goal.returns-clause-alone
returns-clause-alone c = alone

pub returns-clause-names : goal.returns-clause-names
returns-clause-names c = list_names

pub returns-clause-decided : goal.returns-clause-decided
returns-clause-decided c = names_or_not

pub returns-clause-order : goal.returns-clause-order
returns-clause-order c = λ octets answer fits so. datagram_in_order octets fits answer so

pub returns-clause-seen : goal.returns-clause-seen
returns-clause-seen c = seen

pub returns-clause-few : goal.returns-clause-few
returns-clause-few c = few

pub returns-clause-reader : goal.returns-clause-reader
returns-clause-reader c = of_reader
