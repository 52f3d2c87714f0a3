use Rattle.commands.specs.DropList.{pieces_of}
use Rattle.commands.proofs.DropLemmas.{rising_from-below, rising_from-rises}
use Rattle.commands.proofs.drops.drop_list.Goals as goal

pub returns-clause-rising : goal.returns-clause-rising
returns-clause-rising c = rising_from-rises 0 c.args.packets (pieces_of c.as_bytes-text.result.now) c.in_ok-numbers.field-0.items c.in_ok-numbers.ensures

pub returns-clause-below : goal.returns-clause-below
returns-clause-below c = rising_from-below 0 c.args.packets (pieces_of c.as_bytes-text.result.now) c.in_ok-numbers.field-0.items c.in_ok-numbers.ensures
