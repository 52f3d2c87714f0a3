use Rattle.stores.proofs.AskedBlocks.{bound_but_none, due_from_none}
use Rattle.stores.proofs.due.counting.Asked.turn_to.Goals as goal

pub returns-clause-bound : goal.returns-clause-bound
returns-clause-bound c = λ rule front slots but due. bound_but_none rule c.word_at-self.result c.note_asks.new.bounds.items front slots (c.note_asks.ensures.bound rule front slots but due)

pub returns-clause-asked : goal.returns-clause-asked
returns-clause-asked c = λ rule words front slots due. due_from_none rule c.word_at-self.result c.args.again words front slots
