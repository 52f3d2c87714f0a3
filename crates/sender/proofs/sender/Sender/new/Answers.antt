use Rattle.std.proofs.Common.{rules, List, ap}
use Rattle.stores.specs.declared.entry.HistoryEntry.{HistoryEntry}
use Rattle.stores.specs.Past.{entry_of}
use Rattle.sender.proofs.SameSteps.{same_history}
use Rattle.sender.proofs.sender.Sender.new.Goals as goal

pub returns-clause-state : goal.returns-clause-state
returns-clause-state g c =
    same_history _ _ (search rules) (search rules) (λ q. ap (λ (entries : List HistoryEntry). entry_of entries q) c.requires)
