use Rattle.stores.proofs.SlotPlaces.{same_spans}
use Rattle.stores.proofs.PutPlaces.{put_by_place}
use Rattle.stores.proofs.AskPlaces.{places_between, lists_due, lists_missing, due_may_be_asked, count_ask_by_place}
use Rattle.stores.proofs.by_place.window_by_place.Goals as goal

pub returns-clause-same : goal.returns-clause-same
returns-clause-same c = same_spans

pub returns-clause-put : goal.returns-clause-put
returns-clause-put c = λ old new place now content result. put_by_place old new place content now result

pub returns-clause-places : goal.returns-clause-places
returns-clause-places c = places_between

pub returns-clause-due : goal.returns-clause-due
returns-clause-due c = lists_due

pub returns-clause-missing : goal.returns-clause-missing
returns-clause-missing c = lists_missing

pub returns-clause-askable : goal.returns-clause-askable
returns-clause-askable c = due_may_be_asked

pub returns-clause-count_ask : goal.returns-clause-count_ask
returns-clause-count_ask c = count_ask_by_place
