use Rattle.stores.proofs.EntryPlaces.{inside_by_place, ends_by_place, entry_by_place, same_by_place, one_by_place}
use Rattle.stores.proofs.EntryChanges.{push_by_place, mark_by_place, unmark_by_place, repeat_by_place}
use Rattle.stores.proofs.EntrySearch.{finds_by_place, least_by_place}
use Rattle.stores.proofs.NoneOf17.{none_of_17}
use Rattle.stores.proofs.by_place.history_by_place.Goals as goal

pub returns-clause-inside : goal.returns-clause-inside
returns-clause-inside c = inside_by_place

pub returns-clause-ends : goal.returns-clause-ends
returns-clause-ends c = ends_by_place

pub returns-clause-entry : goal.returns-clause-entry
returns-clause-entry c = entry_by_place

pub returns-clause-same : goal.returns-clause-same
returns-clause-same c = same_by_place

pub returns-clause-push : goal.returns-clause-push
returns-clause-push c = push_by_place

pub returns-clause-mark : goal.returns-clause-mark
returns-clause-mark c = mark_by_place

pub returns-clause-unmark : goal.returns-clause-unmark
returns-clause-unmark c = unmark_by_place

pub returns-clause-count_repeat : goal.returns-clause-count_repeat
returns-clause-count_repeat c = repeat_by_place

pub returns-clause-find : goal.returns-clause-find
returns-clause-find c = finds_by_place

pub returns-clause-one : goal.returns-clause-one
returns-clause-one c = one_by_place

pub returns-clause-least_marked : goal.returns-clause-least_marked
returns-clause-least_marked c = least_by_place

pub returns-clause-none : goal.returns-clause-none
returns-clause-none c = none_of_17
