use Rattle.rtpwire.proofs.Frames.{splits_once, breaks_once, splits_or_breaks}
use Rattle.rtpwire.proofs.laws.framing_is_determined.Goals as goal

pub returns-clause-one : goal.returns-clause-one
returns-clause-one c = λ a b r s stream x y. let same = splits_once a b r s stream x y in (same.datagrams, same.after)

pub returns-clause-one_broken : goal.returns-clause-one_broken
returns-clause-one_broken c = λ a b stream x y. (breaks_once a b stream x y).datagrams

pub returns-clause-apart : goal.returns-clause-apart
returns-clause-apart c = splits_or_breaks
