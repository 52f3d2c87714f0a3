use Rattle.std.proofs.Common.{◌∙◌, sym}
use Rattle.std.proofs.lemmas.Option.{none-some}
use Rattle.rtpwire.proofs.Checks.{no_fault}
use Rattle.rtpwire.proofs.OctetsIn.{each_of, spelled_octets}
use Rattle.rtpwire.proofs.Seen.{seen-spelled}
use Rattle.rtpwire.proofs.Spelled.{spelled}
use Rattle.rtpwire.proofs.Written.{written-spelled}
use Rattle.rtpwire.proofs.laws.spelling_is_determined.Goals as goal

pub returns-clause-one : goal.returns-clause-one
returns-clause-one c = λ p q octets s t. sym (spelled p octets s).seen ∙ (spelled q octets t).seen

pub returns-clause-written : goal.returns-clause-written
returns-clause-written c = written-spelled

pub returns-clause-are_octets : goal.returns-clause-are_octets
returns-clause-are_octets c = spelled_octets

pub returns-clause-passes : goal.returns-clause-passes
returns-clause-passes c = λ p octets s. no_fault octets (spelled p octets s).passes

pub returns-clause-refused : goal.returns-clause-refused
returns-clause-refused c = λ p octets fault refused s. none-some fault (sym (no_fault octets (spelled p octets s).passes) ∙ refused)

pub returns-clause-seen : goal.returns-clause-seen
returns-clause-seen c = λ octets all none. seen-spelled octets (each_of octets all) none

pub returns-clause-only_seen : goal.returns-clause-only_seen
returns-clause-only_seen c = λ p octets s. (spelled p octets s).seen
