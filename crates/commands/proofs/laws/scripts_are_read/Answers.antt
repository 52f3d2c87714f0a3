use Rattle.commands.proofs.IsScriptLemmas.{no_bad_line, read_config, read_events, read_script}
use Rattle.commands.proofs.laws.scripts_are_read.Goals as goal

pub returns-clause-no_fault : goal.returns-clause-no_fault
returns-clause-no_fault c = no_bad_line

pub returns-clause-config : goal.returns-clause-config
returns-clause-config c = read_config

pub returns-clause-events : goal.returns-clause-events
returns-clause-events c = read_events

pub returns-clause-script : goal.returns-clause-script
returns-clause-script c = read_script
