use Rattle.rtxtool.proofs.CommandLemmas.{show_asked, show_hyphen_asked, show_hyphen_taken, show_taken, sim_asked, sim_hyphen_asked, sim_hyphen_taken, sim_taken}
use Rattle.rtxtool.proofs.laws.command_lines_are_read.Goals as goal

pub returns-clause-sim : goal.returns-clause-sim
returns-clause-sim c = sim_asked

pub returns-clause-sim_taken : goal.returns-clause-sim_taken
returns-clause-sim_taken c = sim_taken

pub returns-clause-sim_hyphen : goal.returns-clause-sim_hyphen
returns-clause-sim_hyphen c = sim_hyphen_asked

pub returns-clause-sim_hyphen_taken : goal.returns-clause-sim_hyphen_taken
returns-clause-sim_hyphen_taken c = sim_hyphen_taken

pub returns-clause-show : goal.returns-clause-show
returns-clause-show c = show_asked

pub returns-clause-show_taken : goal.returns-clause-show_taken
returns-clause-show_taken c = show_taken

pub returns-clause-show_hyphen : goal.returns-clause-show_hyphen
returns-clause-show_hyphen c = show_hyphen_asked

pub returns-clause-show_hyphen_taken : goal.returns-clause-show_hyphen_taken
returns-clause-show_hyphen_taken c = show_hyphen_taken
