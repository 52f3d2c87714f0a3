-- The configurations of runs.
use Rattle.std.specs.Prelude.{ℕ}
use Rattle.receiver.specs.Config.{config as receiving}
use Rattle.world.specs.Config.{Config, config}
use Rattle.world.specs.Session.{trial_session}

-- First retransmission 0, history and window of 1024; a patience of 1000000 milliseconds, asks at least 1 millisecond apart,
-- at most 3 for a place, and at most 3 retransmissions.
abbrev pub run_config : (first : ℕ) → Config
run_config first = config (receiving trial_session 1000000 1 3) first 0 1024 1024 3

-- of a drawn run
abbrev pub soak_config : Config
soak_config = run_config 60000
