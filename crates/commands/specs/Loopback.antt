-- A run over a link, of a world that was new before it.
use Rattle.std.specs.Prelude.{◌≡◌, ℕ, List, length, Option}
use Rattle.world.specs.Config.{Config}
use Rattle.runs.specs.declared.link.Transfer.{Transfer}
use Rattle.runs.specs.declared.tally.Tally.{Tally}
use Rattle.runs.specs.Drive.{Reaches, StopsRun, done, plan_of, send_from}
use Rattle.runs.specs.Scene.{Scene, new_scene}
use Rattle.runs.specs.Session.{run_config}
use Rattle.runs.specs.Tally.{tally_of}

-- the configuration of a run over a link
abbrev pub loopback_config : Config
loopback_config = run_config 65000

-- The tally is that of the log of a run of so many packets, of which these are dropped.
pub record RunsOverLink (packets : ℕ) (drop : List ℕ) (told telling : Option (List Transfer)) (tally : Tally) : Type 0 where
  pub end : Scene
  pub run : Reaches loopback_config (plan_of packets drop) (send_from (plan_of packets drop) 0) (new_scene loopback_config) told done end telling
  pub counts : tally ≡ tally_of (length drop) end.log

-- a beginning of such a run was done
pub record StopsOverLink (packets : ℕ) (drop : List ℕ) (told telling : Option (List Transfer)) : Type 0 where
  pub end : Scene
  pub run : StopsRun loopback_config (plan_of packets drop) (send_from (plan_of packets drop) 0) (new_scene loopback_config) told end telling
