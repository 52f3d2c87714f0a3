use Rattle.std.proofs.Common.{◌≡◌, drop}
use Rattle.serde_json.specs.Data.{no_members}
use Rattle.serde_json.specs.View.{members_view}
use Rattle.gozdrit_relay.specs.Stats.{put_all}
use Rattle.gozdrit_relay.proofs.stats.object_of.Given as goal

-- what is left of them makes all members
abbrev pub invariant-loop-figure : goal.invariant-loop-figure
invariant-loop-figure l = put_all (drop l.figure-index l.figures) (members_view l.members.entries) ≡ put_all l.figures no_members
