use Rattle.std.proofs.Common.{◌≡◌, ◌+◌, ◌-◌, ◌*◌, ◌≤◌, ◌++◌, vec_len}
use Rattle.std.specs.Vec.{vec_capacity}
use Rattle.rand_core.specs.Stream.{next_u32}
use Rattle.rand_core.specs.Steps.{first_words}
use Rattle.world.specs.Schedule.{schedule, after_words}
use Rattle.world.proofs.scheduling.schedule.Given as goal

-- what is appended, and what is still to come, is the whole; so it is with the words; and there is room
abbrev pub invariant-loop-sent : goal.invariant-loop-sent
invariant-loop-sent g l =
    record {
      whole :
          l.out.items ++ schedule l.loss (l.first_index + l.sent) (l.first_moment + l.sent) (first_words next_u32 (l.packets - l.sent) (g.R.Rng.stream l.rng))
          ≡ l.fn.out.items ++ schedule l.loss l.first_index l.first_moment (first_words next_u32 l.packets (g.R.Rng.stream l.fn.rng));
      drawn : after_words (l.packets - l.sent) (g.R.Rng.stream l.rng) ≡ after_words l.packets (g.R.Rng.stream l.fn.rng);
      room : vec_len l.out + 2 * (l.packets - l.sent) ≤ vec_capacity l.out;
    }
