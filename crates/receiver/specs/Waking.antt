-- When nothing is to be done at a receiver.
use Rattle.std.specs.Prelude.{ℕ, Option, None}
use Rattle.receiver.specs.declared.answer.Played.TheVariants.{Wait}
use Rattle.receiver.specs.Config.{Config}
use Rattle.receiver.specs.Window.{ReceiverState, PlaysAny}
use Rattle.receiver.specs.Asks.{AsksAny}

-- At this moment a play waits, and an ask asks for nothing.
pub record IsQuiet (c : Config) (state : Option ReceiverState) (now : ℕ) : Type 0 where
  pub waits : PlaysAny c.patience state now Wait state
  pub asks_nothing : AsksAny c state now None state
