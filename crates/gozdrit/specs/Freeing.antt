-- What `gozdrit_sender_free` and `gozdrit_receiver_free` answer to C, by the end that the handle held before and after.
use Rattle.std.specs.Prelude.{◌≡◌, ℤ, Option, None, IsSome}
use Rattle.gozdrit.specs.Codes.{ok, no_end}

pub record AnswersFree {X : Type 0} (old : Option X) (code : ℤ) (new : Option X) : Type 0 where
  pub none : old ≡ None → (code ≡ no_end) × (new ≡ old)
  pub freed : IsSome old → (code ≡ ok) × (new ≡ None)
