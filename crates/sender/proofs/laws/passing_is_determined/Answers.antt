use Rattle.sender.proofs.Passes.{one_passing, same_place, same_entry, same_others, left_above, marked_again}
use Rattle.sender.proofs.laws.passing_is_determined.Goals as goal

pub returns : goal.returns
returns c =
    record {
      one = λ old x y v w a b. one_passing old x y v w a b;
      same = λ old v w p q e f repairs passes.
          (same_place old v w p q e f repairs passes, same_entry old v w p q e f repairs passes, same_others old v w p q e f repairs passes);
      above = λ old new p e passes. left_above old new p e passes;
      again = λ repeats old between new p count e passes below one marks. marked_again repeats old between new p count e passes below one marks;
    }
