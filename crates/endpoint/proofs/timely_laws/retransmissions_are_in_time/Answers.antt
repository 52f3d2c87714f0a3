use Rattle.std.proofs.Common.{◌≡◌, ℕ, arith}
use Rattle.endpoint.specs.Counts.{count_in_64, IsInFull}
use Rattle.endpoint.proofs.Always.{always_as_before}
use Rattle.endpoint.proofs.InTime.{always_goes}
use Rattle.endpoint.proofs.TimelyRun.{Law, early_counted, expired_counted, kept_times, goes_in_time, none_in_time, below_late, above_stays}
use Rattle.endpoint.proofs.timely_laws.retransmissions_are_in_time.Goals as goal

in_full : (count total : ℕ) → count ≡ count_in_64 total → IsInFull count total
in_full count total is = record { below = λ l. omega (arith, is, l); above = λ l. omega (arith, is, l) }

pub returns : goal.returns
returns g =
    let law : Law = λ c old octets answer new hears. g.shared_feedback_is_determined.ensures.any c old octets answer new hears in
    record {
      kept = λ c capacity some events t runs. kept_times law c capacity some events t runs;
      goes = λ c capacity rule some before old runs now early expired packet new steps. goes_in_time law c capacity some before old runs rule now early expired packet new steps;
      none = λ c capacity rule some before old runs now early expired new steps q marked. none_in_time law c capacity some before old runs rule now early expired new steps q marked;
      below = λ c capacity rule some before old runs now early expired packet new steps q under marked. below_late law c capacity some before old runs rule now early expired packet new steps q under marked;
      above = λ c capacity rule some before old runs now early expired packet new steps q above. above_stays law c capacity some before old runs rule now early expired packet new steps q above;
      counted = λ c capacity events t runs.
          (in_full _ _ (early_counted c capacity events t runs), in_full _ _ (expired_counted c capacity events t runs));
      always = always_goes;
      as_before = λ cells s now old passed out answer out' new passed' early expired resends. always_as_before cells s now old passed out answer out' new passed' early expired resends;
    }
