use Rattle.receiver.proofs.FewAsks.{many_is_any, asks_where_due}
use Rattle.receiver.proofs.SameAsks.{one_ask_most}
use Rattle.receiver.proofs.laws.asking_most_is_asking.Goals as goal

pub returns : goal.returns
returns c =
    record {
      one = λ config now most old r s v w a b. one_ask_most c.packing_is_determined.ensures.one config now v w old most r s a b;
      all = λ config now most old answer new l. many_is_any config old now most answer new l;
      none = λ config now most old answer new some asks. asks_where_due config old now most answer new some asks;
    }
