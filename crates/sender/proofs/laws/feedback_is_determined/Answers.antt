use Rattle.sender.proofs.SameMarks.{Laws, one_feedback, one_alone, whichever}
use Rattle.sender.proofs.laws.feedback_is_determined.Goals as goal

pub returns : goal.returns
returns d =
    let law = d.compound_is_determined.ensures in
    let laws : Laws =
    record {
      one_list = law.one_list;
      one_fault = law.one_fault;
      not_both = law.not_both;
      alone = law.alone;
      decided = law.decided;
    } in
    record {
      one = λ c old octets x y v w a b. one_feedback laws c old octets x y v w a b;
      alone = λ c old octets answer new nack spells media reporter hears. one_alone laws c old octets answer new nack spells media reporter hears;
      any = λ c old octets answer new hears. whichever laws c old octets answer new hears;
    }
