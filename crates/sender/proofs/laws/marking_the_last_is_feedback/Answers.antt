use Rattle.sender.proofs.SameMarks.{Laws}
use Rattle.sender.proofs.SameShared.{last_is_feedback}
use Rattle.sender.proofs.laws.marking_the_last_is_feedback.Goals as goal

pub returns : goal.returns
returns g =
    let law = g.compound_is_determined.ensures in
    let laws : Laws =
    record {
      one_list = law.one_list;
      one_fault = law.one_fault;
      not_both = law.not_both;
      alone = law.alone;
      decided = law.decided;
    } in
    λ c old octets nack answer new marked after spells media reporter names hears marks.
    last_is_feedback laws c old octets nack answer new marked after spells media reporter names hears marks
