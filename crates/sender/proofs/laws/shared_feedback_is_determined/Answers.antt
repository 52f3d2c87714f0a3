use Rattle.std.proofs.Common.{arith, sym, ◌∙◌}
use Rattle.sender.proofs.InFull.{in_full}
use Rattle.sender.proofs.Ours.{ours_few}
use Rattle.sender.proofs.SameMarks.{Laws}
use Rattle.sender.proofs.SameShared.{one_shared, same_as_feedback, shares_alone, marks_or_refuses, is_mine, is_foreign, ours_alone, theirs_alone, ours_first, theirs_second, ours_second, theirs_first}
use Rattle.sender.proofs.laws.shared_feedback_is_determined.Goals as goal

pub returns : goal.returns
returns g =
    let law = g.compound_is_determined.ensures in
    let laws : Laws =
    record {
      one_list = law.one_list;
      one_fault = law.one_fault;
      not_both = law.not_both;
      alone = law.alone;
      decided = law.decided;
    } in
    record {
      one = λ c old octets x y v w a b. one_shared laws c old octets x y v w a b;
      same = λ c old octets x y v w all a b. same_as_feedback laws c old octets v w x y all a b;
      alone = λ c old octets answer new nack spells media reporter hears.
          let mine = is_mine c nack media reporter in
          shares_alone laws c old octets new nack 0 _ (law.alone nack octets spells) (ours_alone c nack mine) (theirs_alone c nack mine) answer hears;
      two = λ c d old before octets x y new after a b spells apart media reporter media' reporter' hears hears'.
          let mine = is_mine c a media reporter in
          let other = is_foreign c b (λ same. apart (sym same ∙ media')) in
          let mine' = is_mine d b media' reporter' in
          let other' = is_foreign d a (λ same. apart (sym media ∙ same)) in (
            shares_alone laws c old octets new a 1 _ spells (ours_first c a mine b other) (theirs_second c a mine b other) x hears,
            shares_alone laws d before octets after b 1 _ spells (ours_second d b mine' a other') (theirs_first d b mine' a other') y hears',
          );
      any = λ c old octets answer new hears. marks_or_refuses laws c old octets answer new hears;
      whole = λ c octets nacks spells short.
          let few = law.few octets nacks spells in
          let mine = ours_few c nacks in
          (omega (arith, few.0, short), omega (arith, few.1, mine.1, short));
      in_full = λ c old octets nacks shared new spells short hears.
          let few = law.few octets nacks spells in
          let mine = ours_few c nacks in
          in_full laws c old octets nacks shared new spells (omega (arith, few.0, short)) (omega (arith, few.1, mine.1, short)) hears;
    }
