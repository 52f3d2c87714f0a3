use Rattle.receiver.proofs.SameHearing.{Laws, one_hearing, media_heard, repair_heard}
use Rattle.receiver.proofs.Whichever.{whichever}
use Rattle.receiver.proofs.laws.hearing_is_determined.Goals as goal

pub returns : goal.returns
returns c =
    let laws : Laws =
    record {
      one_packet = c.spelling_is_determined.ensures.one;
      passes = c.spelling_is_determined.ensures.passes;
      one_content = λ content other m n t s same. (c.content_is_determined.ensures.one content other m m n n t t s s same).0;
      one_near = c.near_is_determined.ensures.one;
      near_not_far = c.near_is_determined.ensures.near_not_far;
      near_not_past_end = c.near_is_determined.ensures.near_not_past_end;
      far_not_past_end = c.near_is_determined.ensures.far_not_past_end;
      one_repair = c.repair_is_determined.ensures.one_packet;
      long = c.repair_is_determined.ensures.long;
    } in
    record { one = one_hearing laws; media = media_heard laws; repair = repair_heard laws; any = whichever }
