use Rattle.world.proofs.laws.logs_keep_promises.Goals as goal

pub returns : goal.returns
returns c config is log end logged =
    record {
      rising = c.logs_are_in_order.ensures.rising _ _ _ _ logged.answers;
      finals = c.logs_are_in_order.ensures.finals _ _ _ _ logged.answers;
      faithful = c.wires_are_faithful.ensures.faithful _ is _ _ _ logged.answers;
      repeats = c.repeats_are_limited.ensures _ _ _ _ logged.answers;
      good = c.logs_are_good.ensures.beginnings _ is _ _ _ logged.answers;
    }
