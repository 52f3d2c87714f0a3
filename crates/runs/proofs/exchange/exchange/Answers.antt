use Rattle.std.proofs.Common.{◌≡◌, ◌∙◌, [], None, refl, sym}
use Rattle.runs.specs.Scene.{scene_of}
use Rattle.runs.specs.Exchange.{written_at}
use Rattle.runs.proofs.TrafficSteps.{grows_nothing}
use Rattle.runs.proofs.exchange.exchange.Goals as goal

-- nothing was written, so nothing is handed over
pub returns-in-None-clause-done : goal.returns-in-None-clause-done
returns-in-None-clause-done g c =
    let happened = c.in_ok-happen.ensures.happens in
    let none : written_at happened.0 ≡ None = sym (c.written_last.ensures c.args.world.now.log happened.0 happened.1.log) ∙ c.in-None.is in
    record {
      entry = happened.0;
      mid = scene_of c.happen.new.world;
      happens = happened.1;
      moved = [];
      hands = rw none (refl, refl, refl);
      tells = grows_nothing (g.L.Link.traffic c.args.link.now);
    }
