use Rattle.world.proofs.Faithful.{wired, spelled}
use Rattle.world.proofs.Packed.{packed}
use Rattle.world.proofs.Recent.{recent}
use Rattle.world.proofs.laws.wires_are_faithful.Goals as goal

pub returns : goal.returns
returns c =
    let wire = wired c.feedback_is_determined.ensures.any c.compound_is_determined.ensures.decided c.nack_is_determined.ensures.one_nack in
    record {
      faithful = λ config met events past end answers. (wire config met events past end answers).faithful;
      spelled = spelled;
      packed = packed;
      recent = λ config met events past end answers later before place index is.
          recent config past later before place index end.wire is (wire config met events past end answers).faithful;
    }
