use Rattle.std.proofs.Common.{◌≡◌, ◌+◌, ◌-◌, refl, sym, ap, subst, ◌∙◌, arith}
use Rattle.rand_core.specs.Stream.{Stream, next_u32}
use Rattle.rand_core.specs.Steps.{first_words}
use Rattle.world.specs.Config.{Config}
use Rattle.world.specs.Schedule.{after_words}
use Rattle.runs.specs.Tally.{tally_of}
use Rattle.runs.specs.Scene.{scene_of}
use Rattle.runs.specs.Soak.{lost, IsBlock, IsSoak}
use Rattle.runs.proofs.TrafficSteps.{on_err}
use Rattle.runs.proofs.SoakSteps.{lost_most, lost_split, words_split, soak_end, soak_more}
use Rattle.runs.proofs.soaking.soak_world.Goals as goal

pub loop-done-preserved : goal.loop-done-preserved
loop-done-preserved g c =
    let was = c.loop-done.invariant in
    let block = c.in_ok-dropped.ensures in
    let size = c.min-size.ensures in
    let left = c.args.packets - c.loop-done.done in
    let rest = c.args.packets - (c.loop-done.done + c.min-size.result) in
    let stream = g.R.Rng.stream c.loop-done.rng in
    let split : left ≡ c.min-size.result + rest = omega (arith, size, was.most) in
    record {
      config = block.config ∙ was.config;
      most = omega (arith, size, was.most);
      fits = omega (arith, block.most, was.fits);
      whole = λ end from.
          was.whole end
          (soak_more c.args.world.now.config c.args.loss c.loop-done.done left c.min-size.result rest stream (scene_of c.loop-done.world) (scene_of c.soak_block.new.world) end
          split (omega (arith, c.loop-done-test.true)) size
          (subst (λ (x : Config). IsBlock x c.args.loss c.loop-done.done (first_words next_u32 c.min-size.result stream) (scene_of c.loop-done.world) (scene_of c.soak_block.new.world)) was.config block.block)
          (subst (λ (x : Stream). IsSoak c.args.world.now.config c.args.loss (c.loop-done.done + c.min-size.result) rest x (scene_of c.soak_block.new.world) end) block.drawn from));
      dropped =
          let h = lost_split c.args.loss left c.min-size.result rest stream split in
          let e = ap (λ (x : Stream). lost c.args.loss (first_words next_u32 rest x)) block.drawn in
          omega (arith, h, e, block.lost, was.dropped);
      drawn = block.drawn ∙ ap (λ (x : Stream). after_words c.min-size.result x) was.drawn ∙ sym (words_split (c.loop-done.done + c.min-size.result) c.loop-done.done c.min-size.result (g.R.Rng.stream c.args.rng.now) refl);
    }

pub returns-clause-run : goal.returns-clause-run
returns-clause-run g c =
    let was = c.loop-done.invariant in
    let none : c.args.packets - c.loop-done.done ≡ 0 = omega (arith, c.loop-done-test.false) in
    was.whole (scene_of c.loop-done.world) (soak_end c.args.world.now.config c.args.loss c.loop-done.done (c.args.packets - c.loop-done.done) (g.R.Rng.stream c.loop-done.rng) (scene_of c.loop-done.world) none)

pub returns-clause-tally : goal.returns-clause-tally
returns-clause-tally g c =
    let was = c.loop-done.invariant in
    let stream = g.R.Rng.stream c.loop-done.rng in
    let none : c.args.packets - c.loop-done.done ≡ 0 = omega (arith, c.loop-done-test.false) in
    let nothing : lost c.args.loss (first_words next_u32 (c.args.packets - c.loop-done.done) stream) ≡ 0 = omega (arith, lost_most c.args.loss (c.args.packets - c.loop-done.done) stream, none) in
    let dropped : c.loop-done.dropped ≡ lost c.args.loss (first_words next_u32 c.args.packets (g.R.Rng.stream c.args.rng.now)) = omega (arith, nothing, was.dropped) in
    c.of.ensures c.loop-done.world.log c.counts.ensures ∙ ap (λ n. tally_of n c.loop-done.world.log) dropped

pub returns-clause-drawn : goal.returns-clause-drawn
returns-clause-drawn g c =
    let all : c.loop-done.done ≡ c.args.packets = let h = c.loop-done.invariant.most in omega (arith, h, c.loop-done-test.false) in
    c.loop-done.invariant.drawn ∙ ap (λ n. after_words n (g.R.Rng.stream c.args.rng.now)) all

pub returns-in_err-dropped-clause-err : goal.returns-in_err-dropped-clause-err
returns-in_err-dropped-clause-err g c =
    let was = c.loop-done.invariant in
    let block = c.in_err-dropped.ensures.err in
    let size = c.min-size.ensures in
    on_err c.from_residual.result _ (
      c.loop-done.done + block.0,
      omega (arith, block.1, size, was.most),
      block.2 ∙ ap (λ (x : Stream). after_words block.0 x) was.drawn ∙ sym (words_split (c.loop-done.done + block.0) c.loop-done.done block.0 (g.R.Rng.stream c.args.rng.now) refl),
    )
