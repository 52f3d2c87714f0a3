use Rattle.std.proofs.Common.{◌∙◌, ap, ap₂, refl}
use Rattle.std.proofs.lemmas.Result.{IfOk-weaker}
use Rattle.clap.specs.Words.{App, with_subcommand}
use Rattle.rtxtool.specs.CommandLine.{loopback, pack, show, sim, soak}
use Rattle.rtxtool.proofs.CommandLemmas.{no_globals}
use Rattle.rtxtool.proofs.options.command.Goals as goal

pub returns : goal.returns
returns c =
    let top = λ (a : App). a.top in
    let s1 = c.in_ok-sim.ensures in
    let s2 = c.in_ok-show.ensures in
    let s3 = c.in_ok-pack.ensures in
    let s4 = c.in_ok-soak.ensures in
    let s5 = c.in_ok-loopback.ensures in
    let t1 = c.in_ok-subcommand.ensures.shape (no_globals _ sim s1 refl) ∙ ap₂ with_subcommand c.bare.ensures (ap top s1) in
    let t2 = c.in_ok-subcommand-2.ensures.shape (no_globals _ show s2 refl) ∙ ap₂ with_subcommand t1 (ap top s2) in
    let t3 = c.in_ok-subcommand-3.ensures.shape (no_globals _ pack s3 refl) ∙ ap₂ with_subcommand t2 (ap top s3) in
    let t4 = c.in_ok-subcommand-4.ensures.shape (no_globals _ soak s4 refl) ∙ ap₂ with_subcommand t3 (ap top s4) in
    IfOk-weaker c.subcommand-5.result _ _ (λ r h. h.shape (no_globals _ loopback s5 refl) ∙ ap₂ with_subcommand t4 (ap top s5)) c.subcommand-5.ensures
