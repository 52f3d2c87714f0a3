-- What a run over a link tells of the tally of its world.
use Rattle.std.proofs.Common.{◌≡◌, ℕ, nat_lt, true, false, if◌then◌else◌, List, [], length, append-nil, refl, sym, ap, subst, Option, Some, None, Result, Ok, Err, IfOk, OnOk, OnErr}
use Rattle.world.specs.Config.{Config}
use Rattle.runs.specs.declared.fault.DriveFault.{DriveFault}
use Rattle.runs.specs.declared.link.Transfer.{Transfer}
use Rattle.runs.specs.declared.tally.Tally.{Tally}
use Rattle.runs.specs.Drive.{IsPending, Reaches, StopsRun, done, plan_of, round_from, send_from, sending}
use Rattle.runs.specs.Scene.{Scene, new_scene}
use Rattle.runs.specs.Tally.{tally_of}
use Rattle.runs.specs.Traffic.{Grows}
use Rattle.world.specs.Answers.{Item}
use Rattle.commands.specs.Loopback.{StopsOverLink, RunsOverLink, loopback_config}

nothing_moved : (told : Option (List Transfer)) → Grows told [] told
nothing_moved None = tt
nothing_moved (Some told) = ap (λ (x : List Transfer). Some x) (sym (append-nil told))

nothing_begun : (packets : ℕ) (drop : List ℕ) (wire : List Item) → IsPending (send_from (plan_of packets drop) 0) wire []
nothing_begun packets drop wire =
    elim (nat_lt 0 packets) as (λ b. IsPending (if b then sending 0 else round_from 0) wire []) [ true ↦ refl | false ↦ refl ]

-- nothing was done yet
pub breaks_off_at_once : (r : Result Tally DriveFault) (packets : ℕ) (drop : List ℕ) (told : Option (List Transfer)) → OnErr r (StopsOverLink packets drop told told)
breaks_off_at_once (Ok tally) packets drop told = tt
breaks_off_at_once (Err fault) packets drop told =
    let start = new_scene loopback_config in
    record {
      end = start;
      run = record {
        next = send_from (plan_of packets drop) 0;
        count = 0;
        moved = [];
        begun = [];
        goes = (refl, refl, refl);
        pending = nothing_begun packets drop start.stand.wire;
        tells = nothing_moved told;
      };
    }

module _ (c : Config) (packets : ℕ) (drop : List ℕ) (told telling : Option (List Transfer)) (end : Scene) (is : c ≡ loopback_config) where
  pub loops : (r : Result Tally DriveFault)
      → OnOk r (Reaches c (plan_of packets drop) (send_from (plan_of packets drop) 0) (new_scene c) told done end telling)
      → IfOk r (λ tally. tally ≡ tally_of (length drop) end.log)
      → IfOk r (RunsOverLink packets drop told telling)
  loops (Ok tally) run counts =
      record {
        end = end;
        run = subst (λ (x : Config). Reaches x (plan_of packets drop) (send_from (plan_of packets drop) 0) (new_scene x) told done end telling) is run;
        counts = counts;
      }
  loops (Err fault) run counts = tt

  pub breaks_off : (r : Result Tally DriveFault)
      → OnErr r (StopsRun c (plan_of packets drop) (send_from (plan_of packets drop) 0) (new_scene c) told end telling)
      → OnErr r (StopsOverLink packets drop told telling)
  breaks_off (Ok tally) run = tt
  breaks_off (Err fault) run =
      record {
        end = end;
        run = subst (λ (x : Config). StopsRun x (plan_of packets drop) (send_from (plan_of packets drop) 0) (new_scene x) told end telling) is run;
      }
