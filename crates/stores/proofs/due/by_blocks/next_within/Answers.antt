use Rattle.std.proofs.Common.{◌≡◌, ◌<◌, slice_get, rules, sym, subst, arith}
use Rattle.stores.specs.Asking.{is_missing}
use Rattle.stores.specs.Foreseen.{IsSoonest}
use Rattle.stores.proofs.Soonest.{soonest_skip, soonest_meet, soonest_reached}
use Rattle.stores.proofs.due.by_blocks.next_within.Goals as goal

pub loop-found-preserved : goal.loop-found-preserved
loop-found-preserved c =
    let slots = c.args.slots.now.items in
    let rule = c.args.rule in
    let least = c.loop-found.least in
    let index = c.loop-found.left.position in
    let found = c.in-Some.found in
    let ends = c.requires.end in
    let under : found < c.args.end = c.in-Some.ensures.below c.args.end c.loop-found.invariant.below in
    let none = c.in-Some.ensures.none (λ p. is_missing (slice_get slots p)) c.args.end c.loop-found.invariant.covers in
    let skip = soonest_skip rule least slots index found (λ p l u. none p (omega arith) u (omega arith)) c.loop-found.invariant.so_far in
    let on = c.in-Some.ensures.position in
    record {
      so_far = subst (IsSoonest rule c.or-least.result slots) (sym on) (soonest_meet rule least c.or-least.result c.due_from-moment.result slots found c.or-least.ensures.sooner c.or-least.ensures.serves c.due_from-moment.ensures skip);
      within = omega arith;
      covers = c.in-Some.ensures.left (λ p. is_missing (slice_get slots p)) c.args.end c.loop-found.invariant.covers;
      below = c.in-Some.ensures.kept c.args.end c.loop-found.invariant.below;
    }

pub returns : goal.returns
returns c =
    let slots = c.args.slots.now.items in
    let none = c.in_default.ensures.none (λ p. is_missing (slice_get slots p)) c.args.end c.loop-found.invariant.covers in
    soonest_skip c.args.rule c.loop-found.least slots c.loop-found.left.position c.args.end (λ p l u. none p (omega arith) u) c.loop-found.invariant.so_far

-- none is due sooner
pub returns-then-eq : goal.returns-then-eq
returns-then-eq c =
    let slots = c.args.slots.now.items in
    let rule = c.args.rule in
    let same : c.due_from-moment.result ≡ c.args.soonest = search rules in
    soonest_reached rule c.args.before c.or.result c.args.soonest c.due_from-moment.result slots c.args.ones.position c.args.end c.in-Some.found same c.or.ensures.sooner c.or.ensures.serves c.due_from-moment.ensures
    c.requires.sooner (λ p now l u fits due. c.requires.none p l u now fits due) c.requires.before
