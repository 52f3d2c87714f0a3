use Rattle.std.proofs.Common.{◌≡◌, ℕ, false, ◌-◌, ◌+◌, ◌<◌, ◌≤◌, ◌++◌, length, take, slice_get, ap, sym, subst, ◌∙◌, refl, arith}
use Rattle.std.proofs.lemmas.Grind.{common_steps}
use Rattle.stores.proofs.EntryIndex.{new_is}
use Rattle.stores.proofs.DueSlots.{due_left_take, due_left_leave, due_left_skip}
use Rattle.stores.proofs.due.by_blocks.look.Goals as goal
use Rattle.stores.proofs.due.by_blocks.look.Goals.{then-is_due, else-is_due}
use Rattle.stores.proofs.Bounds.{bound_seen_on, bound_left_out, bound_met}
use Rattle.stores.specs.declared.due.bound.Bound.{Bound}
use Rattle.stores.specs.Asking.{is_missing}
use Rattle.stores.specs.Due.{due_rest}
use Rattle.stores.specs.Bound.{IsBoundAt}

pub loop-next-init : goal.loop-next-init
loop-next-init c =
    let order = c.requires.order in
    let from = c.position-start.ensures in
    record {
      left = refl;
      more = omega arith;
      fits = c.requires.fits;
      len = refl;
      above = omega arith;
      within = omega arith;
      position = sym from;
      covers = c.requires.covers;
      below = c.requires.below;
      seen = λ p above below. absurd (omega arith);
    }

pub unwrap-requires : goal.unwrap-requires
unwrap-requires c =
    let below = c.in-Some.ensures.below c.args.end c.loop-next.invariant.below in
    let ends = c.requires.end in
    let places = c.requires.places in
    let made = new_is c.new.result _ (c.args.first + c.in-Some.next) c.new.ensures (omega arith) in
    rw made refl

pub loop-next-preserved : goal.loop-next-preserved
loop-next-preserved c =
    let slots = c.args.slots.now.items in
    let wanted = c.args.wanted in
    let rule = wanted.rule in
    let index = c.loop-next.index in
    let start = c.position-start.result in
    let from = c.position-start.ensures in
    let next = c.in-Some.next in
    let at = c.loop-next.invariant.position in
    let ends = c.requires.end in
    let near = c.requires.near in
    let up = c.loop-next.invariant.above in
    let above = c.in-Some.ensures.found in
    let under : next < c.args.end = c.in-Some.ensures.below c.args.end c.loop-next.invariant.below in
    let bit = c.args.bit in
    let none = c.in-Some.ensures.none (λ p. is_missing (slice_get slots p)) c.args.end c.loop-next.invariant.covers in
    let within : next < length slots = omega arith in
    let small : bit + (next - start) < 64 = omega arith in
    let passed : (q : ℕ) → index ≤ q → q < next → is_missing (slice_get slots q) ≡ false = λ q l u. none q (omega arith) u (omega arith) in
    let skip = due_left_skip wanted.now rule.delay rule.retry rule.asks c.args.first slots index (next - index) next (omega arith) (omega arith) passed in
    let seen = bound_seen_on rule c.loop-next.bound bit slots start index next c.loop-next.invariant.seen passed in
    let due = c.is_due.ensures wanted.now rule wanted.due in
    let yes = due_left_take wanted.now rule.delay rule.retry rule.asks c.args.first slots next within in
    let no = due_left_leave wanted.now rule.delay rule.retry rule.asks c.args.first slots next within in
    let full = c.if-count-due.false in
    let room = c.loop-next.invariant.len in
    let many = c.loop-next.invariant.more in
    elim c.if-is_due.branch [
      | then-is_due w ↦
          let is = yes (sym due ∙ w.if-is_due.true) in
          record {
            left = grind (arith, common_steps, skip, is);
            more = grind (arith, common_steps);
            fits = grind (arith, common_steps);
            len = grind (arith, common_steps);
            above = omega arith;
            within = omega arith;
            position = c.in-Some.ensures.position;
            covers = c.in-Some.ensures.left (λ p. is_missing (slice_get slots p)) c.args.end c.loop-next.invariant.covers;
            below = c.in-Some.ensures.kept c.args.end c.loop-next.invariant.below;
            seen = subst (λ (l : Bound). (p : ℕ) → start ≤ p → p < next + 1 → IsBoundAt rule l (bit + (p - start)) (slice_get slots p)) (sym w.bound-is)
                (bound_left_out rule c.loop-next.bound w.leave_out.new.self bit start next (bit + (next - start)) slots refl small w.leave_out.ensures.without w.leave_out.ensures.from seen);
          }
      | else-is_due w ↦
          let is = no (sym due ∙ w.if-is_due.false) in
          record {
            left = grind (arith, common_steps, skip, is);
            more = grind (arith, common_steps);
            fits = grind (arith, common_steps);
            len = grind (arith, common_steps);
            above = omega arith;
            within = omega arith;
            position = c.in-Some.ensures.position;
            covers = c.in-Some.ensures.left (λ p. is_missing (slice_get slots p)) c.args.end c.loop-next.invariant.covers;
            below = c.in-Some.ensures.kept c.args.end c.loop-next.invariant.below;
            seen = subst (λ (l : Bound). (p : ℕ) → start ≤ p → p < next + 1 → IsBoundAt rule l (bit + (p - start)) (slice_get slots p)) (sym w.bound-is)
                (bound_met rule c.loop-next.bound w.meet.new.self bit start next w.due_from.result slots w.meet.ensures.without w.meet.ensures.from (λ at fits come. sym (w.due_from.ensures at fits) ∙ come) seen);
          }
    ]

pub returns-clause-left : goal.returns-clause-left
returns-clause-left c =
    let slots = c.args.slots.now.items in
    let wanted = c.args.wanted in
    let rule = wanted.rule in
    let index = c.loop-next.index in
    let at = c.loop-next.invariant.position in
    let within = c.loop-next.invariant.within in
    let ends = c.requires.end in
    let none = c.in_default.ensures.none (λ p. is_missing (slice_get slots p)) c.args.end c.loop-next.invariant.covers in
    let skip = due_left_skip wanted.now rule.delay rule.retry rule.asks c.args.first slots index (c.args.end - index) c.args.end (omega arith) ends (λ p l u. none p (omega arith) u) in
    ap (λ xs. take c.loop-next.count c.loop-next.due ++ xs) (sym skip) ∙ c.loop-next.invariant.left
    ∙ ap (λ n. take c.args.count c.args.due.now ++ due_rest wanted.now rule.delay rule.retry rule.asks c.args.first slots n) c.position-start.ensures

pub returns-clause-bound : goal.returns-clause-bound
returns-clause-bound c = λ p above below.
    let slots = c.args.slots.now.items in
    let at = c.loop-next.invariant.position in
    let from = c.position-start.ensures in
    let none = c.in_default.ensures.none (λ q. is_missing (slice_get slots q)) c.args.end c.loop-next.invariant.covers in
    subst (λ n. IsBoundAt c.args.wanted.rule c.loop-next.bound (c.args.bit + (p - n)) (slice_get slots p)) from
    (bound_seen_on c.args.wanted.rule c.loop-next.bound c.args.bit slots c.position-start.result c.loop-next.index c.args.end c.loop-next.invariant.seen (λ q l u. none q (omega arith) u) p (omega arith) below)
