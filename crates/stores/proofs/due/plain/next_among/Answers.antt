use Rattle.std.proofs.Common.{◌<◌, length, sym, ◌∙◌, arith}
use Rattle.stores.proofs.Soonest.{soonest_skip, soonest_meet}
use Rattle.stores.proofs.due.plain.next_among.Goals as goal

pub loop-next-preserved : goal.loop-next-preserved
loop-next-preserved c =
    let found = c.in-Some.ensures in
    let next = c.in-Some.next in
    let slots = c.args.slots.now.items in
    let rule = c.args.rule in
    let room = c.requires.room in
    let len = c.len-until.ensures.len in
    let below = found.1 in
    let within : next < length slots = omega arith in
    let skip = soonest_skip rule c.loop-next.least slots c.loop-next.index next (λ p l u. sym (c.requires.index p (omega arith)) ∙ found.3 p l u) c.loop-next.invariant.so_far in
    record {
      so_far = soonest_meet rule c.loop-next.least c.or-least.result c.due_from-moment.result slots next c.or-least.ensures.sooner c.or-least.ensures.serves c.due_from-moment.ensures skip;
      within = omega arith;
    }

pub returns : goal.returns
returns c =
    let slots = c.args.slots.now.items in
    let room = c.requires.room in
    let len = c.len-until.ensures.len in
    let none = c.in_default.ensures in
    soonest_skip c.args.rule c.loop-next.least slots c.loop-next.index (length slots) (λ p l u. sym (c.requires.index p (omega arith)) ∙ none p l (omega arith)) c.loop-next.invariant.so_far
