use Rattle.std.proofs.Common.{◌≡◌, ◌≤◌, length, drop, ap, take, sym, ◌∙◌, arith}
use Rattle.std.proofs.lemmas.Grind.{common_steps}
use Rattle.std.proofs.lemmas.List.{take-append-le}
use Rattle.circular_buffer.specs.Buffer.{Buffer}
use Rattle.stores.specs.declared.ask_rule.AskRule.{AskRule}
use Rattle.stores.specs.declared.slot.Slot.{Slot}
use Rattle.stores.specs.Due.{due_from_first}
use Rattle.stores.specs.Asking.{longest_ask, due_places}
use Rattle.stores.proofs.DueSlots.{due_of_started, take_lesser}
use Rattle.stores.proofs.ring_window.RingWindowWindow.find_due.Goals as goal

pub returns-clause-due : goal.returns-clause-due
returns-clause-due c =
    let w = c.args.self.now in
    let rule = c.args.rule in
    let all = due_of_started w.cursor w.slots.items w.slots.capacity c.args.now rule.delay rule.retry rule.asks c.in-Some.cursor c.in-Some.is in
    let due = due_places (record { cursor = w.cursor; slots = w.slots.items; capacity = w.slots.capacity }) c.args.now rule.delay rule.retry rule.asks in
    let wanted = c.new.result in
    let slots = c.follow.new.self.slots.items in
    let count = c.find_due-count.result.0 in
    let front = c.find_due-count.new.due in
    let rest = drop c.min-room.result c.args.due.now in
    let room = c.min-room.ensures in
    let long : length (take c.min-room.result c.args.due.now) ≡ c.min-room.result = grind (arith, common_steps) in
    let within : count ≤ length front = (let len = c.find_due-count.ensures.len in let under = c.find_due-count.ensures.within in omega arith) in
    take-append-le count front rest within
    ∙ c.find_due-count.ensures.due
    ∙ ap (λ n. take n (due_from_first wanted.now wanted.rule.delay wanted.rule.retry wanted.rule.asks c.in-Some.cursor slots)) long
    ∙ ap (λ n. take c.min-room.result (due_from_first n wanted.rule.delay wanted.rule.retry wanted.rule.asks c.in-Some.cursor slots)) c.new.ensures.now
    ∙ ap (λ (r : AskRule). take c.min-room.result (due_from_first c.args.now r.delay r.retry r.asks c.in-Some.cursor slots)) c.new.ensures.rule
    ∙ ap (λ (b : Buffer Slot). take c.min-room.result (due_from_first c.args.now rule.delay rule.retry rule.asks c.in-Some.cursor b.items)) c.follow.ensures.slots ∙ ap (take c.min-room.result) (sym all)
    ∙ sym (take_lesser (length c.args.due.now) longest_ask c.min-room.result due room)
