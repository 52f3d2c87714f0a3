use Rattle.std.proofs.Common.{◌≡◌, ◌<◌, ◌++◌, [], ◌∷◌, length, min, drop, ℕ, refl, sym, subst, ap, take, ◌∙◌, List, arith}
use Rattle.std.proofs.lemmas.Grind.{common_steps}
use Rattle.fbwire.specs.Packing.{IsPacking}
use Rattle.stores.specs.declared.ask_rule.AskRule.{AskRule}
use Rattle.stores.specs.Asking.{due_places, longest_ask}
use Rattle.receiver.specs.Asks.{looked_at}
use Rattle.receiver.specs.Counted.{looked_due}
use Rattle.receiver.proofs.Rising.{rising_take}
use Rattle.receiver.proofs.Asking.{answers_pairs, due_narrow, looked_narrow, looked_askable, looked_in_room, front_of_lent, covered_of, covered_within}
use Rattle.receiver.proofs.asks.pairs_due.Goals as goal

pub pack_into-requires : goal.pack_into-requires
pack_into-requires g c =
    let s = g.W.Window.meaning c.args.window.now in
    let is = g.met.W.Window.is_span c.args.window.now in
    let law = c.window_by_place.ensures in
    let rule = c.rule.result in
    let lists = law.due s c.args.now rule.delay rule.retry rule.asks in
    let wanted = length (take c.min-room.result c.args.due.now) in
    let items = front_of_lent c.find_due-found.result c.find_due-found.new.due (drop c.min-room.result c.args.due.now) c.find_due-found.ensures.within c.find_due-found.ensures.len ∙ c.find_due-found.ensures.due in
    record {
      rising = rw items (rising_take wanted _ (rising_take longest_ask (due_places s c.args.now rule.delay rule.retry rule.asks) lists.rises));
      narrow = rw items (due_narrow s is (λ q some. (law.inside s q is).0 some) c.args.now rule.delay rule.retry rule.asks lists longest_ask wanted);
    }

empty_of : (first : List ℕ) (count : ℕ) → (0 < length first → 0 < count) → count ≡ 0 → first ≡ []
empty_of [] count covers none = refl
empty_of (x ∷ first) count covers none = absurd (let some = covers (omega arith) in omega arith)

pub returns-clause-found : goal.returns-clause-found
returns-clause-found g c =
    let s = g.W.Window.meaning c.args.window.now in
    let is = g.met.W.Window.is_span c.args.window.now in
    let law = c.window_by_place.ensures in
    let config = c.args.config.now in
    let lists = law.due s c.args.now config.delay config.retry config.asks in
    let all = due_places s c.args.now config.delay config.retry config.asks in
    let first = looked_due s c.args.now config.delay config.retry config.asks c.args.most in
    let found = c.find_due-found.result in
    let lent = c.find_due-found.new.due ++ drop c.min-room.result c.args.due.now in
    let room = c.min-room.ensures in
    let long : length (take c.min-room.result c.args.due.now) ≡ min c.args.most (length c.args.due.now) = grind (arith, common_steps) in
    let under = c.find_due-found.ensures.within in
    let same = c.find_due-found.ensures.len in
    let items : take found lent ≡ first =
    front_of_lent found c.find_due-found.new.due (drop c.min-room.result c.args.due.now) under same ∙ c.find_due-found.ensures.due
    ∙ ap (λ (r : AskRule). take (length (take c.min-room.result c.args.due.now)) (take longest_ask (due_places s c.args.now r.delay r.retry r.asks))) c.rule.ensures.value
    ∙ ap (λ n. take n (take longest_ask all)) long ∙ looked_in_room s c.args.now config.delay config.retry config.asks c.args.most (length c.args.due.now) c.requires.room in
    let covers : 0 < length first → (0 < length c.pack_into.new.pairs.items) × (0 < c.pack_into.result) = λ some.
    c.pack_into.ensures.some (subst (λ (places : List ℕ). 0 < length places) (sym items) some) in
    let packing = subst (λ (places : List ℕ). IsPacking places c.pack_into.new.pairs.items c.pack_into.result) items c.pack_into.ensures.packing in
    answers_pairs s c.args.now config.delay config.retry config.asks c.args.most c.pack_into.new.pairs.items c.pack_into.result lent
    (λ none. empty_of first c.pack_into.result (λ some. (covers some).1) none)
    (λ some.
    let within = c.pack_into.ensures.packing.within in
    let filled : 0 < length first = (let inside = packing.within in omega arith) in
    let covered : take c.pack_into.result lent ≡ take c.pack_into.result first = covered_of lent first found c.pack_into.result within items in
    record {
      some = λ none. let few = ap length none in omega arith;
      covers = some;
      writes = (covers filled).0;
      narrow = looked_narrow s is (λ q some. (law.inside s q is).0 some) c.args.now config.delay config.retry config.asks lists c.args.most;
      packing = packing;
      covered = covered;
      within = covered_within lent found c.pack_into.result within;
      rising = rw covered (rising_take c.pack_into.result _ (rising_take (looked_at c.args.most) all lists.rises));
      askable = rw covered (looked_askable s is (λ q some. (law.inside s q is).0 some) c.args.now config.delay config.retry config.asks lists (λ o due. law.askable c.args.now config.delay config.retry config.asks o c.rule.ensures.few due) c.args.most c.pack_into.result);
    })

pub returns-clause-lists : goal.returns-clause-lists
returns-clause-lists g c = c.window_by_place.ensures.due (g.W.Window.meaning c.args.window.now) c.args.now c.args.config.now.delay c.args.config.now.retry c.args.config.now.asks
