use Rattle.std.proofs.Common.{◌≡◌, ◌+◌, ◌-◌, ◌++◌, ◌∷◌, [], ℕ, length, drop, sym, subst, ap, ◌∙◌, rules, arith, length-append}
use Rattle.std.proofs.lemmas.Bool.{eqb-false}
use Rattle.circular_buffer.specs.Buffer.{Buffer}
use Rattle.stores.specs.Numbers.{AreNumbers}
use Rattle.stores.specs.Entries.{entries_in}
use Rattle.stores.proofs.Numbers.{numbers_more, numbers_turned}
use Rattle.stores.proofs.EntryNumbers.{entries_longer}
use Rattle.stores.proofs.entries.free_number.Goals as goal

pub returns-then-is_full-clause-numbers : goal.returns-then-is_full-clause-numbers
returns-then-is_full-clause-numbers c =
    let order = c.args.order.now in
    let count = length c.args.list.now.items in
    let rest = ap (λ (b : Buffer ℕ). b.items) c.pop_front.ensures.items in
    subst (λ ns. AreNumbers (ns ++ c.unwrap.result ∷ []) count) (sym rest) (numbers_turned c.unwrap.result order.items count (search rules) c.requires.numbers)

pub returns-clause-numbers : goal.returns-clause-numbers
returns-clause-numbers c =
    let order = c.args.order.now in
    let list = c.args.list.now.items in
    let next : length list ≡ c.len-number.result = omega arith in
    let one_more : length list + 1 ≡ length c.push_reserved.new.self.items = sym (ap length c.push_reserved.ensures.items ∙ length-append list _) in
    subst (λ k. AreNumbers (order.items ++ k ∷ []) (length c.push_reserved.new.self.items)) next
    (subst (λ k. AreNumbers (order.items ++ length list ∷ []) k) one_more (numbers_more order.items (length list) c.requires.numbers))

pub returns-clause-entries : goal.returns-clause-entries
returns-clause-entries c =
    let order = c.args.order.now in
    let list = c.args.list.now.items in
    let all = c.requires.numbers.all in
    let room = c.requires.room in
    let other = eqb-false (length order.items) order.capacity (sym c.is_full.ensures ∙ c.if-is_full.false) in
    let none : 0 ≡ length order.items + 1 - order.capacity = omega arith in
    ap (λ xs. entries_in xs order.items) c.push_reserved.ensures.items ∙ entries_longer list _ order.items c.requires.numbers ∙ ap (λ n. drop n (entries_in list order.items)) none
