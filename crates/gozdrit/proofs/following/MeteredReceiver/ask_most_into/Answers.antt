use Rattle.std.proofs.Common.{rules, ◌≡◌, ℕ, take, Option, Result, Ok, Some, None, sym, ap, ◌∙◌}
use Rattle.std.specs.Prelude.{IsSome}
use Rattle.rtpwire.specs.declared.fault.TooShort.{TooShort}
use Rattle.gozdrit.specs.Following.{left_behind, left_by}
use Rattle.gozdrit.proofs.Copies.{asks_copy, asks_due}
use Rattle.gozdrit.proofs.following.MeteredReceiver.ask_most_into.Goals as goal

pub returns-then-is_some : goal.returns-then-is_some
returns-then-is_some c =
    let is : IsSome c.args.self.now.again = search rules in
    asks_copy c.args.self.now.again c.args.self.now c.ask_again.new.self c.args.now c.args.most c.args.out.now c.ask_again.new.out c.ask_again.result is c.ask_again.ensures

pub returns-in-Ok-Some : goal.returns-in-Ok-Some
returns-in-Ok-Some c =
    let none : c.args.self.now.again ≡ None = search rules in
    let mid = c.ask_earned-asked.new.self in
    let out = c.ask_earned-asked.new.out in
    let is : c.ask_earned-asked.result ≡ Ok (Some c.in-Ok-Some.len) = search rules in
    let left : c.leave.new.self ≡ left_behind (take c.in-Ok-Some.len out) mid = search rules in
    asks_due c.args.self.now.again c.args.self.now mid c.leave.new.self c.args.now c.args.most c.args.out.now out c.ask_earned-asked.result none c.ask_earned-asked.ensures.asks
    (left ∙ ap (λ (a : Result (Option ℕ) TooShort). left_by a out mid) (sym is))

pub returns-else-is_some : goal.returns-else-is_some
returns-else-is_some c =
    let none : c.args.self.now.again ≡ None = search rules in
    let is : c.ask_earned-asked.result ≡ Ok None = search rules in
    asks_due c.args.self.now.again c.args.self.now c.ask_earned-asked.new.self c.ask_earned-asked.new.self c.args.now c.args.most c.args.out.now c.ask_earned-asked.new.out c.ask_earned-asked.result none c.ask_earned-asked.ensures.asks
    (ap (λ (a : Result (Option ℕ) TooShort). left_by a c.ask_earned-asked.new.out c.ask_earned-asked.new.self) (sym is))

pub returns-else-is_some-2 : goal.returns-else-is_some-2
returns-else-is_some-2 c =
    let none : c.args.self.now.again ≡ None = search rules in
    asks_due c.args.self.now.again c.args.self.now c.ask_earned-asked.new.self c.ask_earned-asked.new.self c.args.now c.args.most c.args.out.now c.ask_earned-asked.new.out c.ask_earned-asked.result none c.ask_earned-asked.ensures.asks
    (search rules)
