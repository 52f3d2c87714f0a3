-- What a receiver does by its times, said by sums of moments.
use Rattle.std.proofs.Common.{◌≡◌, ℕ, ◌+◌, ◌<◌, ◌≤◌, ◌↔◌, Bool, nat_le, IsTrue, Option, Some, None, IsSomeAnd, sym, ap, subst, ◌∙◌, arith}
use Rattle.std.proofs.lemmas.Bool.Decides.{nat_tests}
use Rattle.receiver.specs.declared.answer.Played.{Played}
use Rattle.receiver.specs.declared.answer.Played.TheVariants.{Packet, Gap, Wait}
use Rattle.receiver.specs.Window.{ReceiverState, Missed, HasPassed, Plays, PlaysAny}
use Rattle.receiver.specs.Asks.{is_due}

passed_sum : (patience noticed now : ℕ) → HasPassed patience noticed now → noticed + patience ≤ now
passed_sum patience noticed now p = let later = p.later in let long = p.long in omega arith

sum_passed : (patience noticed now : ℕ) → noticed + patience ≤ now → HasPassed patience noticed now
sum_passed patience noticed now l = record { later = omega arith; long = omega arith }

passed_at : (patience now : ℕ) (found : Option Missed) (m : Missed) → found ≡ Some m → IsSomeAnd found (λ x. HasPassed patience x.noticed now) → HasPassed patience m.noticed now
passed_at patience now found m is passed = subst (λ (x : Option Missed). IsSomeAnd x (λ y. HasPassed patience y.noticed now)) is passed

gives_up : (patience now : ℕ) (w : ReceiverState) (m : Missed) (answer : Played) (new : Option ReceiverState) → w.held w.cursor ≡ None → w.missing w.cursor ≡ Some m →
    Plays patience w now answer new → (answer ≡ Gap w.cursor) ↔ (m.noticed + patience ≤ now)
gives_up patience now w m (Packet place content) new free missing (at, held, passes) =
    absurd (let other : w.held w.cursor ≡ Some content = ap w.held (sym at) ∙ held in cc)
gives_up patience now w m (Gap place) new free missing (at, none, passed, passes) =
    (λ _. passed_sum patience m.noticed now (passed_at patience now (w.missing place) m (ap w.missing at ∙ missing) passed), λ _. ap Gap at)
gives_up patience now w m Wait new free missing (none, waits, same) =
    (λ e. absurd (cc), λ l. absurd (waits m missing (sum_passed patience m.noticed now l)))

pub gives_up_any : (patience now : ℕ) (state : Option ReceiverState) (w : ReceiverState) (m : Missed) (answer : Played) (new : Option ReceiverState) → state ≡ Some w → w.held w.cursor ≡ None → w.missing w.cursor ≡ Some m →
    PlaysAny patience state now answer new → (answer ≡ Gap w.cursor) ↔ (m.noticed + patience ≤ now)
gives_up_any patience now state w m answer new is free missing plays =
    gives_up patience now w m answer new free missing (subst (λ (s : Option ReceiverState). PlaysAny patience s now answer new) is plays)

-- a test that is one of moments tells what that says
tells : (a b : ℕ) (test : Bool) → test ≡ nat_le a b → IsTrue test ↔ (a ≤ b)
tells a b test is = (λ t. grind (arith, nat_tests), λ l. grind (arith, nat_tests))

first_test : (now delay retry limit : ℕ) (m : Missed) → 0 < delay → 0 < limit → m.asks ≡ 0 → is_due now delay retry limit (Some m) ≡ nat_le (m.noticed + delay) now
first_test now delay retry limit m some may none = grind (arith, nat_tests)

again_test : (now delay retry limit : ℕ) (m : Missed) → 0 < m.asks → m.asks < limit → is_due now delay retry limit (Some m) ≡ nat_le (m.last + retry) now
again_test now delay retry limit m was may = grind (arith, nat_tests)

pub due_first : (now delay retry limit : ℕ) (found : Option Missed) (m : Missed) (among : Bool) → 0 < delay → 0 < limit → found ≡ Some m → m.asks ≡ 0 → among ≡ is_due now delay retry limit found →
    IsTrue among ↔ (m.noticed + delay ≤ now)
due_first now delay retry limit found m among some may is none due =
    tells (m.noticed + delay) now among (due ∙ ap (is_due now delay retry limit) is ∙ first_test now delay retry limit m some may none)

pub due_again : (now delay retry limit : ℕ) (found : Option Missed) (m : Missed) (among : Bool) → 0 < m.asks → m.asks < limit → found ≡ Some m → among ≡ is_due now delay retry limit found →
    IsTrue among ↔ (m.last + retry ≤ now)
due_again now delay retry limit found m among was may is due =
    tells (m.last + retry) now among (due ∙ ap (is_due now delay retry limit) is ∙ again_test now delay retry limit m was may)
