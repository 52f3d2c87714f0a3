-- An ask for as many places as one ask looks at, or more, is an ask.
use Rattle.std.proofs.Common.{◌≡◌, ◌↔◌, ℕ, zero, suc, ◌≤◌, ◌<◌, List, [], ◌∷◌, take, Option, Some, None, refl, sym, subst, arith, false, ap, ◌∙◌}
use Rattle.std.proofs.lemmas.Bool.Decides.{nat_tests}
use Rattle.places.specs.Among.{is_among}
use Rattle.arrayvec.specs.ArrayVec.{ArrayVec}
use Rattle.stores.specs.Asking.{longest_ask}
use Rattle.receiver.specs.Config.{Config}
use Rattle.receiver.specs.Window.{ReceiverState}
use Rattle.receiver.specs.Asks.{is_due, looked_at, AnswersAsk, AsksAny, AsksMost}

-- the first so many of some places are none only where all are
pub none_of_few : (most : ℕ) (due : List ℕ) → 0 < most → take most due ≡ [] → due ≡ []
none_of_few zero due some none = absurd (omega arith)
none_of_few (suc most) [] some none = refl
none_of_few (suc most) (x ∷ xs) some none = absurd (cc)

module _ (c : Config) (now m n : ℕ) (answer : Option (ArrayVec ℕ)) (new : Option ReceiverState) (same : looked_at m ≡ looked_at n) where
  as_many : (old : Option ReceiverState) → AsksMost c old now m answer new → AsksMost c old now n answer new
  as_many None asks = asks
  as_many (Some old) a =
      record { due = a.due; each = a.each; answers = subst (λ k. AnswersAsk c old (take k a.due) now answer new) same a.answers }

pub many_is_any : (c : Config) (old : Option ReceiverState) (now most : ℕ) (answer : Option (ArrayVec ℕ)) (new : Option ReceiverState) → longest_ask ≤ most →
    AsksMost c old now most answer new ↔ AsksAny c old now answer new
many_is_any c old now most answer new l =
    let same : looked_at most ≡ longest_ask = omega arith in
    (as_many c now most longest_ask answer new same old, as_many c now longest_ask most answer new (sym same) old)

-- places of which none is among them are none
nobody : (places : List ℕ) → ((k : ℕ) → is_among places k ≡ false) → places ≡ []
nobody [] none = refl
nobody (x ∷ xs) none = let here = none x in absurd (grind (arith, nat_tests, here))

no_few : (most : ℕ) (places : List ℕ) → places ≡ [] → take most places ≡ []
no_few zero places e = refl
no_few (suc most) places e = rw e refl

-- an ask for a place or more asks for nothing exactly where none is due
pub asks_where_due : (c : Config) (old : ReceiverState) (now most : ℕ) (answer : Option (ArrayVec ℕ)) (new : Option ReceiverState) → 0 < most →
    AsksMost c (Some old) now most answer new → (answer ≡ None) ↔ ((k : ℕ) → is_due now c.delay c.retry c.asks (old.missing k) ≡ false)
asks_where_due c old now most None new some a = (
  λ _ k. sym (a.each.each k) ∙ ap (λ (due : List ℕ). is_among due k) (none_of_few (looked_at most) a.due (omega arith) a.answers.0),
  λ _. refl,
)
asks_where_due c old now most (Some datagram) new some a = (λ e. absurd (cc), λ none. absurd (a.answers.0 (no_few (looked_at most) a.due (nobody a.due (λ k. a.each.each k ∙ none k)))))
