-- What holds of each entry of a lawful log.
use Rattle.std.proofs.Common.{◌≡◌, ◌⊎◌, ℕ, true, List, [], ◌∷◌, ◌++◌, ap, subst, inl, inr}
use Rattle.places.specs.Among.{is_among}
use Rattle.fbwire.specs.declared.fault.FeedbackFault.{FeedbackFault}
use Rattle.receiver.specs.declared.fault.ReceiveFault.{ReceiveFault}
use Rattle.receiver.specs.Fault.{receive_number}
use Rattle.world.specs.declared.event.Label.{Label}
use Rattle.world.specs.declared.event.Answer.TheVariants.{Refused, FeedbackRefused}
use Rattle.world.specs.declared.event.Entry.{Entry}
use Rattle.world.specs.declared.event.Entry.TheVariants.{Sent, SendRefused, Repaired, NoRepair, Asked, NoAsk, Nothing, Delivered, Injected, Played}
use Rattle.world.specs.Config.{Config}
use Rattle.world.specs.Lawful.{IsLawfulNumber, IsRefusedLawfully}

-- a beginning of a lawful log is lawful
earlier : (c : Config) (later before : List Entry) → IsRefusedLawfully c (later ++ before) → IsRefusedLawfully c before
earlier c [] before lawful = lawful
earlier c (Delivered index label now answer ∷ later) before lawful = earlier c later before lawful.1
earlier c (Sent place index content ∷ later) before lawful = earlier c later before lawful
earlier c (SendRefused fault ∷ later) before lawful = earlier c later before lawful
earlier c (Repaired place index ∷ later) before lawful = earlier c later before lawful
earlier c (NoRepair ∷ later) before lawful = earlier c later before lawful
earlier c (Asked index now ∷ later) before lawful = earlier c later before lawful
earlier c (NoAsk now ∷ later) before lawful = earlier c later before lawful
earlier c (Nothing ∷ later) before lawful = earlier c later before lawful
earlier c (Injected end now answer ∷ later) before lawful = earlier c later before lawful
earlier c (Played now answer ∷ later) before lawful = earlier c later before lawful

among : (n : ℕ) → (n ≡ 33) ⊎ (n ≡ 34) ⊎ (n ≡ 35) ⊎ (n ≡ 36) → is_among (33 ∷ 34 ∷ 35 ∷ 36 ∷ []) n ≡ true
among n (inl is) = ap (is_among (33 ∷ 34 ∷ 35 ∷ 36 ∷ [])) is
among n (inr (inl is)) = ap (is_among (33 ∷ 34 ∷ 35 ∷ 36 ∷ [])) is
among n (inr (inr (inl is))) = ap (is_among (33 ∷ 34 ∷ 35 ∷ 36 ∷ [])) is
among n (inr (inr (inr is))) = ap (is_among (33 ∷ 34 ∷ 35 ∷ 36 ∷ [])) is

by_number : (c : Config) (n : ℕ) → IsLawfulNumber c n → (is_among (33 ∷ 34 ∷ 35 ∷ 36 ∷ []) n ≡ true) ⊎ ((n ≡ 38) × (c.receiver.learns ≡ true))
by_number c n (inl is) = inl (among n (inl is))
by_number c n (inr (inl is)) = inl (among n (inr (inl is)))
by_number c n (inr (inr (inl is))) = inl (among n (inr (inr (inl is))))
by_number c n (inr (inr (inr (inl is)))) = inl (among n (inr (inr (inr is))))
by_number c n (inr (inr (inr (inr learning)))) = inr (learning.1, learning.0)

-- one entry of a lawful log
pub few : (c : Config) (past later before : List Entry) (index : ℕ) (label : Label) (now : ℕ) (fault : ReceiveFault) → past ≡ later ++ Delivered index label now (Refused fault) ∷ before → IsRefusedLawfully c past →
    (is_among (33 ∷ 34 ∷ 35 ∷ 36 ∷ []) (receive_number fault) ≡ true) ⊎ ((receive_number fault ≡ 38) × (c.receiver.learns ≡ true))
few c past later before index label now fault is lawful =
    by_number c (receive_number fault) (earlier c later (Delivered index label now (Refused fault) ∷ before) (subst (IsRefusedLawfully c) is lawful)).0

pub none : (c : Config) (past later before : List Entry) (index : ℕ) (label : Label) (now : ℕ) (fault : FeedbackFault) → past ≡ later ++ Delivered index label now (FeedbackRefused fault) ∷ before → IsRefusedLawfully c past → ⊥
none c past later before index label now fault is lawful =
    (earlier c later (Delivered index label now (FeedbackRefused fault) ∷ before) (subst (IsRefusedLawfully c) is lawful)).0
