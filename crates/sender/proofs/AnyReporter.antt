-- A sender that takes each reporter as the session's receiver never answers 19.
use Rattle.std.proofs.Common.{◌≡◌, ◌≢◌, ℕ, ◌<◌, ◌==◌, Bool, true, false, cond, List, [], ◌∷◌, Option, Some, None, Result, Ok, Err, refl, ap, subst, ◌∙◌, arith}
use Rattle.std.specs.Option.{option_or}
use Rattle.std.proofs.lemmas.Option.{none-some}
use Rattle.fbwire.specs.declared.fault.FeedbackFault.{FeedbackFault}
use Rattle.fbwire.specs.declared.fault.FeedbackFault.TheVariants.{WrongMedia, WrongReporter}
use Rattle.fbwire.specs.Fault.{feedback_number}
use Rattle.fbwire.specs.Nack.{Nack}
use Rattle.fbwire.specs.CompoundChecks.{IsRefused}
use Rattle.sender.specs.declared.answer.Marked.{Marked}
use Rattle.sender.specs.declared.answer.Shared.{Shared}
use Rattle.sender.specs.Config.{Config}
use Rattle.sender.specs.History.{SenderState}
use Rattle.sender.specs.Feedback.{is_receiver, wrong_with, first_wrong, ReadsFeedback, MarksNamed, HearsNacks, HearsSaid, HearsFeedback}
use Rattle.sender.specs.Shared.{first_fault, SharesNacks, SharesSaid, HearsShared}
use Rattle.sender.proofs.Named.{or_left}

same_err : {T : Type 0} (r : Result T FeedbackFault) (fault other : FeedbackFault) → r ≡ Err fault → r ≡ Err other → fault ≡ other
same_err r fault other a b = cc

module _ (reader : (octets : List ℕ) (fault : FeedbackFault) → IsRefused octets fault → feedback_number fault < 18) (c : Config) (any : c.any_reporter ≡ true) where
  right : (nack : Nack) → wrong_with c nack ≡ Some WrongReporter → ⊥
  right nack is = by (nack.media == c.session.media_ssrc) (is_receiver c nack) (or_left c.any_reporter (nack.reporter == c.session.receiver_ssrc) any) is
    where
      by : (a b : Bool) → b ≡ true → cond a (cond b None (Some WrongReporter)) (Some WrongMedia) ≡ Some WrongReporter → ⊥
      by true true known is = none-some WrongReporter is
      by true false known is = let never : false ≡ true = known in cc
      by false b known is = let never : Some WrongMedia ≡ Some WrongReporter = is in cc

  none_wrong : (nacks : List Nack) → first_wrong c nacks ≡ Some WrongReporter → ⊥
  none_wrong [] is = none-some WrongReporter is
  none_wrong (nack ∷ nacks) is = by (none_wrong nacks) (wrong_with c nack) (right nack) is
    where
      by : (first_wrong c nacks ≡ Some WrongReporter → ⊥) → (wrong : Option FeedbackFault) → (wrong ≡ Some WrongReporter → ⊥) → option_or wrong (first_wrong c nacks) ≡ Some WrongReporter → ⊥
      by rest None never is = rest is
      by rest (Some fault) never is = never is

  first_right : (nacks : List Nack) → first_fault c nacks ≡ Some WrongReporter → ⊥
  first_right [] is = none-some WrongReporter is
  first_right (nack ∷ nacks) is = right nack is

  -- no reader answers 19
  not_read : (octets : List ℕ) (fault : FeedbackFault) → IsRefused octets fault → fault ≡ WrongReporter → ⊥
  not_read octets fault refused is = let small = reader octets fault refused in let number : feedback_number fault ≡ 19 = ap feedback_number is in omega (arith, small, number)

  module _ (old : SenderState) (octets : List ℕ) (new : SenderState) where
    pub alone_not : (answer : Result Marked FeedbackFault) → HearsFeedback c old octets answer new → answer ≢ Err WrongReporter
    alone_not answer hears is = said hears.said hears.says hears.heard
      where
        nacked : (nacks : List Nack) (wrong : Option FeedbackFault) → first_wrong c nacks ≡ wrong → HearsNacks c old nacks wrong answer new → ⊥
        nacked nacks None at marks = subst (λ (r : Result Marked FeedbackFault). MarksNamed c old nacks r new) is marks
        nacked nacks (Some fault) at (told, same) = none_wrong nacks (at ∙ ap (λ (f : FeedbackFault). Some f) (same_err answer fault WrongReporter told is))

        said : (said : Result (List Nack) FeedbackFault) → ReadsFeedback octets said → HearsSaid c old said answer new → ⊥
        said (Ok nacks) says heard = nacked nacks (first_wrong c nacks) refl heard
        said (Err fault) says (told, same) = not_read octets fault says (same_err answer fault WrongReporter told is)

    pub shared_not : (answer : Result Shared FeedbackFault) → HearsShared c old octets answer new → answer ≢ Err WrongReporter
    shared_not answer hears is = said hears.said hears.says hears.heard
      where
        said : (said : Result (List Nack) FeedbackFault) → ReadsFeedback octets said → SharesSaid c old said answer new → ⊥
        said (Ok nacks) says heard =
            let shares : SharesNacks c old nacks (Err WrongReporter) new = subst (λ (r : Result Shared FeedbackFault). SharesNacks c old nacks r new) is heard in
            first_right nacks shares.1
        said (Err fault) says (told, same) = not_read octets fault says (same_err answer fault WrongReporter told is)
