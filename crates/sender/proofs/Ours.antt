-- Which NACKs are of the session, and the numbers that they name.
use Rattle.std.proofs.Common.{◌≡◌, suc, ◌≤◌, ◌==◌, ◌&&◌, Bool, true, false, cond, List, [], ◌∷◌, ◌++◌, length, Option, Some, None, refl, sym, ap, ◌∙◌, arith, length-append}
use Rattle.std.specs.Prelude.{IsTrue, All}
use Rattle.std.specs.Option.{option_or}
use Rattle.std.proofs.lemmas.Grind.{flat_map-append}
use Rattle.std.proofs.lemmas.List.Elements.{filter-append}
use Rattle.std.proofs.lemmas.Option.{none-some}
use Rattle.fbwire.specs.declared.fault.FeedbackFault.{FeedbackFault}
use Rattle.fbwire.specs.declared.fault.FeedbackFault.TheVariants.{WrongMedia, WrongReporter}
use Rattle.fbwire.specs.Nack.{Nack, numbers_of}
use Rattle.sender.specs.Config.{Config}
use Rattle.sender.specs.Feedback.{is_receiver, is_ours, wrong_with, first_wrong}
use Rattle.sender.specs.Marking.{all_numbers}
use Rattle.sender.specs.Shared.{ours, our_numbers}

-- one list of NACKs after another

pub our_numbers_more : (c : Config) (xs ys : List Nack) → our_numbers c (xs ++ ys) ≡ our_numbers c xs ++ our_numbers c ys
our_numbers_more c xs ys = ap all_numbers (filter-append (is_ours c) xs ys) ∙ flat_map-append (λ (nack : Nack). numbers_of nack.pairs) (ours c xs) (ours c ys)

-- a verdict, by whether the media and the reporter are the session's

abbrev verdict : (media reporter : Bool) → Option FeedbackFault
verdict media reporter = cond media (cond reporter None (Some WrongReporter)) (Some WrongMedia)

right_of : (a b : Bool) → verdict a b ≡ None → (a && b) ≡ true
right_of true true is = refl
right_of true false is = absurd (none-some WrongReporter (sym is))
right_of false b is = absurd (none-some WrongMedia (sym is))

wrong_of : (a b : Bool) (fault : FeedbackFault) → verdict a b ≡ Some fault → (a && b) ≡ false
wrong_of true true fault is = absurd (none-some fault is)
wrong_of true false fault is = refl
wrong_of false b fault is = refl

pub right_is_ours : (c : Config) (nack : Nack) → wrong_with c nack ≡ None → is_ours c nack ≡ true
right_is_ours c nack is = right_of (nack.media == c.session.media_ssrc) (is_receiver c nack) is

pub wrong_is_theirs : (c : Config) (nack : Nack) (fault : FeedbackFault) → wrong_with c nack ≡ Some fault → is_ours c nack ≡ false
wrong_is_theirs c nack fault is = wrong_of (nack.media == c.session.media_ssrc) (is_receiver c nack) fault is

-- where nothing is wrong, all are of the session
pub all_ours : (c : Config) (nacks : List Nack) → first_wrong c nacks ≡ None → ours c nacks ≡ nacks
all_ours c [] none = refl
all_ours c (nack ∷ nacks) none = by (all_ours c nacks) (wrong_with c nack) refl none
  where
    by : (first_wrong c nacks ≡ None → ours c nacks ≡ nacks) → (wrong : Option FeedbackFault) → wrong_with c nack ≡ wrong → option_or wrong (first_wrong c nacks) ≡ None → ours c (nack ∷ nacks) ≡ nack ∷ nacks
    by rest None is none =
        ap (λ b. cond b (nack ∷ ours c nacks) (ours c nacks)) (right_is_ours c nack is)
        ∙ ap (λ (others : List Nack). nack ∷ others) (rest none)
    by rest (Some fault) is none = absurd (none-some fault (sym none))

-- of one that is not of the session, no number counts
pub not_our_numbers : (c : Config) (nack : Nack) → is_ours c nack ≡ false → our_numbers c (nack ∷ []) ≡ []
not_our_numbers c nack not = ap (λ b. all_numbers (cond b (nack ∷ []) [])) not

-- a verdict on what is of the session
no_fault : (a b : Bool) → (a && b) ≡ true → verdict a b ≡ None
no_fault true true is = refl
no_fault true false is = absurd (cc)
no_fault false b is = absurd (cc)

pub none_wrong : (c : Config) (nacks : List Nack) → All (λ (nack : Nack). IsTrue (is_ours c nack)) nacks → first_wrong c nacks ≡ None
none_wrong c [] all = refl
none_wrong c (nack ∷ nacks) all =
    ap (λ (wrong : Option FeedbackFault). option_or wrong (first_wrong c nacks)) (no_fault (nack.media == c.session.media_ssrc) (is_receiver c nack) (all 0 nack (omega arith)))
    ∙ none_wrong c nacks (λ k d within. all (suc k) d (omega arith))

-- some NACKs name no more numbers than all
pub ours_few : (c : Config) (nacks : List Nack) → (length (ours c nacks) ≤ length nacks) × (length (our_numbers c nacks) ≤ length (all_numbers nacks))
ours_few c [] = (omega arith, omega arith)
ours_few c (nack ∷ nacks) = by (is_ours c nack) (ours_few c nacks)
  where
    by : (b : Bool) → (length (ours c nacks) ≤ length nacks) × (length (our_numbers c nacks) ≤ length (all_numbers nacks)) →
        (length (cond b (nack ∷ ours c nacks) (ours c nacks)) ≤ length (nack ∷ nacks)) × (length (all_numbers (cond b (nack ∷ ours c nacks) (ours c nacks))) ≤ length (all_numbers (nack ∷ nacks)))
    by true (count, numbers) =
        let mine = length-append (numbers_of nack.pairs) (our_numbers c nacks) in
        let all = length-append (numbers_of nack.pairs) (all_numbers nacks) in
        (omega arith, omega arith)
    by false (count, numbers) = let all = length-append (numbers_of nack.pairs) (all_numbers nacks) in (omega arith, omega arith)
