-- What a sender refuses has the number of the first check whose condition holds.
use Rattle.std.proofs.Common.{◌≡◌, ◌≢◌, ◌⊎◌, ℕ, suc, ◌^◌, ◌<◌, ◌==◌, ◌||◌, ◌&&◌, Bool, true, false, cond, List, [], ◌∷◌, ◌++◌, length, Option, Some, None, Result, Ok, Err, refl, sym, ap, subst, ◌∙◌, arith, inl, inr, eqb-true, option_map}
use Rattle.std.specs.Prelude.{MatchResult, slice_index}
use Rattle.std.specs.Option.{option_or}
use Rattle.std.specs.Result.{result_err}
use Rattle.std.proofs.lemmas.Bool.{eqb-false, cases_lt, cases_Bool}
use Rattle.std.proofs.lemmas.List.{nil_from_length}
use Rattle.std.proofs.lemmas.List.Elements.{All-cons}
use Rattle.std.proofs.lemmas.Option.{none-some, same_Some}
use Rattle.arrayvec.specs.ArrayVec.{ArrayVec}
use Rattle.rtpwire.specs.declared.content.Content.{Content}
use Rattle.rtpwire.specs.FirstOf.{FirstOf}
use Rattle.rtpwire.specs.InFront.{found_in_front, none_in_front}
use Rattle.rtpwire.specs.Session.{Streams}
use Rattle.fbwire.specs.declared.fault.FeedbackFault.{FeedbackFault}
use Rattle.fbwire.specs.declared.fault.FeedbackFault.TheVariants.{WrongMedia, WrongReporter}
use Rattle.fbwire.specs.Fault.{feedback_number}
use Rattle.fbwire.specs.Nack.{Nack}
use Rattle.fbwire.specs.Compound.{CompoundSpells}
use Rattle.fbwire.specs.CompoundChecks.{IsRefused}
use Rattle.fbwire.specs.CompoundReading.{nacks_in}
use Rattle.fbwire.specs.Order.{compound_order}
use Rattle.sender.specs.declared.answer.Marked.{Marked}
use Rattle.sender.specs.declared.answer.Shared.{Shared}
use Rattle.sender.specs.declared.fault.SendFault.{SendFault}
use Rattle.sender.specs.declared.fault.SendFault.TheVariants.{PaddedEmpty, Exhausted}
use Rattle.sender.specs.Config.{Config}
use Rattle.sender.specs.Fault.{send_number}
use Rattle.sender.specs.History.{SenderState}
use Rattle.sender.specs.Sending.{CanBePadded, SendsAny}
use Rattle.sender.specs.Feedback.{is_receiver, is_ours, wrong_with, first_wrong, ReadsFeedback, MarksNamed, HearsNacks, HearsSaid, HearsFeedback}
use Rattle.sender.specs.Order.{IsStranger, NoneOfSession, session_order, feedback_order, sharing_order, shared_order, send_order}
use Rattle.sender.specs.Shared.{ours, SharesNacks, SharesSaid, HearsShared}
use Rattle.sender.proofs.SameShared.{is_foreign, some_none}

pick : {A : Type 0} (P : A → Type 0) (b : Bool) (x y : A) → (b ≡ true → P x) → (b ≡ false → P y) → P (cond b x y)
pick P true x y f g = f refl
pick P false x y f g = g refl

-- who is a stranger
known : (any eq : Bool) → (any || eq) ≡ true → any ≡ false → eq ≡ true
known true eq is not = absurd (cc)
known false eq is not = is

unknown : (any eq : Bool) → (any || eq) ≡ false → (any ≡ false) × (eq ≡ false)
unknown true eq is = absurd (cc)
unknown false eq is = (refl, is)

no_stranger : (c : Config) (nack : Nack) → is_receiver c nack ≡ true → IsStranger c nack → ⊥
no_stranger c nack is (off, differs) = differs (eqb-true _ _ (known c.any_reporter (nack.reporter == c.session.receiver_ssrc) is off))

stranger : (c : Config) (nack : Nack) → is_receiver c nack ≡ false → IsStranger c nack
stranger c nack is = let both = unknown c.any_reporter (nack.reporter == c.session.receiver_ssrc) is in (both.0, eqb-false _ _ both.1)

-- the first NACK that is wrong
nacks_in_order : (c : Config) (nacks : List Nack) → FirstOf (session_order c nacks) (option_map feedback_number (first_wrong c nacks))
nacks_in_order c [] = refl
nacks_in_order c (nack ∷ nacks) =
    let P : Option FeedbackFault → Type 0 = λ fault. FirstOf (session_order c (nack ∷ nacks)) (option_map feedback_number (option_or fault (first_wrong c nacks))) in
    pick P (nack.media == c.session.media_ssrc) (cond (is_receiver c nack) None (Some WrongReporter)) (Some WrongMedia)
    (λ media. pick P (is_receiver c nack) None (Some WrongReporter)
    (λ reporter. inr ((λ other. other (eqb-true _ _ media)), inr (no_stranger c nack reporter, nacks_in_order c nacks)))
    (λ other. inr ((λ differs. differs (eqb-true _ _ media)), inl (stranger c nack other, refl))))
    (λ other. inl (eqb-false _ _ other, refl))

-- the laws of feedback datagrams that this stands on
pub record Laws : Type 0 where
  pub order : (octets : List ℕ) (answer : Result (List Nack) FeedbackFault) → ((i : ℕ) → slice_index octets i < 2 ^ 8) →
      MatchResult answer (λ nacks. CompoundSpells nacks octets) (IsRefused octets) → FirstOf (compound_order octets) (option_map feedback_number (result_err answer))
  pub seen : (octets : List ℕ) (nacks : List Nack) → CompoundSpells nacks octets → nacks_in octets ≡ nacks

abbrev refusal : Result Marked FeedbackFault → Option ℕ
refusal answer = option_map feedback_number (result_err answer)

module _ (laws : Laws) (c : Config) (old : SenderState) (octets : List ℕ) (fits : (i : ℕ) → slice_index octets i < 2 ^ 8) (answer : Result Marked FeedbackFault) (new : SenderState) where
  taken : (nacks : List Nack) (r : Result Marked FeedbackFault) → MarksNamed c old nacks r new → refusal r ≡ None
  taken nacks (Ok marked) marks = refl
  taken nacks (Err fault) never = absurd never

  heard_so : (nacks : List Nack) (wrong : Option FeedbackFault) → HearsNacks c old nacks wrong answer new → refusal answer ≡ option_map feedback_number wrong
  heard_so nacks None marks = taken nacks answer marks
  heard_so nacks (Some fault) (is, same) = ap refusal is

  said_in_order : (said : Result (List Nack) FeedbackFault) → ReadsFeedback octets said → HearsSaid c old said answer new → FirstOf (feedback_order c octets) (refusal answer)
  unfolding feedback_order
  said_in_order (Ok nacks) says heard =
      none_in_front (compound_order octets) (session_order c (nacks_in octets)) (refusal answer) (laws.order octets (Ok nacks) fits says)
      (subst (λ (list : List Nack). FirstOf (session_order c list) (refusal answer)) (sym (laws.seen octets nacks says))
      (subst (λ (n : Option ℕ). FirstOf (session_order c nacks) n) (sym (heard_so nacks (first_wrong c nacks) heard)) (nacks_in_order c nacks)))
  said_in_order (Err fault) says (is, same) =
      subst (λ (n : Option ℕ). FirstOf (compound_order octets ++ session_order c (nacks_in octets)) n) (sym (ap refusal is))
      (found_in_front (compound_order octets) (session_order c (nacks_in octets)) (feedback_number fault) (laws.order octets (Err fault) fits says))

  pub feedback_in_order : HearsFeedback c old octets answer new → FirstOf (feedback_order c octets) (refusal answer)
  feedback_in_order hears = said_in_order hears.said hears.says hears.heard

-- where none is of the session

theirs_so : (c : Config) (nack : Nack) → (nack.media ≢ c.session.media_ssrc) ⊎ IsStranger c nack → is_ours c nack ≡ false
theirs_so c nack (inl other) = is_foreign c nack other
theirs_so c nack (inr (off, differs)) = elim (cases_Bool (is_receiver c nack)) [
  | inl is ↦ absurd (no_stranger c nack is (off, differs))
  | inr e ↦ ap (λ b. (nack.media == c.session.media_ssrc) && b) e ∙ and_false (nack.media == c.session.media_ssrc)
]
  where
    and_false : (b : Bool) → (b && false) ≡ false
    and_false true = refl
    and_false false = refl

so_theirs : (c : Config) (nack : Nack) → is_ours c nack ≡ false → (nack.media ≢ c.session.media_ssrc) ⊎ IsStranger c nack
so_theirs c nack not = by (nack.media == c.session.media_ssrc) refl not
  where
    by : (b : Bool) → (nack.media == c.session.media_ssrc) ≡ b → (b && is_receiver c nack) ≡ false → (nack.media ≢ c.session.media_ssrc) ⊎ IsStranger c nack
    by true media is = inr (stranger c nack is)
    by false media is = inl (eqb-false _ _ media)

module _ (c : Config) where
  none_ours : (nacks : List Nack) → NoneOfSession c nacks → ours c nacks ≡ []
  none_ours [] none = refl
  none_ours (nack ∷ nacks) none =
      ap (λ b. cond b (nack ∷ ours c nacks) (ours c nacks)) (theirs_so c nack (none 0 nack (omega arith)))
      ∙ none_ours nacks (λ k d within. none (suc k) d (omega arith))

  ours_none : (nacks : List Nack) → ours c nacks ≡ [] → NoneOfSession c nacks
  ours_none [] none = λ k d within. absurd (omega arith)
  ours_none (nack ∷ nacks) none = by (ours_none nacks) (is_ours c nack) refl none
    where
      by : (ours c nacks ≡ [] → NoneOfSession c nacks) → (b : Bool) → is_ours c nack ≡ b → cond b (nack ∷ ours c nacks) (ours c nacks) ≡ [] → NoneOfSession c (nack ∷ nacks)
      by rest true is none = absurd (let never : nack ∷ ours c nacks ≡ [] = none in cc)
      by rest false is none = All-cons (λ (n : Nack). (n.media ≢ c.session.media_ssrc) ⊎ IsStranger c n) nack nacks (so_theirs c nack is) (rest none)

module _ (laws : Laws) (c : Config) (old : SenderState) (octets : List ℕ) (fits : (i : ℕ) → slice_index octets i < 2 ^ 8) (new : SenderState) where
  -- what the first NACK answers
  first_decides : (nack : Nack) (nacks : List Nack) (fault : FeedbackFault) → NoneOfSession c (nack ∷ nacks) → wrong_with c nack ≡ Some fault →
      FirstOf (sharing_order c (nack ∷ nacks)) (Some (feedback_number fault))
  first_decides nack nacks fault none is = by (nack.media == c.session.media_ssrc) refl (is_receiver c nack) is
    where
      by : (a : Bool) → (nack.media == c.session.media_ssrc) ≡ a → (b : Bool) → cond a (cond b None (Some WrongReporter)) (Some WrongMedia) ≡ Some fault → FirstOf (sharing_order c (nack ∷ nacks)) (Some (feedback_number fault))
      by true media true is = absurd (none-some fault is)
      by true media false is = inr ((λ both. both.1 (eqb-true _ _ media)), inl (none, ap (λ (f : FeedbackFault). Some (feedback_number f)) (sym (same_Some _ _ is))))
      by false media b is = inl ((none, eqb-false _ _ media), ap (λ (f : FeedbackFault). Some (feedback_number f)) (sym (same_Some _ _ is)))

  sharing_in_order : (nacks : List Nack) (answer : Result Shared FeedbackFault) → SharesNacks c old nacks answer new → FirstOf (sharing_order c nacks) (option_map feedback_number (result_err answer))
  sharing_in_order [] (Ok shared) a = refl
  sharing_in_order [] (Err fault) (none, first, same) = absurd (none-some fault first)
  sharing_in_order (nack ∷ nacks) (Ok shared) a =
      let some : NoneOfSession c (nack ∷ nacks) → ⊥ = λ none. some_none (ours c (nack ∷ nacks)) a.some (none_ours c (nack ∷ nacks) none) in
      inr ((λ both. some both.0), inr (some, refl))
  sharing_in_order (nack ∷ nacks) (Err fault) (none, first, same) = first_decides nack nacks fault (ours_none c (nack ∷ nacks) none) first

  shared_so : (answer : Result Shared FeedbackFault) (said : Result (List Nack) FeedbackFault) → ReadsFeedback octets said → SharesSaid c old said answer new → FirstOf (shared_order c octets) (option_map feedback_number (result_err answer))
  unfolding shared_order
  shared_so answer (Ok nacks) says heard =
      none_in_front (compound_order octets) (sharing_order c (nacks_in octets)) (option_map feedback_number (result_err answer)) (laws.order octets (Ok nacks) fits says)
      (subst (λ (list : List Nack). FirstOf (sharing_order c list) (option_map feedback_number (result_err answer))) (sym (laws.seen octets nacks says)) (sharing_in_order nacks answer heard))
  shared_so answer (Err fault) says (is, same) =
      subst (λ (r : Result Shared FeedbackFault). FirstOf (compound_order octets ++ sharing_order c (nacks_in octets)) (option_map feedback_number (result_err r))) (sym is)
      (found_in_front (compound_order octets) (sharing_order c (nacks_in octets)) (feedback_number fault) (laws.order octets (Err fault) fits says))

  pub shared_in_order : (answer : Result Shared FeedbackFault) → HearsShared c old octets answer new → FirstOf (shared_order c octets) (option_map feedback_number (result_err answer))
  shared_in_order answer hears = shared_so answer hears.said hears.says hears.heard

-- padding behind no payload
not_padded : (content : Content) (padding : ℕ) → (CanBePadded content padding → ⊥) → (0 < padding) × (content.payload.items ≡ [])
not_padded content padding cannot = (
  elim (cases_lt 0 padding) [ inl some ↦ some | inr none ↦ absurd (cannot (λ some. absurd (omega (arith, some, none)))) ],
  elim (cases_lt 0 (length content.payload.items)) [ inl some ↦ absurd (cannot (λ padded. some)) | inr none ↦ nil_from_length content.payload.items (omega (arith, none)) ],
)

padded : (content : Content) (padding : ℕ) → CanBePadded content padding → (0 < padding) × (content.payload.items ≡ []) → ⊥
padded content padding can (some, none) = let long = can some in let size : length content.payload.items ≡ 0 = ap (λ (xs : List ℕ). length xs) none in omega (arith, long, size)

pub send_in_order : (s : Streams) (room : ℕ) (old : SenderState) (content : Content) (padding : ℕ) (answer : Result (ℕ × ArrayVec ℕ) SendFault) (new : SenderState) →
    SendsAny s room old content padding answer new → FirstOf (send_order old content padding) (option_map send_number (result_err answer))
send_in_order s room old content padding (Ok sent) new sends =
    inr (padded content padding sends.padded, inr ((λ past. let at = sends.place_is in let fits = sends.fits in omega (arith, past, at, fits)), refl))
send_in_order s room old content padding (Err PaddedEmpty) new (cannot, same) = inl (not_padded content padding cannot, refl)
send_in_order s room old content padding (Err Exhausted) new (can, past, same) = inr (padded content padding can, inl (past, refl))
