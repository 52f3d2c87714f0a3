-- Feedback that several senders share has one answer, and leaves one sender; and what it comes to where all of it is of the
-- session, for one NACK, for two, and for any octets.
use Rattle.std.proofs.Common.{◌≡◌, ◌≢◌, ◌↔◌, ℕ, ◌-◌, ◌<◌, ◌⊎◌, ◌==◌, ◌&&◌, not, Bool, true, false, cond, List, [], ◌∷◌, length, Option, None, Result, Ok, Err, sym, ap, subst, ◌∙◌, arith, eq-eqb, inl, inr}
use Rattle.std.specs.Prelude.{IsTrue, All}
use Rattle.std.specs.List.{count_by}
use Rattle.std.proofs.lemmas.Bool.{eqb-true, cases_eq, cases_Bool}
use Rattle.std.proofs.lemmas.Option.{same_Some}
use Rattle.places.specs.Place.{number}
use Rattle.fbwire.specs.declared.fault.FeedbackFault.{FeedbackFault}
use Rattle.fbwire.specs.Nack.{Nack, NackSpells, Names}
use Rattle.fbwire.specs.Compound.{CompoundSpells, NacksName}
use Rattle.sender.specs.declared.answer.Marked.{Marked}
use Rattle.sender.specs.declared.answer.Shared.{Shared}
use Rattle.sender.specs.Config.{Config}
use Rattle.sender.specs.History.{SenderState, Marks}
use Rattle.sender.specs.Feedback.{is_receiver, is_ours, first_wrong, ReadsFeedback, MarksNamed, HearsNacks, HearsSaid, HearsFeedback, MarksAlone, MarksOrRefuses}
use Rattle.sender.specs.Shared.{ours, theirs, count_in_32, CountsThose, SharesNacks, SharesSaid, HearsShared, SharesAlone, marked_of}
use Rattle.sender.specs.Tail.{MarksLast, IsLastNumber}
use Rattle.sender.proofs.Named.{or_right}
use Rattle.sender.proofs.Ours.{all_ours, none_wrong}
use Rattle.sender.proofs.SameMarks.{Laws, same_test, one_marking, same_set, one_alone}
use Rattle.sender.proofs.SameSteps.{Same}

-- a count has one value

one_those : (Has : ℕ → Type 0) (numbers : List ℕ) (i j : ℕ) → CountsThose Has numbers i → CountsThose Has numbers j → i ≡ j
one_those Has numbers i j a b = a.counted ∙ ap (λ (test : ℕ → Bool). count_in_32 (count_by test numbers)) (λ k n. each n k) ∙ sym b.counted
  where
    each : (n : ℕ) → a.test n ≡ b.test n
    each n = same_test (a.test n) (b.test n) (λ is. (b.tells n).1 ((a.tells n).0 is)) (λ is. (a.tells n).1 ((b.tells n).0 is))

pub some_none : {A : Type 0} (xs : List A) → 0 < length xs → xs ≡ [] → ⊥
some_none xs some none = let size : length xs ≡ 0 = ap (λ list. length list) none in omega (arith, some, size)

module _ (laws : Laws) (c : Config) (old : SenderState) where
  module _ (nacks : List Nack) (v w : SenderState) where
    one_sharing : (x y : Result Shared FeedbackFault) → SharesNacks c old nacks x v → SharesNacks c old nacks y w → Same x y v w
    one_sharing (Ok r) (Ok s) a b =
        let one = one_marking c.repeats (NacksName (ours c nacks)) old v w (laws.decided (ours c nacks)) r.places s.places a.marks b.marks in
        let same_nacks : r.nacks ≡ s.nacks = a.counts.nacks ∙ sym b.counts.nacks in
        let same_others : r.others ≡ s.others = a.counts.others ∙ sym b.counts.others in
        let same_numbers : r.numbers ≡ s.numbers = a.counts.numbers ∙ sym b.counts.numbers in
        let same_unknown : r.unknown ≡ s.unknown = one_those _ _ _ _ a.counts.unknown b.counts.unknown in
        let same_exhausted : r.exhausted ≡ s.exhausted = one_those _ _ _ _ a.counts.exhausted b.counts.exhausted in
        (λ i. Ok (record { places = one.0 i; nacks = same_nacks i; others = same_others i; numbers = same_numbers i; unknown = same_unknown i; exhausted = same_exhausted i }), one.1)
    one_sharing (Ok r) (Err fault) a (none, first, same) = absurd (some_none (ours c nacks) a.some none)
    one_sharing (Err fault) (Ok s) (none, first, same) b = absurd (some_none (ours c nacks) b.some none)
    one_sharing (Err fault) (Err other) (none, first, same) (none', first', same') =
        (ap (λ (f : FeedbackFault). Err f) (same_Some fault other (sym first ∙ first')), same ∙ sym same')

  module _ (octets : List ℕ) (x y : Result Shared FeedbackFault) (v w : SenderState) where
    one_said : (said other : Result (List Nack) FeedbackFault) → ReadsFeedback octets said → ReadsFeedback octets other → SharesSaid c old said x v → SharesSaid c old other y w → Same x y v w
    one_said (Ok nacks) (Ok others) says says' a b =
        one_sharing nacks v w x y a (subst (λ (n : List Nack). SharesNacks c old n y w) (laws.one_list octets others nacks says' says) b)
    one_said (Ok nacks) (Err fault) says says' a b = absurd (laws.not_both octets nacks fault says says')
    one_said (Err fault) (Ok nacks) says says' a b = absurd (laws.not_both octets nacks fault says' says)
    one_said (Err fault) (Err other) says says' (is, same) (is', same') =
        (is ∙ ap (λ (f : FeedbackFault). Err f) (laws.one_fault octets fault other says says') ∙ sym is', same ∙ sym same')

    pub one_shared : HearsShared c old octets x v → HearsShared c old octets y w → Same x y v w
    one_shared a b = one_said a.said b.said a.says b.says a.heard b.heard

  -- where all NACKs are of the session
  module _ (octets : List ℕ) (v w : SenderState) where
    as_alone : (nacks : List Nack) → CompoundSpells nacks octets → ours c nacks ≡ nacks → (x : Result Shared FeedbackFault) (y : Result Marked FeedbackFault) →
        SharesNacks c old nacks x v → MarksNamed c old nacks y w → Same (marked_of x) y v w
    as_alone nacks says all (Ok shared) (Ok marked) a b =
        let mine : Marks c.repeats (NacksName nacks) old shared.places v = subst (λ (n : List Nack). Marks c.repeats (NacksName n) old shared.places v) all a.marks in
        let one = one_marking c.repeats (NacksName nacks) old v w (laws.decided nacks) shared.places marked.places mine b in
        (λ i. Ok (record { places = one.0 i }), one.1)
    as_alone nacks says all (Err fault) y (none, first, same) b = absurd (some_none nacks says.some (sym all ∙ none))
    as_alone nacks says all (Ok shared) (Err fault) a never = absurd never

    all_alike : (x : Result Shared FeedbackFault) (y : Result Marked FeedbackFault) → (said : Result (List Nack) FeedbackFault) (other : Result (List Nack) FeedbackFault) →
        ((nacks : List Nack) → CompoundSpells nacks octets → All (λ (nack : Nack). IsTrue (is_ours c nack)) nacks) →
        ReadsFeedback octets said → ReadsFeedback octets other → SharesSaid c old said x v → HearsSaid c old other y w → Same (marked_of x) y v w
    all_alike x y (Ok nacks) (Ok others) all says says' a b =
        let none : first_wrong c nacks ≡ None = none_wrong c nacks (all nacks says) in
        as_alone nacks says (all_ours c nacks none) x y a
        (subst (λ (wrong : Option FeedbackFault). HearsNacks c old nacks wrong y w) none
        (subst (λ (n : List Nack). HearsNacks c old n (first_wrong c n) y w) (laws.one_list octets others nacks says' says) b))
    all_alike x y (Ok nacks) (Err fault) all says says' a b = absurd (laws.not_both octets nacks fault says says')
    all_alike x y (Err fault) (Ok nacks) all says says' a b = absurd (laws.not_both octets nacks fault says' says)
    all_alike x y (Err fault) (Err other) all says says' (is, same) (is', same') =
        (ap marked_of is ∙ ap (λ (f : FeedbackFault). Err f) (laws.one_fault octets fault other says says') ∙ sym is', same ∙ sym same')

    pub same_as_feedback : (x : Result Shared FeedbackFault) (y : Result Marked FeedbackFault) →
        ((nacks : List Nack) → CompoundSpells nacks octets → All (λ (nack : Nack). IsTrue (is_ours c nack)) nacks) →
        HearsShared c old octets x v → HearsFeedback c old octets y w → Same (marked_of x) y v w
    same_as_feedback x y all a b = all_alike x y a.said b.said all a.says b.says a.heard b.heard

  -- where one NACK is of the session
  module _ (octets : List ℕ) (new : SenderState) (nack : Nack) (k : ℕ) where
    names_alone : (n : ℕ) → NacksName (nack ∷ []) n ↔ Names nack.pairs n
    names_alone n = (λ named. elim named [ inl names ↦ names | inr never ↦ absurd never ], λ names. inl names)

    one_of : (nacks : List Nack) → ours c nacks ≡ nack ∷ [] → count_in_32 (length (theirs c nacks)) ≡ k → (answer : Result Shared FeedbackFault) → SharesNacks c old nacks answer new → SharesAlone c old nack k answer new
    one_of nacks mine others (Ok shared) a = (
      same_set c.repeats (NacksName (nack ∷ [])) (Names nack.pairs) names_alone old shared.places new (subst (λ (n : List Nack). Marks c.repeats (NacksName n) old shared.places new) mine a.marks),
      a.counts.nacks ∙ ap (λ (n : List Nack). count_in_32 (length n)) mine,
      a.counts.others ∙ others,
    )
    one_of nacks mine others (Err fault) (none, first, same) = absurd (some_none (nack ∷ []) (omega arith) (sym mine ∙ none))

    pub shares_alone : (nacks : List Nack) → CompoundSpells nacks octets → ours c nacks ≡ nack ∷ [] → count_in_32 (length (theirs c nacks)) ≡ k →
        (answer : Result Shared FeedbackFault) → HearsShared c old octets answer new → SharesAlone c old nack k answer new
    shares_alone nacks spells mine others answer hears = by hears.said hears.says hears.heard
      where
        by : (said : Result (List Nack) FeedbackFault) → ReadsFeedback octets said → SharesSaid c old said answer new → SharesAlone c old nack k answer new
        by (Ok list) says heard = one_of nacks mine others answer (subst (λ (n : List Nack). SharesNacks c old n answer new) (laws.one_list octets list nacks says spells) heard)
        by (Err fault) says heard = absurd (laws.not_both octets nacks fault spells says)

  pub marks_or_refuses : (octets : List ℕ) (answer : Result Shared FeedbackFault) (new : SenderState) → HearsShared c old octets answer new → MarksOrRefuses c old (marked_of answer) new
  marks_or_refuses octets answer new hears = by hears.said hears.heard
    where
      read : (nacks : List Nack) (r : Result Shared FeedbackFault) → SharesNacks c old nacks r new → MarksOrRefuses c old (marked_of r) new
      read nacks (Ok shared) a = (ours c nacks, a.marks)
      read nacks (Err fault) (none, first, same) = same

      by : (said : Result (List Nack) FeedbackFault) → SharesSaid c old said answer new → MarksOrRefuses c old (marked_of answer) new
      by (Ok nacks) heard = read nacks answer heard
      by (Err fault) (is, same) = subst (λ (r : Result Shared FeedbackFault). MarksOrRefuses c old (marked_of r) new) (sym is) same

-- of one NACK, and of two

pub is_mine : (c : Config) (nack : Nack) → nack.media ≡ c.session.media_ssrc → nack.reporter ≡ c.session.receiver_ssrc → is_ours c nack ≡ true
is_mine c nack media reporter =
    ap (λ b. b && is_receiver c nack) (eq-eqb _ _ media) ∙ or_right c.any_reporter (nack.reporter == c.session.receiver_ssrc) (eq-eqb _ _ reporter)

pub is_foreign : (c : Config) (nack : Nack) → nack.media ≢ c.session.media_ssrc → is_ours c nack ≡ false
is_foreign c nack other = elim (cases_Bool (nack.media == c.session.media_ssrc)) [
  | inl same ↦ absurd (other (eqb-true _ _ same))
  | inr e ↦ ap (λ b. b && is_receiver c nack) e
]

module _ (c : Config) (a : Nack) (mine : is_ours c a ≡ true) where
  pub ours_alone : ours c (a ∷ []) ≡ a ∷ []
  ours_alone = ap (λ b. cond b (a ∷ []) []) mine

  pub theirs_alone : count_in_32 (length (theirs c (a ∷ []))) ≡ 0
  theirs_alone = ap (λ b. count_in_32 (length (cond (not b) (a ∷ []) []))) mine

  module _ (b : Nack) (foreign : is_ours c b ≡ false) where
    pub ours_first : ours c (a ∷ b ∷ []) ≡ a ∷ []
    ours_first = λ i. cond (mine i) (a ∷ cond (foreign i) (b ∷ []) []) (cond (foreign i) (b ∷ []) [])

    pub theirs_second : count_in_32 (length (theirs c (a ∷ b ∷ []))) ≡ 1
    theirs_second = λ i. count_in_32 (length (cond (not (mine i)) (a ∷ cond (not (foreign i)) (b ∷ []) []) (cond (not (foreign i)) (b ∷ []) [])))

    pub ours_second : ours c (b ∷ a ∷ []) ≡ a ∷ []
    ours_second = λ i. cond (foreign i) (b ∷ cond (mine i) (a ∷ []) []) (cond (mine i) (a ∷ []) [])

    pub theirs_first : count_in_32 (length (theirs c (b ∷ a ∷ []))) ≡ 1
    theirs_first = λ i. count_in_32 (length (cond (not (foreign i)) (b ∷ cond (not (mine i)) (a ∷ []) []) (cond (not (mine i)) (a ∷ []) [])))

-- marking the newest entry

pub last_is_feedback : Laws → (c : Config) (old : SenderState) (octets : List ℕ) (nack : Nack) (answer : Result Marked FeedbackFault) (new : SenderState) (marked : Marked) (after : SenderState) →
    NackSpells nack octets → nack.media ≡ c.session.media_ssrc → nack.reporter ≡ c.session.receiver_ssrc →
    ((n : ℕ) → Names nack.pairs n ↔ (n ≡ number (old.next - 1))) → HearsFeedback c old octets answer new → MarksLast c.repeats old marked after → Same answer (Ok marked) new after
last_is_feedback laws c old octets nack answer new marked after spells media reporter names hears marks =
    by answer (one_alone laws c old octets answer new nack spells media reporter hears)
  where
    decided : (n : ℕ) → IsLastNumber old n ⊎ (IsLastNumber old n → ⊥)
    decided n = cases_eq n (number (old.next - 1))

    by : (r : Result Marked FeedbackFault) → MarksAlone c old nack r new → Same r (Ok marked) new after
    by (Ok told) m =
        let one = one_marking c.repeats (IsLastNumber old) old new after decided told.places marked.places (same_set c.repeats (Names nack.pairs) (IsLastNumber old) names old told.places new m) marks in
        (λ i. Ok (record { places = one.0 i }), one.1)
    by (Err fault) never = absurd never
