-- Feedback has one answer, and leaves one sender; and what it comes to for one NACK and for any octets.
use Rattle.std.proofs.Common.{◌≡◌, ◌↔◌, ℕ, suc, ◌<◌, ◌⊎◌, ◌==◌, ◌||◌, Bool, true, false, cond, List, [], ◌∷◌, length, Option, Some, None, Result, Ok, Err, refl, sym, ap, subst, ◌∙◌, arith, eq-eqb, inl, inr}
use Rattle.std.proofs.lemmas.Bool.{eqb-true, cases_lt}
use Rattle.std.proofs.lemmas.List.Kept.{AllPairs-from_increasing}
use Rattle.std.specs.List.{AllPairs}
use Rattle.std.specs.Option.{option_or}
use Rattle.places.specs.Among.{is_among}
use Rattle.places.specs.Place.{number}
use Rattle.fbwire.specs.declared.fault.FeedbackFault.{FeedbackFault}
use Rattle.fbwire.specs.declared.fault.FeedbackFault.TheVariants.{WrongMedia, WrongReporter}
use Rattle.fbwire.specs.Nack.{Nack, NackSpells, Names}
use Rattle.fbwire.specs.Compound.{CompoundSpells, NacksName}
use Rattle.fbwire.specs.CompoundChecks.{IsRefused}
use Rattle.stores.specs.declared.entry.HistoryEntry.{HistoryEntry}
use Rattle.stores.specs.PlaceLists.{Lists}
use Rattle.sender.specs.declared.answer.Marked.{Marked}
use Rattle.sender.specs.Config.{Config}
use Rattle.sender.specs.History.{SenderState, Marks, CanBeMarked, becomes_marked}
use Rattle.sender.specs.Feedback.{is_receiver, first_wrong, ReadsFeedback, MarksNamed, HearsNacks, HearsSaid, HearsFeedback, MarksAlone, MarksOrRefuses}
use Rattle.sender.proofs.Named.{or_left, or_right, or_cases, contained_among}
use Rattle.sender.proofs.SameSteps.{Same, same_history}

-- a rising list is determined by its members

abbrev pub Rises : List ℕ → Type 0
Rises xs = AllPairs (λ x y. x < y) xs

rest_rises : (x : ℕ) (xs : List ℕ) → Rises (x ∷ xs) → Rises xs
rest_rises x xs rises i j d less within = rises (suc i) (suc j) d (omega arith) (omega arith)

above_first : (x : ℕ) (xs : List ℕ) (q : ℕ) → Rises (x ∷ xs) → is_among xs q ≡ true → x < q
above_first x xs q rises among =
    let at = contained_among xs q among in
    let within = at.1 in
    subst (λ n. x < n) at.2 (rises 0 (suc at.0) q (omega arith) (omega arith))

pub same_test : (a b : Bool) → (a ≡ true → b ≡ true) → (b ≡ true → a ≡ true) → a ≡ b
same_test true b f g = sym (f refl)
same_test false true f g = g refl
same_test false false f g = refl

rest_has : (x y : ℕ) (xs ys : List ℕ) → x ≡ y → Rises (x ∷ xs) → ((q : ℕ) → is_among (x ∷ xs) q ≡ is_among (y ∷ ys) q) → (q : ℕ) → is_among xs q ≡ true → is_among ys q ≡ true
rest_has x y xs ys first rises same q among =
    let above = above_first x xs q rises among in
    let there : is_among (y ∷ ys) q ≡ true = sym (same q) ∙ (elim (x == q) as (λ b. (b || is_among xs q) ≡ true) [ true ↦ refl | false ↦ among ]) in
    elim (or_cases (y == q) (is_among ys q) there) [ inl e ↦ let at = eqb-true _ _ e in absurd (omega arith) | inr rest ↦ rest ]

one_count : (xs ys : List ℕ) → Rises xs → Rises ys → ((q : ℕ) → is_among xs q ≡ is_among ys q) → length xs ≡ length ys
one_count [] [] up up' same = refl
one_count [] (y ∷ ys) up up' same = absurd (let never : false ≡ true = same y ∙ or_left (y == y) (is_among ys y) (eq-eqb y y refl) in cc)
one_count (x ∷ xs) [] up up' same = absurd (let never : true ≡ false = sym (or_left (x == x) (is_among xs x) (eq-eqb x x refl)) ∙ same x in cc)
one_count (x ∷ xs) (y ∷ ys) up up' same =
    let in_second = sym (same x) ∙ or_left (x == x) (is_among xs x) (eq-eqb x x refl) in
    let in_first = same y ∙ or_left (y == y) (is_among ys y) (eq-eqb y y refl) in
    let first : x ≡ y =
    elim (or_cases (x == y) (is_among xs y) in_first) [
      | inl e ↦ eqb-true _ _ e
      | inr later ↦ elim (or_cases (y == x) (is_among ys x) in_second) [
        | inl e ↦ sym (eqb-true _ _ e)
        | inr later' ↦ let above = above_first x xs y up later in let above' = above_first y ys x up' later' in absurd (omega arith)
      ]
    ] in
    ap suc (one_count xs ys (rest_rises x xs up) (rest_rises y ys up')
    (λ q. same_test _ _ (rest_has x y xs ys first up same q) (rest_has y x ys xs (sym first) up' (λ q. sym (same q)) q)))

one_listing : (xs ys : List ℕ) (test other : ℕ → Bool) → Lists xs test → Lists ys other → ((q : ℕ) → test q ≡ other q) → length xs ≡ length ys
one_listing xs ys test other a b same =
    one_count xs ys (AllPairs-from_increasing xs a.rises) (AllPairs-from_increasing ys b.rises) (λ q. a.each q ∙ same q ∙ sym (b.each q))

-- marks

can_or_not : (repeats : ℕ) (o : Option HistoryEntry) → CanBeMarked repeats o ⊎ (CanBeMarked repeats o → ⊥)
can_or_not repeats None = inr (λ never. never)
can_or_not repeats (Some entry) = elim (cases_lt entry.repeats repeats) [ inl less ↦ inl less | inr more ↦ inr (λ less. absurd (omega arith)) ]

module _ (repeats : ℕ) (named : ℕ → Type 0) (old : SenderState) (v w : SenderState) where
  pub one_marking : ((n : ℕ) → named n ⊎ (named n → ⊥)) → (i j : ℕ) → Marks repeats named old i v → Marks repeats named old j w → Same i j v w
  one_marking decided i j a b = (
    a.counted ∙ one_listing a.places b.places _ _ a.listed b.listed (λ q. ap (becomes_marked (old.entries q)) (entries q)) ∙ sym b.counted,
    same_history v w (a.next ∙ sym b.next) (a.repair ∙ sym b.repair) entries,
  )
    where
      entries : (q : ℕ) → v.entries q ≡ w.entries q
      entries q = elim (decided (number q)) [
        | inl is_named ↦ elim (can_or_not repeats (old.entries q)) [
          | inl can ↦ a.marks q is_named can ∙ sym (b.marks q is_named can)
          | inr cannot ↦ a.others q (λ _. cannot) ∙ sym (b.others q (λ _. cannot))
        ]
        | inr unnamed ↦ a.others q (λ named. absurd (unnamed named)) ∙ sym (b.others q (λ named. absurd (unnamed named)))
      ]

-- marking for a set is marking for another set with the same numbers
pub same_set : (repeats : ℕ) (named other : ℕ → Type 0) → ((n : ℕ) → named n ↔ other n) → (old : SenderState) (count : ℕ) (new : SenderState) → Marks repeats named old count new → Marks repeats other old count new
same_set repeats named other same old count new m =
    record {
      next = m.next;
      repair = m.repair;
      marks = λ q is can. m.marks q ((same (number q)).1 is) can;
      others = λ q not_both. m.others q (λ is. not_both ((same (number q)).0 is));
      places = m.places;
      listed = m.listed;
      counted = m.counted;
    }

-- the laws of feedback datagrams that this stands on
pub record Laws : Type 0 where
  pub one_list : (octets : List ℕ) (a b : List Nack) → CompoundSpells a octets → CompoundSpells b octets → a ≡ b
  pub one_fault : (octets : List ℕ) (a b : FeedbackFault) → IsRefused octets a → IsRefused octets b → a ≡ b
  pub not_both : (octets : List ℕ) (nacks : List Nack) (a : FeedbackFault) → CompoundSpells nacks octets → IsRefused octets a → ⊥
  pub alone : (nack : Nack) (octets : List ℕ) → NackSpells nack octets → CompoundSpells (nack ∷ []) octets
  pub decided : (nacks : List Nack) (n : ℕ) → NacksName nacks n ⊎ (NacksName nacks n → ⊥)

module _ (laws : Laws) (c : Config) (old : SenderState) (octets : List ℕ) where
  module _ (x y : Result Marked FeedbackFault) (v w : SenderState) where
    one_naming : (nacks : List Nack) → MarksNamed c old nacks x v → MarksNamed c old nacks y w → Same x y v w
    one_naming nacks a b = by x y a b
      where
        by : (x y : Result Marked FeedbackFault) → MarksNamed c old nacks x v → MarksNamed c old nacks y w → Same x y v w
        by (Ok r) (Ok s) a b =
            let one = one_marking c.repeats (NacksName nacks) old v w (laws.decided nacks) r.places s.places a b in
            (λ i. Ok (record { places = one.0 i }), one.1)
        by (Ok r) (Err fault) a never = absurd never
        by (Err fault) y never b = absurd never

    one_reading : (nacks : List Nack) (wrong : Option FeedbackFault) → HearsNacks c old nacks wrong x v → HearsNacks c old nacks wrong y w → Same x y v w
    one_reading nacks None a b = one_naming nacks a b
    one_reading nacks (Some fault) (is, same) (is', same') = (is ∙ sym is', same ∙ sym same')

    one_said : (said other : Result (List Nack) FeedbackFault) → ReadsFeedback octets said → ReadsFeedback octets other → HearsSaid c old said x v → HearsSaid c old other y w → Same x y v w
    one_said (Ok nacks) (Ok others) says says' a b =
        one_reading nacks (first_wrong c nacks) a
        (subst (λ (n : List Nack). HearsNacks c old n (first_wrong c n) y w) (laws.one_list octets others nacks says' says) b)
    one_said (Ok nacks) (Err fault) says says' a b = absurd (laws.not_both octets nacks fault says says')
    one_said (Err fault) (Ok nacks) says says' a b = absurd (laws.not_both octets nacks fault says' says)
    one_said (Err fault) (Err other) says says' (is, same) (is', same') =
        (is ∙ ap (λ (f : FeedbackFault). Err f) (laws.one_fault octets fault other says says') ∙ sym is', same ∙ sym same')

    pub one_feedback : HearsFeedback c old octets x v → HearsFeedback c old octets y w → Same x y v w
    one_feedback a b = one_said a.said b.said a.says b.says a.heard b.heard

  module _ (answer : Result Marked FeedbackFault) (new : SenderState) where
    alone_names : (nack : Nack) (n : ℕ) → NacksName (nack ∷ []) n ↔ Names nack.pairs n
    alone_names nack n = (λ named. elim named [ inl names ↦ names | inr never ↦ absurd never ], λ names. inl names)

    alone_named : (nack : Nack) (r : Result Marked FeedbackFault) → MarksNamed c old (nack ∷ []) r new → MarksAlone c old nack r new
    alone_named nack (Ok marked) m = same_set c.repeats (NacksName (nack ∷ [])) (Names nack.pairs) (alone_names nack) old marked.places new m
    alone_named nack (Err fault) never = never

    right : (nack : Nack) → nack.media ≡ c.session.media_ssrc → nack.reporter ≡ c.session.receiver_ssrc → first_wrong c (nack ∷ []) ≡ None
    right nack media reporter =
        let known : is_receiver c nack ≡ true = or_right c.any_reporter (nack.reporter == c.session.receiver_ssrc) (eq-eqb _ _ reporter) in
        ap (λ b. option_or (cond b (cond (is_receiver c nack) None (Some WrongReporter)) (Some WrongMedia)) None) (eq-eqb _ _ media)
        ∙ ap (λ b. option_or (cond b None (Some WrongReporter)) None) known

    pub one_alone : (nack : Nack) → NackSpells nack octets → nack.media ≡ c.session.media_ssrc → nack.reporter ≡ c.session.receiver_ssrc → HearsFeedback c old octets answer new → MarksAlone c old nack answer new
    one_alone nack spells media reporter hears = by hears.said hears.says hears.heard
      where
        by : (said : Result (List Nack) FeedbackFault) → ReadsFeedback octets said → HearsSaid c old said answer new → MarksAlone c old nack answer new
        by (Ok nacks) says heard =
            let one = laws.one_list octets nacks (nack ∷ []) says (laws.alone nack octets spells) in
            alone_named nack answer
            (subst (λ (wrong : Option FeedbackFault). HearsNacks c old (nack ∷ []) wrong answer new) (right nack media reporter)
            (subst (λ (n : List Nack). HearsNacks c old n (first_wrong c n) answer new) one heard))
        by (Err fault) says heard = absurd (laws.not_both octets (nack ∷ []) fault (laws.alone nack octets spells) says)

    refuses : (fault : FeedbackFault) → answer ≡ Err fault → new ≡ old → MarksOrRefuses c old answer new
    refuses fault is same = subst (λ (r : Result Marked FeedbackFault). MarksOrRefuses c old r new) (sym is) same

    pub whichever : HearsFeedback c old octets answer new → MarksOrRefuses c old answer new
    whichever hears = by hears.said hears.heard
      where
        named : (nacks : List Nack) (r : Result Marked FeedbackFault) → MarksNamed c old nacks r new → MarksOrRefuses c old r new
        named nacks (Ok marked) m = (nacks, m)
        named nacks (Err fault) never = absurd never

        read : (nacks : List Nack) (wrong : Option FeedbackFault) → HearsNacks c old nacks wrong answer new → MarksOrRefuses c old answer new
        read nacks None m = named nacks answer m
        read nacks (Some fault) (is, same) = refuses fault is same

        by : (said : Result (List Nack) FeedbackFault) → HearsSaid c old said answer new → MarksOrRefuses c old answer new
        by (Ok nacks) heard = read nacks (first_wrong c nacks) heard
        by (Err fault) (is, same) = refuses fault is same
