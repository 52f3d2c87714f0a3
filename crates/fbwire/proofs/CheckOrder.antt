-- The fault of feedback is the first of the checks in their order.
use Rattle.std.proofs.Common.{◌≡◌, ◌≢◌, ℕ, zero, suc, ◌<◌, Bool, true, false, cond, List, [], ◌∷◌, ◌++◌, length, take, drop, Option, Some, None, Result, Ok, Err, refl, sym, ap, subst, ◌∙◌, arith, inl, inr, eq-eqb, ltb-true, ltb-false, option_map}
use Rattle.std.specs.List.{concat}
use Rattle.std.specs.Prelude.{IsTrue, not, nat_lt, ◌==◌, ◌&&◌, ◌||◌, MatchResult}
use Rattle.std.specs.Result.{result_err}
use Rattle.std.proofs.lemmas.Bool.{eqb-true, eqb-false, cases_Bool, lt-ltb}
use Rattle.std.proofs.lemmas.List.{length-drop}
use Rattle.rtpwire.specs.FirstOf.{FirstOf}
use Rattle.rtpwire.specs.InFront.{found_in_front, none_in_front}
use Rattle.fbwire.specs.declared.fault.FeedbackFault.{FeedbackFault}
use Rattle.fbwire.specs.declared.fault.FeedbackFault.TheVariants.{Short, Version, Padded, NotRtpfb, NotNack, Length, Empty}
use Rattle.fbwire.specs.Fault.{feedback_number}
use Rattle.fbwire.specs.Header.{version_of, is_padded, message_type, packet_type, packet_length, is_nack}
use Rattle.fbwire.specs.Nack.{Nack}
use Rattle.fbwire.specs.NackChecks.{nack_fault}
use Rattle.fbwire.specs.Compound.{CompoundSpells}
use Rattle.fbwire.specs.CompoundChecks.{packet_fault, is_feedback, IsRefused}
use Rattle.fbwire.specs.Order.{nack_order, BeginsWithNack, packet_order, walk_order, compound_order}
use Rattle.fbwire.proofs.Octets.{AreOctets, AreOctets-rest}
use Rattle.fbwire.proofs.Walks.{one_fault, not_both, Walked, walked_none, walked_one, walk_found, walk_lacks, walk_fails, empty_fails, nacks_in_order}
use Rattle.fbwire.proofs.InOrder.{ordered}
use Rattle.fbwire.specs.CompoundReading.{nacks_in}
use Rattle.fbwire.specs.NackReading.{nack_in}

-- one check more in front, where the fault has its number and its test tells its condition
check : (b : Bool) (C : Type 0) (later : List (ℕ × Type 0)) (fault : FeedbackFault) (rest : Option FeedbackFault) → (b ≡ true → C) → (b ≡ false → C → ⊥) →
    (b ≡ false → FirstOf later (option_map feedback_number rest)) → FirstOf ((feedback_number fault, C) ∷ later) (option_map feedback_number (cond b (Some fault) rest))
check true C later fault rest holds fails more = inl (holds refl, refl)
check false C later fault rest holds fails more = inr (fails refl, more refl)

is_other : (a b : ℕ) → not (a == b) ≡ true → a ≢ b
is_other a b e same = let is : not true ≡ true = rw (eq-eqb a b same) at e in absurd cc

is_same : (a b : ℕ) → not (a == b) ≡ false → a ≢ b → ⊥
is_same a b e other = elim (cases_Bool (a == b)) [ inl same ↦ other (eqb-true a b same) | inr differs ↦ let is : not false ≡ false = rw differs at e in absurd cc ]

both : (a b : Bool) → (a && b) ≡ true → (a ≡ true) × (b ≡ true)
both true b e = (refl, e)
both false b e = absurd cc

not_both_true : (a b : Bool) → (a && b) ≡ false → a ≡ true → b ≡ true → ⊥
not_both_true true true e x y = absurd cc
not_both_true true false e x y = absurd cc
not_both_true false b e x y = absurd cc

module _ (octets : List ℕ) where
  nack_begins : is_nack octets ≡ true → BeginsWithNack octets
  nack_begins e = let two = both (packet_type octets == 205) (message_type octets == 1) e in (eqb-true _ _ two.0, eqb-true _ _ two.1)

  begins_nack : BeginsWithNack octets → is_nack octets ≡ true
  begins_nack begins = rw (eq-eqb _ _ begins.0) (eq-eqb _ _ begins.1)

  -- a NACK alone
  pub nack_in_order : FirstOf (nack_order octets) (option_map feedback_number (nack_fault octets))
  unfolding nack_order
  nack_in_order =
      let left : ℕ → List (ℕ × Type 0) = λ n. drop n (nack_order octets) in
      let f6 : Option FeedbackFault = cond (length octets == 12) (Some Empty) None in
      let f5 : Option FeedbackFault = cond (not (length octets == packet_length octets)) (Some Length) f6 in
      let f4 : Option FeedbackFault = cond (not (message_type octets == 1)) (Some NotNack) f5 in
      let f3 : Option FeedbackFault = cond (not (packet_type octets == 205)) (Some NotRtpfb) f4 in
      let f2 : Option FeedbackFault = cond (is_padded octets) (Some Padded) f3 in
      let f1 : Option FeedbackFault = cond (not (version_of octets == 2)) (Some Version) f2 in
      check (nat_lt (length octets) 12) (length octets < 12) (left 1) Short f1 (ltb-true _ _) (λ e less. let more = ltb-false _ _ e in omega arith) (λ long.
      check (not (version_of octets == 2)) (version_of octets ≢ 2) (left 2) Version f2 (is_other _ _) (is_same _ _) (λ version.
      check (is_padded octets) (IsTrue (is_padded octets)) (left 3) Padded f3 (λ e. e) (λ e padded. let wrong : true ≡ false = sym padded ∙ e in absurd cc) (λ plain.
      check (not (packet_type octets == 205)) (packet_type octets ≢ 205) (left 4) NotRtpfb f4 (is_other _ _) (is_same _ _) (λ feedback.
      check (not (message_type octets == 1)) (message_type octets ≢ 1) (left 5) NotNack f5 (is_other _ _) (is_same _ _) (λ nack.
      check (not (length octets == packet_length octets)) (length octets ≢ packet_length octets) (left 6) Length f6 (is_other _ _) (is_same _ _) (λ whole.
      check (length octets == 12) (packet_length octets ≡ 12) [] Empty None
      (λ e. elim (cases_Bool (length octets == packet_length octets)) [
        | inl same ↦ sym (eqb-true _ _ same) ∙ eqb-true _ _ e
        | inr differs ↦ absurd (is_same _ _ whole (eqb-false _ _ differs))
      ])
      (λ e twelve. elim (cases_Bool (length octets == packet_length octets)) [
        | inl same ↦ eqb-false _ _ e (eqb-true _ _ same ∙ twelve)
        | inr differs ↦ is_same _ _ whole (eqb-false _ _ differs)
      ])
      (λ some. refl)))))))

  -- the packet at the front
  pub packet_in_order : FirstOf (packet_order octets) (option_map feedback_number (packet_fault octets))
  packet_in_order =
      let left : ℕ → List (ℕ × Type 0) = λ n. drop n (packet_order octets) in
      let f5 : Option FeedbackFault = cond (is_nack octets && (packet_length octets == 12)) (Some Empty) None in
      let f4 : Option FeedbackFault = cond (is_nack octets && nat_lt (packet_length octets) 12) (Some Short) f5 in
      let f3 : Option FeedbackFault = cond (nat_lt (length octets) (packet_length octets)) (Some Length) f4 in
      let f2 : Option FeedbackFault = cond (is_nack octets && is_padded octets) (Some Padded) f3 in
      let f1 : Option FeedbackFault = cond (not (version_of octets == 2)) (Some Version) f2 in
      check (nat_lt (length octets) 4) (length octets < 4) (left 1) Short f1 (ltb-true _ _) (λ e less. let more = ltb-false _ _ e in omega arith) (λ long.
      check (not (version_of octets == 2)) (version_of octets ≢ 2) (left 2) Version f2 (is_other _ _) (is_same _ _) (λ version.
      check (is_nack octets && is_padded octets) (BeginsWithNack octets × IsTrue (is_padded octets)) (left 3) Padded f3
      (λ e. let two = both _ _ e in (nack_begins two.0, two.1)) (λ e wrong. not_both_true _ _ e (begins_nack wrong.0) wrong.1) (λ plain.
      check (nat_lt (length octets) (packet_length octets)) (length octets < packet_length octets) (left 4) Length f4 (ltb-true _ _) (λ e less. let more = ltb-false _ _ e in omega arith) (λ fits.
      check (is_nack octets && nat_lt (packet_length octets) 12) (BeginsWithNack octets × (packet_length octets < 12)) (left 5) Short f5
      (λ e. let two = both _ _ e in (nack_begins two.0, ltb-true _ _ two.1)) (λ e wrong. not_both_true _ _ e (begins_nack wrong.0) (lt-ltb _ _ wrong.1)) (λ headed.
      check (is_nack octets && (packet_length octets == 12)) (BeginsWithNack octets × (packet_length octets ≡ 12)) [] Empty None
      (λ e. let two = both _ _ e in (nack_begins two.0, eqb-true _ _ two.1)) (λ e wrong. not_both_true _ _ e (begins_nack wrong.0) (eq-eqb _ _ wrong.1)) (λ some. refl))))))

-- what a reader of a datagram answers
abbrev Answers : List ℕ → Result (List Nack) FeedbackFault → Type 0
Answers octets answer = MatchResult answer (λ nacks. CompoundSpells nacks octets) (IsRefused octets)

abbrev refusal : Result (List Nack) FeedbackFault → Option ℕ
refusal answer = option_map feedback_number (result_err answer)

refused_so : (octets : List ℕ) (answer : Result (List Nack) FeedbackFault) (fault : FeedbackFault) → Answers octets answer → IsRefused octets fault → refusal answer ≡ Some (feedback_number fault)
refused_so octets (Ok nacks) fault spells refused = absurd (not_both octets nacks fault spells refused)
refused_so octets (Err other) fault so refused = ap (λ f. Some (feedback_number f)) (one_fault octets other fault so refused)

spelled_so : (octets : List ℕ) (answer : Result (List Nack) FeedbackFault) (nacks : List Nack) → Answers octets answer → CompoundSpells nacks octets → refusal answer ≡ None
spelled_so octets (Ok others) nacks so spells = refl
spelled_so octets (Err fault) nacks refused spells = absurd (not_both octets nacks fault spells refused)

module _ (octets : List ℕ) (fits : AreOctets octets) (some : 0 < length octets) (answer : Result (List Nack) FeedbackFault) (so : Answers octets answer) where
  abbrev at_end : Bool → Bool → List (ℕ × Type 0)
  at_end had_feedback had_nack = (14, (had_nack ≡ false) × (had_feedback ≡ false)) ∷ (15, had_nack ≡ false) ∷ []

  end_in_order : (had_feedback had_nack : Bool) (rest : List ℕ) → rest ≡ [] → Walked octets rest had_nack had_feedback → FirstOf (at_end had_feedback had_nack) (refusal answer)
  end_in_order had_feedback true rest none walked =
      inr ((λ wrong. let e : true ≡ false = wrong.0 in absurd cc), inr ((λ wrong. absurd cc), spelled_so octets answer _ so (walk_found octets rest true had_feedback walked none refl)))
  end_in_order true false rest none walked =
      inr ((λ wrong. let e : true ≡ false = wrong.1 in absurd cc), inl (refl, refused_so octets answer NotNack so (walk_lacks octets rest false true walked none some refl)))
  end_in_order false false rest none walked = inl ((refl, refl), refused_so octets answer NotRtpfb so (walk_lacks octets rest false false walked none some refl))

  -- the checks of the packets behind the one at the front
  abbrev after : (n : ℕ) → (had_feedback had_nack : Bool) → List ℕ → List (ℕ × Type 0)
  after n had_feedback had_nack rest =
      walk_order n (had_feedback || is_feedback (take (packet_length rest) rest)) (had_nack || is_nack (take (packet_length rest) rest)) (drop (packet_length rest) rest)

  front_in_order : (n : ℕ) (had_feedback had_nack : Bool) (rest : List ℕ) → 0 < length rest → Walked octets rest had_nack had_feedback →
      (packet_fault rest ≡ None → FirstOf (after n had_feedback had_nack rest) (refusal answer)) →
      (fault : Option FeedbackFault) → packet_fault rest ≡ fault → FirstOf (packet_order rest) (option_map feedback_number fault) → FirstOf (packet_order rest ++ after n had_feedback had_nack rest) (refusal answer)
  front_in_order n had_feedback had_nack rest left walked later (Some fault) is first =
      subst (λ a. FirstOf (packet_order rest ++ after n had_feedback had_nack rest) a) (sym (refused_so octets answer fault so (walk_fails octets rest had_nack had_feedback fault walked left is)))
      (found_in_front (packet_order rest) (after n had_feedback had_nack rest) (feedback_number fault) first)
  front_in_order n had_feedback had_nack rest left walked later None is first =
      none_in_front (packet_order rest) (after n had_feedback had_nack rest) (refusal answer) first (later is)

  packets_in_order : (n : ℕ) (had_feedback had_nack : Bool) (rest : List ℕ) → length rest < n → Walked octets rest had_nack had_feedback → FirstOf (walk_order n had_feedback had_nack rest) (refusal answer)
  packets_in_order zero had_feedback had_nack rest few walked = absurd (omega arith)
  packets_in_order (suc n) had_feedback had_nack [] few walked = end_in_order had_feedback had_nack [] refl walked
  packets_in_order (suc n) had_feedback had_nack (o ∷ others) few walked =
      let rest = o ∷ others in
      let packet = take (packet_length rest) rest in
      front_in_order n had_feedback had_nack rest (omega arith) walked
      (λ passes. packets_in_order n (had_feedback || is_feedback packet) (had_nack || is_nack packet) (drop (packet_length rest) rest)
      (omega (arith, length-drop (packet_length rest) rest, few))
      (walked_one octets rest had_nack had_feedback (AreOctets-rest (concat walked.packets) rest (subst AreOctets walked.joined fits)) walked passes))
      (packet_fault rest) refl (packet_in_order rest)

pub datagram_in_order : (octets : List ℕ) → AreOctets octets → (answer : Result (List Nack) FeedbackFault) → Answers octets answer → FirstOf (compound_order octets) (refusal answer)
unfolding compound_order
datagram_in_order [] fits answer so = inl (refl, refused_so [] answer Short so (empty_fails [] refl))
datagram_in_order (o ∷ octets) fits answer so =
    inr ((λ none. let long = ap length none in omega (arith, long)), packets_in_order (o ∷ octets) fits (omega arith) answer so (suc (length (o ∷ octets))) false false (o ∷ octets) (omega arith) (walked_none (o ∷ octets)))

-- a reader sees the NACKs that are spelled
pub seen : (octets : List ℕ) (nacks : List Nack) → CompoundSpells nacks octets → nacks_in octets ≡ nacks
seen octets nacks spells = nacks_in_order octets nacks spells.packets spells.joined (ordered nacks spells.packets spells.in_order)

-- what a reader of a NACK answers
pub read_in_order : (octets : List ℕ) (answer : Result Nack FeedbackFault) → MatchResult answer (λ nack. (nack_fault octets ≡ None) × (nack ≡ nack_in octets)) (λ fault. nack_fault octets ≡ Some fault) →
    FirstOf (nack_order octets) (option_map feedback_number (result_err answer))
read_in_order octets (Ok nack) so = subst (λ fault. FirstOf (nack_order octets) (option_map feedback_number fault)) so.0 (nack_in_order octets)
read_in_order octets (Err fault) so = subst (λ fault. FirstOf (nack_order octets) (option_map feedback_number fault)) so (nack_in_order octets)
