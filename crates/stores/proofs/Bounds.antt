-- From when on slots of blocks may be due, and that it stays so when slots come, go and change.
use Rattle.std.proofs.Common.{◌≡◌, ◌≢◌, ℕ, ◌+◌, ◌-◌, ◌*◌, ◌^◌, ◌<◌, ◌≤◌, ◌==◌, ◌++◌, ◌||◌, Bool, true, false, List, [], ◌∷◌, length, drop, replicate, slice_get, slice_set, Option, Some, ap, sym, subst, ◌∙◌, arith, ⊎_elim, length-set, length-append}
use Rattle.std.specs.Prelude.{if◌then◌else◌}
use Rattle.std.proofs.lemmas.Bool.{cases_eq, cases_lt}
use Rattle.std.proofs.lemmas.Bool.Decides.{nat_tests}
use Rattle.std.specs.Int.{bit_at}
use Rattle.std.proofs.lemmas.Nat.Bits.{bit_at-zero}
use Rattle.std.proofs.lemmas.List.{length-drop, length-replicate}
use Rattle.std.proofs.lemmas.Option.{same_Some, slice_get_past}
use Rattle.rtpwire.specs.declared.content.Content.{Content}
use Rattle.stores.specs.declared.ask_rule.AskRule.{AskRule}
use Rattle.stores.specs.declared.due.bound.Bound.{Bound}
use Rattle.stores.specs.declared.slot.Slot.{Slot}
use Rattle.stores.specs.declared.slot.Slot.TheVariants.{Held}
use Rattle.stores.specs.Asking.{is_time, has_come, is_missing}
use Rattle.stores.specs.Bits.{turned}
use Rattle.stores.proofs.DueSlots.{not_due}
use Rattle.stores.proofs.Lookup.{slice_get-append_left, slice_get-append_right, slice_get-drop, slice_get-replicate, slice_get-set_same, slice_get-set_other}
use Rattle.stores.specs.Put.{noticed_at}
use Rattle.stores.specs.Bound.{IsDueFrom, IsBoundAt, AreBounds, leaves_out}
use Rattle.stores.specs.Block.{bit_in_word, word_of}

-- a slot that isn't missing is due from any moment on
pub due_from_of_held : (rule : AskRule) (moment : Option ℕ) (slot : Option Slot) → is_missing slot ≡ false → IsDueFrom rule moment slot
due_from_of_held rule moment slot held now fits due = absurd (let never = not_due now rule.delay rule.retry rule.asks slot held in cc (never, due))

-- one that is due from a moment on is so from one that comes no later
pub due_from_sooner : (rule : AskRule) (late soon : Option ℕ) (slot : Option Slot) → ((now : ℕ) → has_come late now ≡ true → has_come soon now ≡ true) → IsDueFrom rule late slot → IsDueFrom rule soon slot
due_from_sooner rule late soon slot sooner is now fits due = sooner now (is now fits due)

-- slots up to an end are due from a moment on that comes no later than that of the first ones and that of the last ones, between which
-- none is missing
pub passed_on : (rule : AskRule) (best soonest moment : Option ℕ) (slots : List Slot) (index next end : ℕ) →
    ((now : ℕ) → has_come best now ≡ true → has_come moment now ≡ true) → ((now : ℕ) → has_come soonest now ≡ true → has_come moment now ≡ true) →
    ((p : ℕ) → p < index → IsDueFrom rule best (slice_get slots p)) → ((p : ℕ) → index ≤ p → p < next → is_missing (slice_get slots p) ≡ false) →
    ((p : ℕ) → next ≤ p → p < end → IsDueFrom rule soonest (slice_get slots p)) → (p : ℕ) → p < end → IsDueFrom rule moment (slice_get slots p)
passed_on rule best soonest moment slots index next end before after first none last p below =
    ⊎_elim
    (λ (early : p < index). due_from_sooner rule best moment (slice_get slots p) before (first p early))
    (λ on. ⊎_elim
    (λ (held : p < next). due_from_of_held rule moment (slice_get slots p) (none p (omega (arith, on)) held))
    (λ late. due_from_sooner rule soonest moment (slice_get slots p) after (last p (omega (arith, late)) below))
    (cases_lt p next))
    (cases_lt p index)

-- the sooner of two moments has come where one of them has
pub sooner_first : (a b c : Bool) → c ≡ (a || b) → a ≡ true → c ≡ true
sooner_first a b c e is = grind (arith, nat_tests)

pub sooner_other : (a b c : Bool) → c ≡ (a || b) → b ≡ true → c ≡ true
sooner_other a b c e is = grind (arith, nat_tests)

-- where none is left out
pub bound_of_all : (rule : AskRule) (bound : Bound) (bit : ℕ) (slot : Option Slot) → bound.without ≡ 0 → IsBoundAt rule bound bit slot → IsDueFrom rule bound.from slot
bound_of_all rule bound bit slot none is = is (ap (λ w. bit_at w bit == 1) none ∙ ap (λ b. b == 1) (bit_at-zero bit))

-- one slot came to be held
pub bound_hold : (rule : AskRule) (bounds : List Bound) (front : ℕ) (slots : List Slot) (i : ℕ) (content : Content) → i < length slots → AreBounds rule bounds front slots → AreBounds rule bounds front (slice_set slots i (Held content))
bound_hold rule bounds front slots i content within is p bound below at =
    let long = length-set slots i (Held content) in
    ⊎_elim
    (λ (here : p ≡ i). let got = ap (slice_get (slice_set slots i (Held content))) here ∙ slice_get-set_same slots i (Held content) within in λ _. due_from_of_held rule bound.from (slice_get (slice_set slots i (Held content)) p) (ap is_missing got))
    (λ apart. subst (IsBoundAt rule bound (bit_in_word (length bounds) front p)) (sym (slice_get-set_other slots i p (Held content) apart)) (is p bound (omega arith) at))
    (cases_eq p i)

-- a held slot came
pub bound_push : (rule : AskRule) (bounds : List Bound) (front : ℕ) (slots : List Slot) (content : Content) → AreBounds rule bounds front slots → AreBounds rule bounds front (slots ++ Held content ∷ [])
bound_push rule bounds front slots content is p bound below at =
    ⊎_elim
    (λ (within : p < length slots). subst (IsBoundAt rule bound (bit_in_word (length bounds) front p)) (sym (slice_get-append_left slots (Held content ∷ []) p within)) (is p bound within at))
    (λ above. λ _. due_from_of_held rule bound.from (slice_get (slots ++ Held content ∷ []) p)
    (⊎_elim
    (λ (last : p ≡ length slots). ap is_missing (slice_get-append_right slots (Held content ∷ []) p 0 (omega arith)))
    (λ apart. ap is_missing (slice_get_past (slots ++ Held content ∷ []) p (let long = length-append slots (Held content ∷ []) in omega (arith, above, apart))))
    (cases_eq p (length slots))))
    (cases_lt p (length slots))

-- a position's word once the first positions went
turned_on : (words front after count p : ℕ) → front < 64 * words → after ≡ turned (64 * words) front count → p + count < 64 * words → word_of words after p ≡ word_of words front (p + count)
turned_on words front after count p in_words e fits = grind (arith, nat_tests)

-- and its bit
bit_on : (words front after count p : ℕ) → front < 64 * words → after ≡ turned (64 * words) front count → p + count < 64 * words → bit_in_word words after p ≡ bit_in_word words front (p + count)
bit_on words front after count p in_words e fits = grind (arith, nat_tests)

-- the first slots went
pub bound_drop : (rule : AskRule) (bounds : List Bound) (front after count : ℕ) (slots : List Slot) → front < 64 * length bounds → after ≡ turned (64 * length bounds) front count → length slots < 64 * length bounds →
    count ≤ length slots → AreBounds rule bounds front slots → AreBounds rule bounds after (drop count slots)
bound_drop rule bounds front after count slots in_words e few fits is p bound below at =
    let long = length-drop count slots in
    let got = slice_get-drop count slots p (p + count) (omega arith) in
    let word = turned_on (length bounds) front after count p in_words e (omega arith) in
    let bit = bit_on (length bounds) front after count p in_words e (omega arith) in
    subst (λ b. IsBoundAt rule bound b (slice_get (drop count slots) p)) (sym bit)
    (subst (IsBoundAt rule bound (bit_in_word (length bounds) front (p + count))) (sym got) (is (p + count) bound (omega arith) (ap (slice_get bounds) (sym word) ∙ at)))

-- missing slots came, each due from the moment of its word on
pub bound_adds : (rule : AskRule) (bounds : List Bound) (front count now : ℕ) (moment : Option ℕ) (slots : List Slot) → IsDueFrom rule moment (Some (noticed_at now)) → AreBounds rule bounds front slots →
    ((p : ℕ) → (bound : Bound) → length slots ≤ p → p < length slots + count → slice_get bounds (word_of (length bounds) front p) ≡ Some bound → (at : ℕ) → has_come moment at ≡ true → has_come bound.from at ≡ true) →
    AreBounds rule bounds front (slots ++ replicate count (noticed_at now))
bound_adds rule bounds front count now moment slots due is more p bound below at =
    let long = length-append slots (replicate count (noticed_at now)) in
    let many = length-replicate count (noticed_at now) in
    ⊎_elim
    (λ (within : p < length slots). subst (IsBoundAt rule bound (bit_in_word (length bounds) front p)) (sym (slice_get-append_left slots (replicate count (noticed_at now)) p within)) (is p bound within at))
    (λ above. λ _.
    let got = slice_get-append_right slots (replicate count (noticed_at now)) p (p - length slots) (omega (arith, above)) ∙ slice_get-replicate count (noticed_at now) (p - length slots) (omega (arith, above)) in
    subst (IsDueFrom rule bound.from) (sym got) (due_from_sooner rule moment bound.from (Some (noticed_at now)) (more p bound (omega (arith, above)) (omega arith) at) due))
    (cases_lt p (length slots))

-- a place that was just noticed is due once it is time for a first ask
pub noticed_due_from : (rule : AskRule) (now : ℕ) (moment : Option ℕ) → ((at : ℕ) → at < 2 ^ 64 → is_time at rule.delay rule.retry now 0 0 ≡ has_come moment at) → IsDueFrom rule moment (Some (noticed_at now))
noticed_due_from rule now moment time at fits due = sym (time at fits) ∙ grind (arith, nat_tests, due)

-- a word's least moments became other ones, which are least for each of its slots
pub bound_set : (rule : AskRule) (bounds : List Bound) (front word : ℕ) (bound : Bound) (slots : List Slot) → word < length bounds →
    ((p : ℕ) → p < length slots → word_of (length bounds) front p ≡ word → IsBoundAt rule bound (bit_in_word (length bounds) front p) (slice_get slots p)) →
    ((p : ℕ) → (other : Bound) → p < length slots → word_of (length bounds) front p ≢ word → slice_get bounds (word_of (length bounds) front p) ≡ Some other →
    IsBoundAt rule other (bit_in_word (length bounds) front p) (slice_get slots p)) →
    AreBounds rule (slice_set bounds word bound) front slots
bound_set rule bounds front word bound slots within here others p other below at =
    let long = length-set bounds word bound in
    let got = ap (λ n. slice_get (slice_set bounds word bound) (word_of n front p)) (sym long) ∙ at in
    subst (λ n. IsBoundAt rule other (bit_in_word n front p) (slice_get slots p)) (sym long)
    (⊎_elim
    (λ (same : word_of (length bounds) front p ≡ word).
    let is = same_Some bound other (sym (ap (slice_get (slice_set bounds word bound)) same ∙ slice_get-set_same bounds word bound within) ∙ got) in
    subst (λ l. IsBoundAt rule l (bit_in_word (length bounds) front p) (slice_get slots p)) is (here p below same))
    (λ apart. others p other below apart (sym (slice_get-set_other bounds word (word_of (length bounds) front p) bound apart) ∙ got))
    (cases_eq (word_of (length bounds) front p) word))

-- the least moments of a word, found by a walk over its slots
pub bound_after_walk : (rule : AskRule) (bounds : List Bound) (n front index word : ℕ) (slots : List Slot) (bound : Bound) → length bounds ≡ n → word ≡ word_of n front index → word < n →
    ((p : ℕ) → p < length slots → word_of n front p ≡ word_of n front index → IsBoundAt rule bound (bit_in_word n front p) (slice_get slots p)) → AreBounds rule bounds front slots → AreBounds rule (slice_set bounds word bound) front slots
bound_after_walk rule bounds n front index word slots bound long at within walked is =
    bound_set rule bounds front word bound slots (omega arith)
    (λ p below same.
    let there : word_of n front p ≡ word_of n front index = ap (λ m. word_of m front p) (sym long) ∙ same ∙ at in
    subst (λ m. IsBoundAt rule bound (bit_in_word m front p) (slice_get slots p)) (sym long) (walked p below there))
    (λ p other below apart got. is p other below got)

-- those of slots that were seen, and of others that are not missing
pub bound_seen_on : (rule : AskRule) (bound : Bound) (bit : ℕ) (slots : List Slot) (start index end : ℕ) →
    ((p : ℕ) → start ≤ p → p < index → IsBoundAt rule bound (bit + (p - start)) (slice_get slots p)) →
    ((p : ℕ) → index ≤ p → p < end → is_missing (slice_get slots p) ≡ false) →
    (p : ℕ) → start ≤ p → p < end → IsBoundAt rule bound (bit + (p - start)) (slice_get slots p)
bound_seen_on rule bound bit slots start index end seen rest p above below =
    ⊎_elim
    (λ (early : p < index). seen p above early)
    (λ late. λ _. due_from_of_held rule bound.from (slice_get slots p) (rest p (omega (arith, late)) below))
    (cases_lt p index)

yes_at : (b k : ℕ) (other : Bool) → b ≡ k → (if b == k then true else other) ≡ true
yes_at b k other e = grind (arith, nat_tests)

other_at : (b k : ℕ) (other : Bool) → b ≢ k → (if b == k then true else other) ≡ other
other_at b k other e = grind (arith, nat_tests)

-- those of the slots that were seen, and of one more that is left out
pub bound_left_out : (rule : AskRule) (bound new : Bound) (bit start next k : ℕ) (slots : List Slot) → k ≡ bit + (next - start) → bit + (next - start) < 64 →
    ((b : ℕ) → b < 64 → leaves_out new b ≡ (if b == k then true else leaves_out bound b)) → new.from ≡ bound.from →
    ((p : ℕ) → start ≤ p → p < next → IsBoundAt rule bound (bit + (p - start)) (slice_get slots p)) →
    (p : ℕ) → start ≤ p → p < next + 1 → IsBoundAt rule new (bit + (p - start)) (slice_get slots p)
bound_left_out rule bound new bit start next k slots at small without kept seen p above below out =
    let here = without (bit + (p - start)) (omega arith) in
    ⊎_elim
    (λ (same : p ≡ next). absurd (let yes = yes_at (bit + (p - start)) k (leaves_out bound (bit + (p - start))) (omega (arith, same)) in cc))
    (λ apart. subst (λ (m : Option ℕ). IsDueFrom rule m (slice_get slots p)) (sym kept)
    (seen p above (omega (arith, apart)) (sym (other_at (bit + (p - start)) k (leaves_out bound (bit + (p - start))) (omega (arith, apart))) ∙ sym here ∙ out)))
    (cases_eq p next)

-- and of one more that was met
pub bound_met : (rule : AskRule) (bound new : Bound) (bit start next : ℕ) (moment : Option ℕ) (slots : List Slot) → new.without ≡ bound.without →
    ((now : ℕ) → has_come new.from now ≡ (has_come bound.from now || has_come moment now)) → IsDueFrom rule moment (slice_get slots next) →
    ((p : ℕ) → start ≤ p → p < next → IsBoundAt rule bound (bit + (p - start)) (slice_get slots p)) →
    (p : ℕ) → start ≤ p → p < next + 1 → IsBoundAt rule new (bit + (p - start)) (slice_get slots p)
bound_met rule bound new bit start next moment slots without from due seen p above below out =
    ⊎_elim
    (λ (same : p ≡ next). subst (λ q. IsDueFrom rule new.from (slice_get slots q)) (sym same)
    (due_from_sooner rule moment new.from (slice_get slots next) (λ now come. sooner_other (has_come bound.from now) (has_come moment now) (has_come new.from now) (from now) come) due))
    (λ apart. due_from_sooner rule bound.from new.from (slice_get slots p) (λ now come. sooner_first (has_come bound.from now) (has_come moment now) (has_come new.from now) (from now) come)
    (seen p above (omega (arith, apart)) (ap (λ n. bit_at n (bit + (p - start)) == 1) (sym without) ∙ out)))
    (cases_eq p next)

-- the moment of a word in which a place was noticed to be missing
pub bound_after_notice : (rule : AskRule) (bounds : List Bound) (n front word : ℕ) (slots : List Slot) (old new : Bound) → length bounds ≡ n → word < n → slice_get bounds word ≡ Some old →
    ((p bit : ℕ) → p < length slots → word_of n front p ≡ word → IsBoundAt rule old bit (slice_get slots p) → IsBoundAt rule new bit (slice_get slots p)) →
    AreBounds rule bounds front slots → AreBounds rule (slice_set bounds word new) front slots
bound_after_notice rule bounds n front word slots old new long within was kept is =
    bound_set rule bounds front word new slots (omega arith)
    (λ p below same. kept p (bit_in_word (length bounds) front p) below (ap (λ m. word_of m front p) (sym long) ∙ same) (is p old below (ap (slice_get bounds) same ∙ was)))
    (λ p other below apart got. is p other below got)

-- those of the places that were noticed so far, and of the ones up to the end of the word's run
pub bound_noticed : (bounds : List Bound) (n front word from position next : ℕ) (moment : Option ℕ) (new : Bound) → length bounds ≡ n → word < n → word ≡ word_of n front position →
    ((p : ℕ) → position ≤ p → p < next → word_of n front p ≡ word_of n front position) → ((at : ℕ) → has_come moment at ≡ true → has_come new.from at ≡ true) →
    ((p : ℕ) → (bound : Bound) → from ≤ p → p < position → slice_get bounds (word_of (length bounds) front p) ≡ Some bound → (at : ℕ) → has_come moment at ≡ true → has_come bound.from at ≡ true) →
    (p : ℕ) → (bound : Bound) → from ≤ p → p < next → slice_get (slice_set bounds word new) (word_of (length (slice_set bounds word new)) front p) ≡ Some bound → (at : ℕ) → has_come moment at ≡ true → has_come bound.from at ≡ true
bound_noticed bounds n front word from position next moment new long within at run come so_far p bound above below got =
    let same_long = length-set bounds word new in
    let here = ap (λ m. slice_get (slice_set bounds word new) (word_of m front p)) (sym long ∙ sym same_long) ∙ got in
    ⊎_elim
    (λ (same : word_of n front p ≡ word).
    let is = same_Some new bound (sym (ap (slice_get (slice_set bounds word new)) same ∙ slice_get-set_same bounds word new (omega arith)) ∙ here) in
    subst (λ (l : Bound). (at : ℕ) → has_come moment at ≡ true → has_come l.from at ≡ true) is come)
    (λ apart. ⊎_elim
    (λ (early : p < position). so_far p bound above early (ap (λ m. slice_get bounds (word_of m front p)) long ∙ sym (slice_get-set_other bounds word (word_of n front p) new apart) ∙ here))
    (λ late. absurd (apart (run p (omega (arith, late)) below ∙ sym at)))
    (cases_lt p position))
    (cases_eq (word_of n front p) word)
