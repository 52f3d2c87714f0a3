-- What asks for some places of a block leave of the moment from which on its slots may be due.
use Rattle.std.proofs.Common.{◌≡◌, ◌≢◌, ℕ, ◌+◌, ◌*◌, ◌^◌, ◌<◌, ◌≤◌, ◌==◌, ◌||◌, Bool, true, false, List, length, slice_get, slice_set, Option, Some, None, IsSomeAnd, ap, sym, subst, ◌∙◌, refl, arith, ⊎_elim}
use Rattle.std.specs.Prelude.{if◌then◌else◌}
use Rattle.std.specs.Int.{bit_at}
use Rattle.std.proofs.lemmas.Bool.{cases_eq, cases_Bool}
use Rattle.std.proofs.lemmas.Bool.Decides.{nat_tests}
use Rattle.std.proofs.lemmas.Nat.Bits.{bit_at-zero}
use Rattle.std.proofs.lemmas.Option.{slice_get_within}
use Rattle.stores.specs.declared.ask_rule.AskRule.{AskRule}
use Rattle.stores.specs.declared.due.bound.Bound.{Bound}
use Rattle.stores.specs.declared.slot.Slot.{Slot}
use Rattle.stores.specs.declared.slot.Slot.TheVariants.{Held, Missing}
use Rattle.stores.specs.Asking.{is_time, has_come, CanBeAsked, asked_slot, asked_at}
use Rattle.stores.specs.Bits.{turned}
use Rattle.stores.proofs.SlotPlaces.{asked_long}
use Rattle.stores.proofs.Lookup.{slice_get-set_same, slice_get-set_other}
use Rattle.stores.specs.Bound.{IsDueFrom, IsBoundAt, AreBounds, AreBoundsBut, AreDueFrom, is_asked, leaves_out}
use Rattle.stores.specs.Block.{bit_in_word, word_of}
use Rattle.stores.proofs.Bounds.{due_from_sooner, bound_set, sooner_first, sooner_other}

-- no bit is one of none
pub none_asked : (word words front p : ℕ) → is_asked word 0 words front p ≡ false
none_asked word words front p = let none = bit_at-zero (bit_in_word words front p) in grind (arith, nat_tests, none)

-- each slot is one of those but none
pub bound_but_none : (rule : AskRule) (word : ℕ) (bounds : List Bound) (front : ℕ) (slots : List Slot) → AreBounds rule bounds front slots → AreBoundsBut word 0 rule bounds front slots
bound_but_none rule word bounds front slots is p bound below at _ = is p bound below at

pub due_from_none : (rule : AskRule) (word : ℕ) (moment : Option ℕ) (words front : ℕ) (slots : List Slot) → AreDueFrom word 0 rule moment words front slots
due_from_none rule word moment words front slots p below asked = absurd (let none = none_asked word words front p in cc (none, asked))

other_word : (word bits words front p : ℕ) → word_of words front p ≢ word → is_asked word bits words front p ≡ false
other_word word bits words front p apart = grind (arith, nat_tests, apart)

other_bit : (word bits words front p : ℕ) → word_of words front p ≡ word → is_asked word bits words front p ≡ false → (bit_at bits (bit_in_word words front p) == 1) ≡ false
other_bit word bits words front p same asked = grind (arith, nat_tests, same, asked)

left_so : (b : Bool) (c d e : Bool) → e ≡ (if b then c else d) → b ≡ false → e ≡ false → d ≡ false
left_so true c d e is off out = absurd cc
left_so false c d e is off out = sym is ∙ out

-- the moment of a block once those of its places with these bits were asked for
pub bound_after_asks : (rule : AskRule) (bounds : List Bound) (front word bits : ℕ) (moment : Option ℕ) (slots : List Slot) (old new : Bound) → word < length bounds → slice_get bounds word ≡ Some old →
    ((now : ℕ) → has_come new.from now ≡ (has_come old.from now || has_come moment now)) →
    ((b : ℕ) → b < 64 → leaves_out new b ≡ (if bit_at bits b == 1 then false else leaves_out old b)) →
    AreBoundsBut word bits rule bounds front slots → AreDueFrom word bits rule moment (length bounds) front slots → AreBounds rule (slice_set bounds word new) front slots
bound_after_asks rule bounds front word bits moment slots old new within was from without but due =
    bound_set rule bounds front word new slots within
    (λ p below same. λ out.
    let words = length bounds in
    let bit = bit_in_word words front p in
    ⊎_elim
    (λ (asked : is_asked word bits words front p ≡ true).
    due_from_sooner rule moment new.from (slice_get slots p) (λ now come. sooner_other (has_come old.from now) (has_come moment now) (has_come new.from now) (from now) come) (due p below asked))
    (λ (not : is_asked word bits words front p ≡ false).
    let left = left_so (bit_at bits bit == 1) false (leaves_out old bit) (leaves_out new bit) (without bit (omega arith)) (other_bit word bits words front p same not) out in
    due_from_sooner rule old.from new.from (slice_get slots p) (λ now come. sooner_first (has_come old.from now) (has_come moment now) (has_come new.from now) (from now) come)
    (but p old below (ap (slice_get bounds) same ∙ was) not left))
    (cases_Bool (is_asked word bits words front p)))
    (λ p other below apart got. but p other below got (other_word word bits (length bounds) front p apart))

-- no block has the number of no word
pub bound_of_no_word : (rule : AskRule) (bounds : List Bound) (front word bits : ℕ) (slots : List Slot) → length bounds ≤ word → AreBoundsBut word bits rule bounds front slots → AreBounds rule bounds front slots
bound_of_no_word rule bounds front word bits slots past but p bound below at =
    let within = slice_get_within bounds (word_of (length bounds) front p) bound at in
    but p bound below at (other_word word bits (length bounds) front p (λ e. absurd (omega (arith, e))))

-- positions with the same bit of the same word are one
one_position : (words front p q : ℕ) → front < 64 * words → p < 64 * words → q < 64 * words → word_of words front p ≡ word_of words front q → bit_in_word words front p ≡ bit_in_word words front q → p ≡ q
one_position words front p q in_words below_p below_q same_word same_bit =
    let same : turned (64 * words) front p ≡ turned (64 * words) front q = omega arith in
    grind (arith, nat_tests, same)

asked_here : (word more words front p : ℕ) → word_of words front p ≡ word → (bit_at more (bit_in_word words front p) == 1) ≡ true → is_asked word more words front p ≡ true
asked_here word more words front p same is = grind (arith, nat_tests, same, is)

either_bit : (b k : ℕ) (old new : Bool) → new ≡ (b == k || old) → b ≡ k → new ≡ true
either_bit b k old new e same = grind (arith, nat_tests, same)

fewer_bits : (word bits more words front p k : ℕ) → ((b : ℕ) → (bit_at more b == 1) ≡ (b == k || bit_at bits b == 1)) → is_asked word more words front p ≡ false → is_asked word bits words front p ≡ false
fewer_bits word bits more words front p k with not = let here = with (bit_in_word words front p) in grind (arith, nat_tests, here, not)

asked_before : (word bits more words front p k : ℕ) → ((b : ℕ) → (bit_at more b == 1) ≡ (b == k || bit_at bits b == 1)) → bit_in_word words front p ≢ k → is_asked word more words front p ≡ true → is_asked word bits words front p ≡ true
asked_before word bits more words front p k with apart asked = let here = with (bit_in_word words front p) in grind (arith, nat_tests, here, apart, asked)

of_word : (word bits words front p : ℕ) → is_asked word bits words front p ≡ true → word_of words front p ≡ word
of_word word bits words front p asked = grind (arith, nat_tests, asked)

asked_other : (slots : List Slot) (i p now : ℕ) (o : Option Slot) → p ≢ i → slice_get (asked_at slots i now o) p ≡ slice_get slots p
asked_other slots i p now None apart = refl
asked_other slots i p now (Some slot) apart = slice_get-set_other slots i p (asked_slot now slot) apart

-- one more of its places was asked for
pub bound_asked : (rule : AskRule) (bounds : List Bound) (front word bits more index now : ℕ) (slots : List Slot) → word ≡ word_of (length bounds) front index →
    ((b : ℕ) → (bit_at more b == 1) ≡ (b == bit_in_word (length bounds) front index || bit_at bits b == 1)) →
    AreBoundsBut word bits rule bounds front slots → AreBoundsBut word more rule bounds front (asked_at slots index now (slice_get slots index))
bound_asked rule bounds front word bits more index now slots at with but p bound below got not =
    let words = length bounds in
    let k = bit_in_word words front index in
    let long = asked_long slots index now (slice_get slots index) in
    ⊎_elim
    (λ (here : p ≡ index).
    let bit = either_bit (bit_in_word words front p) k (bit_at bits (bit_in_word words front p) == 1) (bit_at more (bit_in_word words front p) == 1) (with (bit_in_word words front p)) (ap (bit_in_word words front) here) in
    let asked = asked_here word more words front p (ap (word_of words front) here ∙ sym at) bit in
    absurd (cc (asked, not)))
    (λ apart. subst (IsBoundAt rule bound (bit_in_word words front p)) (sym (asked_other slots index p now (slice_get slots index) apart))
    (but p bound (omega arith) got (fewer_bits word bits more words front p k with not)))
    (cases_eq p index)

-- which is due again once it is time for another ask
asked_due_from : (rule : AskRule) (moment : Option ℕ) (slots : List Slot) (i now : ℕ) (o : Option Slot) → slice_get slots i ≡ o → IsSomeAnd o CanBeAsked →
    ((at : ℕ) → at < 2 ^ 64 → is_time at rule.delay rule.retry 0 1 now ≡ has_come moment at) → IsDueFrom rule moment (slice_get (asked_at slots i now o) i)
asked_due_from rule moment slots i now None e can time = absurd can
asked_due_from rule moment slots i now (Some (Held content)) e can time = absurd can
asked_due_from rule moment slots i now (Some (Missing noticed asks last)) e can time =
    let within = slice_get_within slots i (Missing noticed asks last) e in
    subst (IsDueFrom rule moment) (sym (slice_get-set_same slots i (Missing noticed (asks + 1) now) within))
    (λ at fits due. sym (time at fits) ∙ grind (arith, nat_tests, due))

pub due_asked : (rule : AskRule) (moment : Option ℕ) (words front word bits more index now : ℕ) (slots : List Slot) → front < 64 * words → length slots < 64 * words → index < length slots →
    word ≡ word_of words front index → ((b : ℕ) → (bit_at more b == 1) ≡ (b == bit_in_word words front index || bit_at bits b == 1)) →
    IsSomeAnd (slice_get slots index) CanBeAsked → ((at : ℕ) → at < 2 ^ 64 → is_time at rule.delay rule.retry 0 1 now ≡ has_come moment at) →
    AreDueFrom word bits rule moment words front slots → AreDueFrom word more rule moment words front (asked_at slots index now (slice_get slots index))
due_asked rule moment words front word bits more index now slots in_words few inside at with can time due p below asked =
    let k = bit_in_word words front index in
    let long = asked_long slots index now (slice_get slots index) in
    ⊎_elim
    (λ (here : p ≡ index). subst (λ q. IsDueFrom rule moment (slice_get (asked_at slots index now (slice_get slots index)) q)) (sym here) (asked_due_from rule moment slots index now (slice_get slots index) refl can time))
    (λ apart.
    let same = of_word word more words front p asked ∙ at in
    let far : bit_in_word words front p ≢ k = λ e. apart (one_position words front p index in_words (omega arith) (omega arith) same e) in
    subst (IsDueFrom rule moment) (sym (asked_other slots index p now (slice_get slots index) apart)) (due p (omega arith) (asked_before word bits more words front p k with far asked)))
    (cases_eq p index)
