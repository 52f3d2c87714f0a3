-- Asks that a window counts are asks of the receiver.
use Rattle.std.proofs.Common.{◌≡◌, ◌≢◌, ℕ, zero, suc, nat_lt, nat_le, min, ◌≤◌, ◌&&◌, ◌+◌, ◌-◌, ◌*◌, ◌<◌, ◌==◌, ◌||◌, Bool, true, false, cond, List, [], ◌∷◌, ◌++◌, length, take, drop, drop-cons, add-one, get_or, Option, Some, None, IsSomeAnd, IsSome, option_map, refl, sym, ap, subst, ◌∙◌, arith, inl, inr, eqb-true, eq-eqb, ne_eqb, true≢false}
use Rattle.std.specs.List.{All, filter}
use Rattle.std.proofs.lemmas.Grind.{common_steps}
use Rattle.std.proofs.lemmas.Bool.Decides.{nat_tests}
use Rattle.std.specs.Prelude.{if◌then◌else◌}
use Rattle.std.specs.List.Sorted.{IsStrictlyIncreasing}
use Rattle.std.proofs.lemmas.Bool.{cases_eq}
use Rattle.std.proofs.lemmas.Option.{same_Some}
use Rattle.std.proofs.lemmas.List.{take_all, drop_all, take-append-le, length-take}
use Rattle.std.proofs.lemmas.List.Folds.{list_any_more}
use Rattle.std.proofs.lemmas.List.Elements.{All-take}
use Rattle.arrayvec.specs.ArrayVec.{ArrayVec}
use Rattle.places.specs.Among.{is_among}
use Rattle.fbwire.specs.declared.nack.Pair.{Pair}
use Rattle.fbwire.specs.Nack.{NackSpells}
use Rattle.fbwire.specs.Packing.{IsPacking, IsNarrow}
use Rattle.stores.proofs.DueSlots.{take_lesser}
use Rattle.stores.specs.declared.slot.Slot.{Slot}
use Rattle.stores.specs.declared.slot.Slot.TheVariants.{Held, Missing}
use Rattle.stores.specs.Span.{Span, IsSpan}
use Rattle.stores.specs.ByPlace.{slot_at, IsInside}
use Rattle.stores.specs.PlaceLists.{Lists}
use Rattle.stores.specs.Asking.{CanBeAsked, CanEachBeAsked, asked, asked_each, asked_slot, places_of, due_places, missing_places, longest_ask, CountsAsk}
use Rattle.stores.specs.Asking.{is_due as is_due_slot, is_missing as is_missing_slot, is_long_since}
use Rattle.receiver.specs.Config.{Config}
use Rattle.receiver.specs.Window.{held_in, missed_in, window_at, window_of}
use Rattle.receiver.specs.Asks.{is_due, is_missed, asked_once, Asks, AsksMost, AnyNeedsRoom, looked_at, CountsMissing}
use Rattle.receiver.specs.Counted.{CanAllBeAsked, CountsAsks, looked_due, FindsPairs, AnswersPairs}
use Rattle.receiver.proofs.Rising.{members, not_before}

-- a span since a moment, as a difference and as a sum
long_since : (moment span now : ℕ) → is_long_since moment span now ≡ nat_le (moment + span) now
long_since moment span now = grind (arith, nat_tests)

-- what is true of a slot, by what it misses
pub same_due : (now delay retry limit : ℕ) (o : Option Slot) → is_due_slot now delay retry limit o ≡ is_due now delay retry limit (missed_in o)
same_due now delay retry limit None = refl
same_due now delay retry limit (Some (Held content)) = refl
same_due now delay retry limit (Some (Missing noticed asks last)) =
    let wait = long_since noticed delay now in
    let again = long_since last retry now in
    ap (λ b. nat_lt asks limit && b) (ap (λ b. if asks == 0 then delay == 0 || b else is_long_since last retry now) wait ∙ ap (λ b. if asks == 0 then delay == 0 || nat_le (noticed + delay) now else b) again)

same_missing : (o : Option Slot) → is_missing_slot o ≡ is_missed (missed_in o)
same_missing None = refl
same_missing (Some (Held content)) = refl
same_missing (Some (Missing noticed asks last)) = refl

due_is_some : (now delay retry limit : ℕ) (o : Option Slot) → is_due_slot now delay retry limit o ≡ true → IsSome o
due_is_some now delay retry limit None due = absurd cc
due_is_some now delay retry limit (Some slot) due = refl

pub lists_same : (places : List ℕ) (f g : ℕ → Bool) → ((q : ℕ) → f q ≡ g q) → Lists places f → Lists places g
lists_same places f g same lists = record { rises = lists.rises; each = λ q. lists.each q ∙ same q }

-- each listed place passes the test
pub all_pass : (places : List ℕ) (test : ℕ → Bool) → Lists places test → All (λ q. test q ≡ true) places
all_pass places test lists = members (λ q. test q ≡ true) places (λ q among. sym (lists.each q) ∙ among)

-- places that have a slot lie within one window
within_window : (cursor : Option ℕ) (slots : List Slot) (room : ℕ) → let s : Span = record { cursor = cursor; slots = slots; capacity = room } in
    IsSpan s → ((q : ℕ) → IsSome (slot_at s q) → IsInside s q) → (places : List ℕ) → All (λ q. IsSome (slot_at s q)) places → IsNarrow places
within_window cursor slots room is inside [] all = omega arith
within_window None slots room is inside (x ∷ xs) all = absurd (inside x (all 0 0 (omega arith))).0
within_window (Some k) slots room is inside (x ∷ xs) all =
    let first = inside x (all 0 0 (omega arith)) in
    let last = inside (get_or (x ∷ xs) (length (x ∷ xs) - 1) 0) (all (length (x ∷ xs) - 1) 0 (omega arith)) in
    let low = first.0 in
    let high = last.1 in
    let fits = is.room in
    let limit = is.limit in
    let some = (is.started k refl).0 in
    omega arith

module _ (s : Span) (is : IsSpan s) (inside : (q : ℕ) → IsSome (slot_at s q) → IsInside s q) (now delay retry limit : ℕ)
    (lists : Lists (due_places s now delay retry limit) (λ q. is_due_slot now delay retry limit (slot_at s q))) where
  -- the first of the due places, so many of them
  pub due_narrow : (n m : ℕ) → IsNarrow (take m (take n (due_places s now delay retry limit)))
  due_narrow n m =
      let P : ℕ → Type 0 = λ q. IsSome (slot_at s q) in
      within_window s.cursor s.slots s.capacity is inside _ (All-take P m _ (All-take P n _ (λ k d l. due_is_some now delay retry limit _ (all_pass _ _ lists k d l))))

  pub looked_narrow : (most : ℕ) → IsNarrow (looked_due s now delay retry limit most)
  looked_narrow most =
      let P : ℕ → Type 0 = λ q. IsSome (slot_at s q) in
      within_window s.cursor s.slots s.capacity is inside _ (All-take P (looked_at most) _ (λ k d l. due_is_some now delay retry limit _ (all_pass _ _ lists k d l)))

  pub looked_askable : ((o : Option Slot) → is_due_slot now delay retry limit o ≡ true → IsSomeAnd o CanBeAsked) → (most i : ℕ) → CanAllBeAsked s (take i (looked_due s now delay retry limit most))
  looked_askable askable most i =
      let P : ℕ → Type 0 = λ q. IsSomeAnd (slot_at s q) CanBeAsked in
      All-take P i _ (All-take P (looked_at most) _ (λ k d l. askable _ (all_pass _ _ lists k d l)))

-- a list of which nothing passes a test has nothing that passes a stronger one
filter_none : (f g : ℕ → Bool) → ((q : ℕ) → g q ≡ false → f q ≡ false) → (xs : List ℕ) → length (filter g xs) ≡ 0 → filter f xs ≡ []
filter_none f g less [] none = refl
filter_none f g less (x ∷ xs) none = let rest = filter_none f g less xs in let here = less x in grind (arith, common_steps, rest, here)

held_not_due : (now delay retry limit : ℕ) (o : Option Slot) → is_missing_slot o ≡ false → is_due_slot now delay retry limit o ≡ false
held_not_due now delay retry limit None held = refl
held_not_due now delay retry limit (Some (Held content)) held = refl
held_not_due now delay retry limit (Some (Missing noticed asks last)) held = absurd cc

-- where nothing is missing, nothing is due
pub nothing_due : (s : Span) (now delay retry limit : ℕ) → length (missing_places s) ≡ 0 → due_places s now delay retry limit ≡ []
nothing_due s now delay retry limit none =
    filter_none (λ q. is_due_slot now delay retry limit (slot_at s q)) (λ q. is_missing_slot (slot_at s q)) (λ q. held_not_due now delay retry limit (slot_at s q)) (places_of s) none

-- Asks that are counted one after another.

pub counts_none : (s : Span) (places : List ℕ) (now : ℕ) → CountsAsks s s (take 0 places) now
counts_none s places now = record { cursor = refl; highest = refl; slots = λ q. refl; capacity = refl }

merged : (x y z : Bool) (f : Option Slot → Option Slot) (o m n : Option Slot) → z ≡ (x || y) → (y ≡ true → x ≡ false) → m ≡ cond x (f o) o → n ≡ cond y (f m) m → n ≡ cond z (f o) o
merged true true z f o m n is once a b = absurd (true≢false (once refl))
merged true false z f o m n is once a b = b ∙ a ∙ sym (ap (λ t. cond t (f o) o) is)
merged false true z f o m n is once a b = b ∙ ap f a ∙ sym (ap (λ t. cond t (f o) o) is)
merged false false z f o m n is once a b = b ∙ a ∙ sym (ap (λ t. cond t (f o) o) is)

swapped : (p q : ℕ) → (q == p) ≡ (p == q)
swapped p q = elim (cases_eq q p) [ inl same ↦ eq-eqb q p same ∙ sym (eq-eqb p q (sym same)) | inr other ↦ ne_eqb q p other ∙ sym (ne_eqb p q (λ e. other (sym e))) ]

module _ (old mid : Span) (places : List ℕ) (i d now : ℕ) (rising : IsStrictlyIncreasing places) (within : i < length places) (before : CountsAsks old mid (take i places) now) where
  -- the next place was not asked for so far
  pub askable_still : CanAllBeAsked old places → IsSomeAnd (slot_at mid (get_or places i d)) CanBeAsked
  askable_still all =
      let here = before.slots (get_or places i d) ∙ ap (λ b. cond b (option_map (asked_slot now) (slot_at old (get_or places i d))) (slot_at old (get_or places i d))) (not_before places i d rising within) in
      subst (λ o. IsSomeAnd o CanBeAsked) (sym here) (all i d within)

  pub counts_more : (new : Span) → CountsAsk mid new (get_or places i d) now → CountsAsks old new (take (i + 1) places) now
  counts_more new one =
      record {
        cursor = one.cursor ∙ before.cursor;
        highest = one.highest ∙ before.highest;
        slots = λ q.
            merged (is_among (take i places) q) (q == get_or places i d) (is_among (take (i + 1) places) q) (option_map (asked_slot now)) (slot_at old q) (slot_at mid q) (slot_at new q)
            (list_any_more (λ p. p == q) places i d within ∙ ap (λ b. is_among (take i places) q || b) (sym (swapped (get_or places i d) q)))
            (λ same. ap (is_among (take i places)) (eqb-true _ _ same) ∙ not_before places i d rising within)
            (before.slots q)
            (one.slots q);
        capacity = one.capacity ∙ before.capacity;
      }

module _ (law : (s new : Span) (place now : ℕ) → IsSomeAnd (slot_at s place) CanBeAsked → new ≡ asked s place now → CountsAsk s new place now)
    (old : Span) (places : List ℕ) (now : ℕ) (rising : IsStrictlyIncreasing places) (all : CanAllBeAsked old places) where
  -- the asks that are left, so many, once the first ones were counted
  counts_left : (n i : ℕ) (mid : Span) → i + n ≡ length places → CountsAsks old mid (take i places) now →
      CanEachBeAsked mid (drop i places) now × CountsAsks old (asked_each mid (drop i places) now) places now
  counts_left zero i mid end before =
      let P : List ℕ → Type 0 = λ left. CanEachBeAsked mid left now × CountsAsks old (asked_each mid left now) places now in
      subst P (sym (drop_all i places (omega arith))) (tt, subst (λ (ps : List ℕ). CountsAsks old mid ps now) (take_all i places (omega arith)) before)
  counts_left (suc n) i mid end before =
      let P : List ℕ → Type 0 = λ left. CanEachBeAsked mid left now × CountsAsks old (asked_each mid left now) places now in
      let p = get_or places i 0 in
      let within : i < length places = omega arith in
      let askable = askable_still old mid places i 0 now rising within before all in
      let one = law mid (asked mid p now) p now askable refl in
      let rest = counts_left n (i + 1) (asked mid p now) (omega arith) (counts_more old mid places i 0 now rising within before (asked mid p now) one) in
      let left : drop i places ≡ p ∷ drop (i + 1) places = rw (add-one) (drop-cons places i 0 within) in
      subst P (sym left) ((askable, rest.0), rest.1)

  -- each of the places may be asked for, one after the other, and that counts them all
  pub counts_each : CanEachBeAsked old places now × CountsAsks old (asked_each old places now) places now
  counts_each = counts_left (length places) 0 old (omega arith) (counts_none old places now)

held_asked : (now : ℕ) (o : Option Slot) → held_in (option_map (asked_slot now) o) ≡ held_in o
held_asked now None = refl
held_asked now (Some (Held content)) = refl
held_asked now (Some (Missing noticed asks last)) = refl

missed_asked : (now : ℕ) (o : Option Slot) → missed_in (option_map (asked_slot now) o) ≡ option_map (asked_once now) (missed_in o)
missed_asked now None = refl
missed_asked now (Some (Held content)) = refl
missed_asked now (Some (Missing noticed asks last)) = refl

held_still : (now : ℕ) (b : Bool) (o n : Option Slot) → n ≡ cond b (option_map (asked_slot now) o) o → held_in n ≡ held_in o
held_still now true o n is = ap held_in is ∙ held_asked now o
held_still now false o n is = ap held_in is

missed_once : (now : ℕ) (b : Bool) (o n : Option Slot) → n ≡ cond b (option_map (asked_slot now) o) o → missed_in n ≡ cond b (option_map (asked_once now) (missed_in o)) (missed_in o)
missed_once now true o n is = ap missed_in is ∙ missed_asked now o
missed_once now false o n is = ap missed_in is

-- asks that were counted at a started window
asks_at : (learnt : Option ℕ) (k : ℕ) (slots : List Slot) (room : ℕ) (new : Span) (covered : List ℕ) (now : ℕ) → let old : Span = record { cursor = Some k; slots = slots; capacity = room } in
    CountsAsks old new covered now →
    IsSomeAnd (window_of learnt new) (Asks (record { cursor = k; highest = k + length slots - 1; held = λ q. held_in (slot_at old q); missing = λ q. missed_in (slot_at old q); learnt = learnt }) covered now)
asks_at learnt k slots room new covered now counts =
    let old : Span = record { cursor = Some k; slots = slots; capacity = room } in
    let P : Option ℕ → Type 0 = λ c.
    IsSomeAnd (window_at learnt c new) (Asks (record { cursor = k; highest = k + length slots - 1; held = λ q. held_in (slot_at old q); missing = λ q. missed_in (slot_at old q); learnt = learnt }) covered now) in
    let highest : option_map (λ c. c + length new.slots - 1) (Some k) ≡ Some (k + length slots - 1) = ap (option_map (λ c. c + length new.slots - 1)) (sym counts.cursor) ∙ counts.highest in
    subst P (sym counts.cursor) (record {
      cursor = refl;
      highest = same_Some _ _ highest;
      held = λ q. held_still now _ _ _ (counts.slots q);
      missing = λ q. missed_once now _ _ _ (counts.slots q);
      learnt = refl;
    })

pub take_none : (n : ℕ) → take {A = ℕ} n [] ≡ []
take_none zero = refl
take_none (suc n) = refl

-- an ask of a window
module _ (slots : List Slot) (room : ℕ) (c : Config) (now most : ℕ) (learnt : Option ℕ) where
  abbrev at : Option ℕ → Span
  at cursor = record { cursor = cursor; slots = slots; capacity = room }

  abbrev all_due : Option ℕ → List ℕ
  all_due cursor = due_places (at cursor) now c.delay c.retry c.asks

  abbrev due : Option ℕ → List ℕ
  due cursor = take (looked_at most) (all_due cursor)

  abbrev AreDue : Option ℕ → Type 0
  AreDue cursor = Lists (all_due cursor) (λ q. is_due_slot now c.delay c.retry c.asks (slot_at (at cursor) q))

  pub asks_some : (cursor : Option ℕ) (pairs : List Pair) (count : ℕ) (datagram : ArrayVec ℕ) (new : Span) →
      AreDue cursor → IsNarrow (due cursor) →
      due cursor ≢ [] → 0 < count → IsPacking (due cursor) pairs count →
      NackSpells (record { reporter = c.session.receiver_ssrc; media = c.session.media_ssrc; pairs = pairs }) datagram.items →
      CountsAsks (at cursor) new (take count (due cursor)) now →
      AsksMost c (window_of learnt (at cursor)) now most (Some datagram) (window_of learnt new)
  asks_some None pairs count datagram new lists narrow some covers packs spells counts = absurd (some (take_none (looked_at most)))
  asks_some (Some k) pairs count datagram new lists narrow some covers packs spells counts =
      record {
        due = all_due (Some k);
        each = lists_same _ _ _ (λ q. same_due now c.delay c.retry c.asks (slot_at (at (Some k)) q)) lists;
        answers = (
          some,
          record { pairs = pairs; asked = record { count = count; covers = covers; narrow = narrow; packing = packs; asks = asks_at learnt k slots room new _ now counts }; spells = spells },
        );
      }

  pub needs_room : (cursor : Option ℕ) (pairs : List Pair) (count : ℕ) → AreDue cursor →
      due cursor ≢ [] → IsPacking (due cursor) pairs count → AnyNeedsRoom c (window_of learnt (at cursor)) now most (12 + 4 * length pairs)
  needs_room None pairs count lists some packs = absurd (some (take_none (looked_at most)))
  needs_room (Some k) pairs count lists some packs =
      record {
        due = all_due (Some k);
        each = lists_same _ _ _ (λ q. same_due now c.delay c.retry c.asks (slot_at (at (Some k)) q)) lists;
        some = some;
        pairs = pairs;
        count = count;
        packing = packs;
        octets = refl;
      }

  pub asks_none : (cursor : Option ℕ) → AreDue cursor → due cursor ≡ [] → AsksMost c (window_of learnt (at cursor)) now most None (window_of learnt (at cursor))
  asks_none None lists none = (refl, refl)
  asks_none (Some k) lists none =
      record {
        due = all_due (Some k);
        each = lists_same _ _ _ (λ q. same_due now c.delay c.retry c.asks (slot_at (at (Some k)) q)) lists;
        answers = (none, refl);
      }

-- the missing places of a window are counted
pub counts_missed : (slots : List Slot) (room : ℕ) (learnt cursor : Option ℕ) (count : ℕ) → let s : Span = record { cursor = cursor; slots = slots; capacity = room } in
    Lists (missing_places s) (λ q. is_missing_slot (slot_at s q)) → count ≡ length (missing_places s) → CountsMissing (window_of learnt s) count
counts_missed slots room learnt None count lists is = is
counts_missed slots room learnt (Some k) count lists is =
    let s : Span = record { cursor = Some k; slots = slots; capacity = room } in
    record {
      places = missing_places s;
      each = lists_same _ _ _ (λ q. same_missing (slot_at s q)) lists;
      counted = is;
    }

-- no place is looked at where the list of those that are is empty
pub none_due : (items places : List ℕ) → items ≡ places → (length items == 0) ≡ true → places ≡ []
none_due items [] is none = refl
none_due items (x ∷ xs) is none = let count = ap length is in let e = eqb-true _ _ none in absurd (omega arith)

pub positive : (xs : List ℕ) → xs ≢ [] → 0 < length xs
positive [] some = absurd (some refl)
positive (x ∷ xs) some = omega arith

pub some_due : (items places : List ℕ) → items ≡ places → (length items == 0) ≡ false → places ≢ []
some_due items places is some none = true≢false (sym (ap (λ (xs : List ℕ). length xs == 0) (is ∙ none)) ∙ some)

-- places are covered exactly where one is due
pub answers_pairs : (s : Span) (now delay retry limit most : ℕ) (pairs : List Pair) (count : ℕ) (first : List ℕ) → (count ≡ 0 → looked_due s now delay retry limit most ≡ []) →
    (0 < count → FindsPairs s now delay retry limit most first pairs count) → AnswersPairs s now delay retry limit most pairs count first
answers_pairs s now delay retry limit most pairs zero first none some = none refl
answers_pairs s now delay retry limit most pairs (suc count) first none some = some (omega arith)

pub pairs_found : (s : Span) (now delay retry limit most : ℕ) (pairs : List Pair) (count : ℕ) (first : List ℕ) → AnswersPairs s now delay retry limit most pairs count first → count ≢ 0 →
    FindsPairs s now delay retry limit most first pairs count
pairs_found s now delay retry limit most pairs zero first is some = absurd (some refl)
pairs_found s now delay retry limit most pairs (suc count) first is some = is

pub no_pairs : (s : Span) (now delay retry limit most : ℕ) (pairs : List Pair) (count : ℕ) (first : List ℕ) → AnswersPairs s now delay retry limit most pairs count first → count ≡ 0 →
    looked_due s now delay retry limit most ≡ []
no_pairs s now delay retry limit most pairs zero first is none = is
no_pairs s now delay retry limit most pairs (suc count) first is none = absurd (omega arith)

-- no more places are due than missing
due_missing : (now delay retry limit : ℕ) (o : Option Slot) → is_due_slot now delay retry limit o ≡ true → is_missing_slot o ≡ true
due_missing now delay retry limit None due = absurd cc
due_missing now delay retry limit (Some (Held content)) due = absurd cc
due_missing now delay retry limit (Some (Missing noticed asks last)) due = refl

fewer_pass : (f g : ℕ → Bool) → ((q : ℕ) → f q ≡ true → g q ≡ true) → (xs : List ℕ) → length (filter f xs) ≤ length (filter g xs)
fewer_pass f g more [] = omega arith
fewer_pass f g more (x ∷ xs) = let rest = fewer_pass f g more xs in let here = more x in grind (arith, common_steps, rest, here)

pub due_of_missing : (s : Span) (now delay retry limit : ℕ) → length (due_places s now delay retry limit) ≤ length (missing_places s)
due_of_missing s now delay retry limit =
    fewer_pass (λ q. is_due_slot now delay retry limit (slot_at s q)) (λ q. is_missing_slot (slot_at s q)) (λ q. due_missing now delay retry limit (slot_at s q)) (places_of s)

-- so many of a list, and so many
take_same : (n m : ℕ) (xs : List ℕ) → min n (length xs) ≡ min m (length xs) → take n xs ≡ take m xs
take_same zero zero xs e = refl
take_same zero (suc m) [] e = refl
take_same zero (suc m) (x ∷ xs) e = absurd (omega arith)
take_same (suc n) zero [] e = refl
take_same (suc n) zero (x ∷ xs) e = absurd (omega arith)
take_same (suc n) (suc m) [] e = refl
take_same (suc n) (suc m) (x ∷ xs) e = ap (λ ys. x ∷ ys) (take_same n m xs (omega arith))

-- room for as many as a list has is room enough
pub take_as_many : (most room limit : ℕ) (xs : List ℕ) → min limit (length xs) ≤ room → take (min most room) (take limit xs) ≡ take (min most limit) xs
take_as_many most room limit xs fits = take_lesser (min most room) limit (min (min most room) limit) xs refl ∙ take_same (min (min most room) limit) (min most limit) xs (omega arith)

-- what was found, at the front of what was lent
pub looked_in_room : (s : Span) (now delay retry limit most room : ℕ) → min longest_ask (length (missing_places s)) ≤ room →
    take (min most room) (take longest_ask (due_places s now delay retry limit)) ≡ looked_due s now delay retry limit most
looked_in_room s now delay retry limit most room fits =
    let fewer = due_of_missing s now delay retry limit in
    take_as_many most room longest_ask (due_places s now delay retry limit) (omega (arith, fewer))

-- what lies at the front of what was lent
pub front_of_lent : (found : ℕ) (front rest : List ℕ) {n : ℕ} → found ≤ n → length front ≡ n → take found (front ++ rest) ≡ take found front
front_of_lent found front rest within long = take-append-le found front rest (omega arith)

-- and a beginning of it
pub covered_of : (lent first : List ℕ) (found count : ℕ) → count ≤ length (take found lent) → take found lent ≡ first → take count lent ≡ take count first
covered_of lent first found count within items =
    let long = length-take found lent in
    sym (take_lesser count found count lent (omega arith)) ∙ ap (take count) items

pub covered_within : (lent : List ℕ) (found count : ℕ) → count ≤ length (take found lent) → count ≤ length lent
covered_within lent found count within = let long = length-take found lent in omega arith
