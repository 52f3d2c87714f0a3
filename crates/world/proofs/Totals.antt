-- What a round counts down: the places that can be asked for at a moment, and those that are marked.
use Rattle.std.proofs.Common.{◌≡◌, ℕ, zero, suc, ◌+◌, ◌-◌, ◌<◌, ◌≤◌, Bool, true, false, List, [], ◌∷◌, length, take, Option, Some, None, if◌then◌else◌, IsSomeAnd, refl, sym, ap, subst, ◌∙◌, ⊎_elim, arith}
use Rattle.std.specs.Prelude.{◌&&◌, ◌||◌, ◌==◌, nat_lt, nat_le}
use Rattle.std.specs.Option.{option_map}
use Rattle.std.proofs.lemmas.Bool.{cases_eq}
use Rattle.std.proofs.lemmas.Bool.Decides.{nat_tests}
use Rattle.std.proofs.lemmas.List.{length-take}
use Rattle.places.specs.Among.{is_among}
use Rattle.stores.specs.declared.entry.HistoryEntry.{HistoryEntry}
use Rattle.stores.specs.Asking.{longest_ask}
use Rattle.sender.specs.History.{SenderState, Repairs}
use Rattle.receiver.specs.Config.{Config as Receiving}
use Rattle.receiver.specs.Window.{Missed, ReceiverState}
use Rattle.receiver.specs.Asks.{is_due, asked_once, Asks}
use Rattle.fbwire.specs.declared.nack.Pair.{Pair}
use Rattle.world.specs.Config.{Config}
use Rattle.world.specs.PlaceRun.{AsksAnyBy}
use Rattle.world.proofs.Among.{among_take}
use Rattle.world.proofs.Spans.{SpansAny}

-- the sum of a function over some numbers in a row
abbrev pub total : (ℕ → ℕ) → ℕ → ℕ → ℕ
total f base zero = 0
total f base (suc n) = f (base + n) + total f base n

total_most : (f : ℕ → ℕ) (base n : ℕ) → ((k : ℕ) → f k ≤ 1) → total f base n ≤ n
total_most f base zero h = omega arith
total_most f base (suc n) h = let a = h (base + n) in let b = total_most f base n h in omega (arith, a, b)

total_le : (f g : ℕ → ℕ) (base n : ℕ) → ((k : ℕ) → g k ≤ f k) → total g base n ≤ total f base n
total_le f g base zero h = omega arith
total_le f g base (suc n) h = let a = h (base + n) in let b = total_le f g base n h in omega (arith, a, b)

total_lt : (f g : ℕ → ℕ) (base n c : ℕ) → ((k : ℕ) → g k ≤ f k) → base ≤ c → c < base + n → g c < f c → total g base n < total f base n
total_lt f g base zero c h low high less = absurd (omega arith)
total_lt f g base (suc n) c h low high less =
    ⊎_elim
    (λ (here : base + n ≡ c). let b = total_le f g base n h in let l : g (base + n) < f (base + n) = subst (λ k. g k < f k) (sym here) less in omega (arith, b, l))
    (λ other. let a = h (base + n) in let b = total_lt f g base n c h low (omega (arith, other)) less in omega (arith, a, b))
    (cases_eq (base + n) c)

-- a missing place that was not asked for at this moment
abbrev pub unasked : (now : ℕ) → Option Missed → ℕ
unasked now None = 0
unasked now (Some m) = if nat_lt 0 m.asks && m.last == now then 0 else 1

unasked_most : (now : ℕ) (o : Option Missed) → unasked now o ≤ 1
unasked_most now None = omega arith
unasked_most now (Some m) = most (nat_lt 0 m.asks && m.last == now)
  where
    most : (b : Bool) → (if b then 0 else 1) ≤ 1
    most true = omega arith
    most false = omega arith

-- once asked for, it counts no more
asked_now : (asks now : ℕ) → 0 < asks → ◌≡◌ {A = ℕ} (if nat_lt 0 asks && now == now then 0 else 1) 0
asked_now asks now some = grind (arith, nat_tests)

abbrev after_ask : Bool → (now : ℕ) → Option Missed → Option Missed
after_ask b now o = if b then option_map (asked_once now) o else o

unasked_less : (now : ℕ) (b : Bool) (o : Option Missed) → unasked now (after_ask b now o) ≤ unasked now o
unasked_less now false o = omega arith
unasked_less now true None = omega arith
unasked_less now true (Some m) = let e = asked_now (m.asks + 1) now (omega arith) in omega (arith, e)

-- a place that is due was not asked for at this moment
due_unasked : (delay retry limit now noticed asks last : ℕ) → 0 < retry → (nat_lt asks limit && (if asks == 0 then delay == 0 || nat_le (noticed + delay) now else nat_le (last + retry) now)) ≡ true →
    ◌≡◌ {A = ℕ} (if nat_lt 0 asks && last == now then 0 else 1) 1
due_unasked delay retry limit now noticed asks last some due = grind (arith, nat_tests)

unasked_falls : (c : Receiving) (now : ℕ) (o : Option Missed) → 0 < c.retry → is_due now c.delay c.retry c.asks o ≡ true → unasked now (after_ask true now o) < unasked now o
unasked_falls c now None some due = absurd cc
unasked_falls c now (Some m) some due =
    let e = asked_now (m.asks + 1) now (omega arith) in
    let f = due_unasked c.delay c.retry c.asks now m.noticed m.asks m.last some due in
    omega (arith, e, f)

-- how many places can still be asked for at this moment
abbrev pub asks_left : Config → (now : ℕ) → Option ReceiverState → ℕ
asks_left c now None = 0
asks_left c now (Some w) = total (λ k. unasked now (w.missing k)) w.cursor c.window

pub asks_left_most : (c : Config) (now : ℕ) (r : Option ReceiverState) → asks_left c now r ≤ c.window
asks_left_most c now None = omega arith
asks_left_most c now (Some w) = total_most (λ k. unasked now (w.missing k)) w.cursor c.window (λ k. unasked_most now (w.missing k))

-- the first of some places
first_among : (xs : List ℕ) → 0 < length xs → (k : ℕ) × (is_among xs k ≡ true)
first_among [] some = absurd (omega arith)
first_among (x ∷ xs) some = (x, here x (is_among xs x))
  where
    here : (n : ℕ) (b : Bool) → (n == n || b) ≡ true
    here n b = grind (arith, nat_tests)

due_is_missing : (c : Receiving) (now : ℕ) (o : Option Missed) → is_due now c.delay c.retry c.asks o ≡ true → (m : Missed) × (o ≡ Some m)
due_is_missing c now None due = absurd cc
due_is_missing c now (Some m) due = (m, refl)

asks_fall_at : (c : Config) (now : ℕ) (old w : ReceiverState) (covered : List ℕ) (k : ℕ) → old.cursor ≤ k → k < old.cursor + c.window → is_among covered k ≡ true →
    0 < c.receiver.retry → is_due now c.receiver.delay c.receiver.retry c.receiver.asks (old.missing k) ≡ true → Asks old covered now w → asks_left c now (Some w) < asks_left c now (Some old)
asks_fall_at c now old w covered k low high among some due asking =
    subst (λ n. total (λ j. unasked now (w.missing j)) n c.window < total (λ j. unasked now (old.missing j)) old.cursor c.window) (sym asking.cursor)
    (total_lt (λ j. unasked now (old.missing j)) (λ j. unasked now (w.missing j)) old.cursor c.window k
    (λ j. subst (λ o. unasked now o ≤ unasked now (old.missing j)) (sym (asking.missing j)) (unasked_less now (is_among covered j) (old.missing j)))
    low high
    (subst (λ o. unasked now o < unasked now (old.missing k)) (sym (asking.missing k ∙ ap (λ b. after_ask b now (old.missing k)) among)) (unasked_falls c.receiver now (old.missing k) some due)))

-- an ask leaves fewer places to be asked for at its moment
pub asks_fall : (c : Config) (now : ℕ) (pairs : List Pair) (r r' : Option ReceiverState) → 0 < c.receiver.retry → SpansAny c.window r → AsksAnyBy c.receiver r now pairs r' → asks_left c now r' < asks_left c now r
asks_fall c now pairs None r' some spans never = absurd never
asks_fall c now pairs (Some old) r' some spans step = by r' step.asked.asks
  where
    by : (new : Option ReceiverState) → IsSomeAnd new (Asks old (take step.asked.count (take longest_ask step.due)) now) → asks_left c now new < asks_left c now (Some old)
    by None none = absurd none
    by (Some w) asking =
        let within = step.asked.packing.within in
        let covers : 0 < length (take step.asked.count (take longest_ask step.due)) = let h = step.asked.covers in omega (arith, h, within, length-take step.asked.count (take longest_ask step.due)) in
        let first = first_among (take step.asked.count (take longest_ask step.due)) covers in
        let due = sym (step.each.each first.0) ∙ among_take longest_ask step.due first.0 (among_take step.asked.count (take longest_ask step.due) first.0 first.1) in
        let missed = due_is_missing c.receiver now (old.missing first.0) due in
        let inside = spans.missing first.0 missed.0 missed.1 in
        let short = spans.short in
        asks_fall_at c now old w (take step.asked.count (take longest_ask step.due)) first.0 inside.0 (omega (arith, inside.1, short)) first.1 some due asking

-- an entry that is marked
abbrev pub one_marked : Option HistoryEntry → ℕ
one_marked None = 0
one_marked (Some e) = if e.marked then 1 else 0

one_marked_most : (o : Option HistoryEntry) → one_marked o ≤ 1
one_marked_most None = omega arith
one_marked_most (Some e) = most e.marked
  where
    most : (b : Bool) → (if b then 1 else 0) ≤ 1
    most true = omega arith
    most false = omega arith

-- how many places are marked
abbrev pub marks_left : Config → SenderState → ℕ
marks_left c s = total (λ k. one_marked (s.entries k)) (s.next - c.history) c.history

pub marks_left_most : (c : Config) (s : SenderState) → marks_left c s ≤ c.history
marks_left_most c s = total_most (λ k. one_marked (s.entries k)) (s.next - c.history) c.history (λ k. one_marked_most (s.entries k))

-- a retransmission leaves fewer marks
pub repairs_fall : (c : Config) (place : ℕ) (entry : HistoryEntry) (old new : SenderState) → place < old.next → old.next ≤ place + c.history → Repairs old place entry new → marks_left c new < marks_left c old
repairs_fall c place entry old new sent last t =
    subst (λ n. total (λ k. one_marked (new.entries k)) (n - c.history) c.history < marks_left c old) (sym t.next)
    (total_lt (λ k. one_marked (old.entries k)) (λ k. one_marked (new.entries k)) (old.next - c.history) c.history place
    (λ k. ⊎_elim
    (λ (here : k ≡ place). let e : one_marked (new.entries k) ≡ 0 = ap (λ n. one_marked (new.entries n)) here ∙ ap one_marked t.counted in omega (arith, e))
    (λ other. let e : one_marked (new.entries k) ≡ one_marked (old.entries k) = ap one_marked (t.others k other) in omega (arith, e))
    (cases_eq k place))
    (omega (arith, last))
    (omega (arith, sent, last))
    (let e : one_marked (new.entries place) ≡ 0 = ap one_marked t.counted in
    let f : one_marked (old.entries place) ≡ 1 = ap one_marked t.was ∙ ap (λ (b : Bool). if b then 1 else 0) t.marked in
    omega (arith, e, f)))
