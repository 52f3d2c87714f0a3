-- What each pair of entries of a round does, for one place that can be mended.
use Rattle.std.proofs.Common.{◌≡◌, ◌⊎◌, ℕ, ◌+◌, ◌*◌, ◌<◌, ◌≤◌, Bool, true, false, List, take, Option, Some, None, if◌then◌else◌, IsSome, Result, Ok, Err, refl, sym, ap, subst, ◌∙◌, ⊎_elim, inl, inr, arith}
use Rattle.std.specs.Option.{option_map}
use Rattle.std.proofs.lemmas.Bool.{cases_eq, cases_Bool}
use Rattle.std.proofs.lemmas.Option.{same_Some}
use Rattle.places.specs.Among.{is_among}
use Rattle.places.specs.Place.{number, reach, IsWithin}
use Rattle.rtpwire.specs.declared.content.Content.{Content}
use Rattle.stores.specs.declared.entry.HistoryEntry.{HistoryEntry}
use Rattle.stores.specs.declared.slot.PutFault.TheVariants.{Late, Duplicate}
use Rattle.stores.specs.Past.{repeated}
use Rattle.stores.specs.Asking.{longest_ask}
use Rattle.fbwire.specs.declared.nack.Pair.{Pair}
use Rattle.fbwire.specs.Nack.{Names}
use Rattle.sender.specs.History.{SenderState, Marks, Repairs}
use Rattle.receiver.specs.declared.answer.Taken.{Taken as Took}
use Rattle.receiver.specs.declared.fault.ReceiveFault.{ReceiveFault}
use Rattle.receiver.specs.declared.fault.ReceiveFault.TheVariants as refused
use Rattle.receiver.specs.declared.stream.Stream.{Stream}
use Rattle.receiver.specs.declared.stream.Stream.TheVariants as streams
use Rattle.receiver.specs.Window.{Missed, ReceiverState, Takes, AnswersPlace}
use Rattle.receiver.specs.Heard.{WasAsked, AnswersIn}
use Rattle.receiver.specs.Asks.{is_due, asked_once, Asks, AsksBy}
use Rattle.world.specs.Config.{Config, IsConfig}
use Rattle.world.specs.PlaceRun.{AnswersLabel}
use Rattle.world.proofs.Among.{among_take, number_among, among_number}
use Rattle.world.proofs.Marked.{stays, named_or_was, found}
use Rattle.world.proofs.Spans.{Spans, spans_asks, spans_takes, spans_learns}

-- What stands all through a round. The sender's place p is the receiver's q, and top is the greatest sender's place taken.
pub record Ready (c : Config) (shift p q top : ℕ) (v : ReceiverState) (s : SenderState) : Type 0 where
  pub at : q + shift ≡ p
  pub highest : v.highest + shift ≡ top
  pub spans : Spans c.window v
  pub from_cursor : v.cursor ≤ q
  pub below : q < v.highest
  pub cycles : ℕ
  pub whole : shift ≡ cycles * 65536
  pub sent : p < s.next
  pub last : s.next ≤ p + c.history
  pub kept : (k : ℕ) (e : HistoryEntry) → s.entries k ≡ Some e → (s.next ≤ k + c.history) × (k < s.next)
  pub marks : (k : ℕ) (e : HistoryEntry) → s.entries k ≡ Some e → e.marked ≡ true → k ≤ top

pub record IsMarked (p : ℕ) (s : SenderState) : Type 0 where
  pub entry : HistoryEntry
  pub kept : s.entries p ≡ Some entry
  pub marked : entry.marked ≡ true

abbrev pub IsDue : Config → (now q : ℕ) → ReceiverState → Type 0
IsDue c now q v = is_due now c.receiver.delay c.receiver.retry c.receiver.asks (v.missing q) ≡ true

-- it can be asked for, and then it will be marked
pub record IsWanted (c : Config) (now p q : ℕ) (v : ReceiverState) (s : SenderState) : Type 0 where
  pub due : IsDue c now q v
  pub entry : HistoryEntry
  pub kept : s.entries p ≡ Some entry
  pub allowed : entry.repeats < c.repeats

abbrev pub IsHere : (q : ℕ) → ReceiverState → Type 0
IsHere q v = IsSome (v.held q)

same_number : (q shift p cycles : ℕ) → q + shift ≡ p → shift ≡ cycles * 65536 → number q ≡ number p
same_number q shift p cycles at whole = omega arith

-- an entry of the history that has the number of a missing place lies at most at the greatest place taken
not_above : (shift cycles p q highest cursor window history next m k : ℕ) → shift ≡ cycles * 65536 → q + shift ≡ p → q < highest → highest < cursor + window → cursor ≤ m → m < highest → window ≤ 8192 → history ≤ 8192 →
    next ≤ p + history → k < next → number m ≡ number k → k ≤ highest + shift
not_above shift cycles p q highest cursor window history next m k whole at below short from under wide long last unsent same = omega arith

-- asked for in this round, or before
after_ask : (now : ℕ) (b : Bool) (delay retry limit : ℕ) (o : Option Missed) → (is_due now delay retry limit o ≡ true) ⊎ WasAsked o → let o' = (if b then option_map (asked_once now) o else o) in (is_due now delay retry limit o' ≡ true) ⊎ WasAsked o'
after_ask now false delay retry limit o state = state
after_ask now true delay retry limit None (inl due) = absurd cc
after_ask now true delay retry limit None (inr asked) = absurd asked
after_ask now true delay retry limit (Some m) state = inr (omega arith)

pub due_missing : (c : Config) (now : ℕ) (o : Option Missed) → is_due now c.receiver.delay c.receiver.retry c.receiver.asks o ≡ true → (m : Missed) × (o ≡ Some m)
due_missing c now None due = absurd cc
due_missing c now (Some m) due = (m, refl)

module _ (c : Config) (met : IsConfig c) (now shift p q top : ℕ) where
  -- An ask, and its pairs at the sender.
  module _ (v v' : ReceiverState) (s s' : SenderState) (due : List ℕ) (each : (k : ℕ) → is_among due k ≡ is_due now c.receiver.delay c.receiver.retry c.receiver.asks (v.missing k)) (pairs : List Pair) (r' : Option ReceiverState) (by : AsksBy v (take longest_ask due) now pairs r')
      (asking : Asks v (take by.count (take longest_ask due)) now v') (count : ℕ) (marking : Marks c.repeats (Names pairs) s count s') (decided : (n : ℕ) → Names pairs n ⊎ (Names pairs n → ⊥)) (r : Ready c shift p q top v s) where
    abbrev covered : List ℕ
    covered = take by.count (take longest_ask due)

    -- a number that is named is that of a covered place, which was due
    named_due : (n : ℕ) → Names pairs n → (k : ℕ) × IsDue c now k v × (number k ≡ n)
    named_due n named =
        let place = number_among covered n ((by.packing.fewest.exact n).0 named) in
        (place.0, sym (each place.0) ∙ among_take longest_ask due place.0 (among_take by.count (take longest_ask due) place.0 place.1), place.2)

    below_top : (k : ℕ) (e : HistoryEntry) → s.entries k ≡ Some e → Names pairs (number k) → k ≤ top
    below_top k e is named =
        let place = named_due (number k) named in
        let missed = due_missing c now (v.missing place.0) place.1 in
        let inside = r.spans.missing place.0 missed.0 missed.1 in
        subst (λ n. k ≤ n) r.highest
        (not_above shift r.cycles p q v.highest v.cursor c.window c.history s.next place.0 k r.whole r.at r.below r.spans.short inside.0 inside.1 met.window met.history r.last (r.kept k e is).1 place.2)

    pub asks_ready : Ready c shift p q top v' s'
    asks_ready =
        record {
          at = r.at;
          highest = ap (λ n. n + shift) asking.highest ∙ r.highest;
          spans = spans_asks c.window now covered v v' asking r.spans;
          from_cursor = let h = r.from_cursor in omega (arith, asking.cursor, h);
          below = let h = r.below in omega (arith, asking.highest, h);
          cycles = r.cycles;
          whole = r.whole;
          sent = let h = r.sent in omega (arith, marking.next, h);
          last = let h = r.last in omega (arith, marking.next, h);
          kept = λ k e is.
              let was = found c.repeats s s' k e (Names pairs) count (decided (number k)) marking is in
              let h = r.kept k was.was was.there in (omega (arith, marking.next, h.0), omega (arith, marking.next, h.1));
          marks = λ k e is m.
              let was = found c.repeats s s' k e (Names pairs) count (decided (number k)) marking is in
              ⊎_elim (λ before. r.marks k e before m) (λ named. below_top k was.was was.there named)
              (named_or_was c.repeats count (Names pairs) s s' marking k e (decided (number k)) is);
        }

    pub asks_marked : IsMarked p s → IsMarked p s'
    asks_marked m =
        let after = stays c.repeats count (Names pairs) s s' marking p m.entry (decided (number p)) m.kept in
        record { entry = after.after; kept = after.there; marked = after.still m.marked }

    pub asks_wanted : IsWanted c now p q v s → IsMarked p s' ⊎ IsWanted c now p q v' s'
    asks_wanted w =
        let after = stays c.repeats count (Names pairs) s s' marking p w.entry (decided (number p)) w.kept in
        ⊎_elim
        (λ (among : is_among covered q ≡ true).
        let contains = among_number covered q among in
        let named : Names pairs (number p) = subst (λ n. Names pairs n) (same_number q shift p r.cycles r.at r.whole) ((by.packing.fewest.exact (number q)).1 contains) in
        inl (record { entry = after.after; kept = after.there; marked = after.now named w.allowed }))
        (λ (apart : is_among covered q ≡ false).
        inr (record {
          due = ap (λ o. is_due now c.receiver.delay c.receiver.retry c.receiver.asks o) (asking.missing q ∙ ap (λ b. if b then option_map (asked_once now) (v.missing q) else v.missing q) apart) ∙ w.due;
          entry = after.after;
          kept = after.there;
          allowed = let h = w.allowed in let same = after.counted in omega (arith, h, same);
        }))
        (cases_Bool (is_among covered q))

    pub asks_asked : IsDue c now q v ⊎ WasAsked (v.missing q) → IsDue c now q v' ⊎ WasAsked (v'.missing q)
    asks_asked state =
        subst (λ (o : Option Missed). (is_due now c.receiver.delay c.receiver.retry c.receiver.asks o ≡ true) ⊎ WasAsked o) (sym (asking.missing q)) (after_ask now (is_among covered q) c.receiver.delay c.receiver.retry c.receiver.asks (v.missing q) state)

  -- A retransmission, at the sender.
  module _ (v : ReceiverState) (s s' : SenderState) (place : ℕ) (entry : HistoryEntry) (repair : Repairs s place entry s') (r : Ready c shift p q top v s) where
    pub repair_up : place ≤ top
    repair_up = r.marks place entry repair.was repair.marked

    pub repair_near : IsWithin reach place (v.highest + shift)
    repair_near =
        let up = repair_up in
        let last = (r.kept place entry repair.was).0 in
        let highest = r.highest in let short = r.spans.short in let from = r.from_cursor in let at = r.at in let sent = r.sent in
        let room = met.window in let long = met.history in
        (omega (arith, up, highest), omega (arith, last, highest, short, from, at, sent, room, long))

    before : (k : ℕ) (e : HistoryEntry) → s'.entries k ≡ Some e → (was : HistoryEntry) × (s.entries k ≡ Some was)
    before k e is =
        ⊎_elim
        (λ (here : k ≡ place). let h : (was : HistoryEntry) × (s.entries k ≡ Some was) = (entry, ap s.entries here ∙ repair.was) in h)
        (λ other. (e, sym (repair.others k other) ∙ is))
        (cases_eq k place)

    unmarked : (e : HistoryEntry) → Some (repeated entry) ≡ Some e → e.marked ≡ true → ⊥
    unmarked e same m = let x = ap (λ (y : HistoryEntry). y.marked) (same_Some (repeated entry) e same) in absurd cc

    pub repairs_ready : Ready c shift p q top v s'
    repairs_ready =
        record {
          at = r.at;
          highest = r.highest;
          spans = r.spans;
          from_cursor = r.from_cursor;
          below = r.below;
          cycles = r.cycles;
          whole = r.whole;
          sent = let h = r.sent in omega (arith, repair.next, h);
          last = let h = r.last in omega (arith, repair.next, h);
          kept = λ k e is. let was = before k e is in let h = r.kept k was.0 was.1 in (omega (arith, repair.next, h.0), omega (arith, repair.next, h.1));
          marks = λ k e is m. ⊎_elim
              (λ (here : k ≡ place). absurd (unmarked e (sym repair.counted ∙ (rw here at is)) m))
              (λ other. r.marks k e (sym (repair.others k other) ∙ is) m)
              (cases_eq k place);
        }

    -- the place is marked still, or was the one that was retransmitted
    pub repairs_marked : IsMarked p s → IsMarked p s' ⊎ (place ≡ p)
    repairs_marked m =
        ⊎_elim
        (λ (here : p ≡ place). inr (sym here))
        (λ other. inl (record { entry = m.entry; kept = repair.others p other ∙ m.kept; marked = m.marked }))
        (cases_eq p place)

  -- What the delivery of a retransmission leaves at the receiver.
  pub record IsDone (place : ℕ) (v : ReceiverState) (s : SenderState) (r' : Option ReceiverState) : Type 0 where
    pub window : ReceiverState
    pub started : r' ≡ Some window
    pub ready : Ready c shift p q top window s
    pub stays : IsHere q v → IsHere q window
    pub asked : WasAsked (v.missing q) → WasAsked (window.missing q) ⊎ IsHere q window
    pub comes : place ≡ p → WasAsked (v.missing q) → IsHere q window

  module _ (place own : ℕ) (content : Content) (s : SenderState) (at : own + shift ≡ place) (up : place ≤ top) where
    same_window : (v w : ReceiverState) → Takes c.window v own content now w → Ready c shift p q top v s → (w.cursor ≡ v.cursor) × (w.highest ≡ v.highest)
    same_window v w taking r = let short = r.spans.short in let highest = r.highest in (omega (arith, taking.cursor, short, highest, at, up), omega (arith, taking.highest, highest, at, up))

    taken_ready : (v w : ReceiverState) → Takes c.window v own content now w → Ready c shift p q top v s → Ready c shift p q top w s
    taken_ready v w taking r =
        let same = same_window v w taking r in
        record {
          at = r.at;
          highest = ap (λ n. n + shift) same.1 ∙ r.highest;
          spans = spans_takes c.window own now content v w met.some_window taking r.spans;
          from_cursor = let h = r.from_cursor in let e = same.0 in omega (arith, e, h);
          below = let h = r.below in let e = same.1 in omega (arith, e, h);
          cycles = r.cycles;
          whole = r.whole;
          sent = r.sent;
          last = r.last;
          kept = r.kept;
          marks = r.marks;
        }

    here_now : (v w : ReceiverState) → Takes c.window v own content now w → q ≡ own → IsHere q w
    here_now v w taking here = subst (λ (o : Option Content). IsSome o) (sym (ap w.held here ∙ taking.held)) refl

    module _ (v w : ReceiverState) (taking : Takes c.window v own content now w) (r : Ready c shift p q top v s) where
      above_cursor : w.cursor ≤ q
      above_cursor = let h = r.from_cursor in let e = (same_window v w taking r).0 in omega (arith, e, h)

      here_still : IsHere q v → IsHere q w
      here_still was =
          ⊎_elim
          (λ (here : q ≡ own). here_now v w taking here)
          (λ other. subst (λ (o : Option Content). IsSome o) (sym (taking.held_else q above_cursor other)) was)
          (cases_eq q own)

      asked_still : WasAsked (v.missing q) → WasAsked (w.missing q) ⊎ IsHere q w
      asked_still was =
          ⊎_elim
          (λ (here : q ≡ own). inr (here_now v w taking here))
          (λ other. let under = r.below in inl (subst (λ (o : Option Missed). WasAsked o) (sym (taking.missing_below q above_cursor other (omega (arith, under)))) was))
          (cases_eq q own)

      taken_done : (r' : Option ReceiverState) → r' ≡ Some w → IsDone place v s r'
      taken_done r' is =
          record {
            window = w;
            started = is;
            ready = taken_ready v w taking r;
            stays = here_still;
            asked = asked_still;
            comes = λ is_p asked. let same = r.at in here_now v w taking (omega (arith, at, same, is_p));
          }

    -- nothing changed
    as_it_was : (v : ReceiverState) (r' : Option ReceiverState) → r' ≡ Some v → Ready c shift p q top v s → (place ≡ p → WasAsked (v.missing q) → IsHere q v) → IsDone place v s r'
    as_it_was v r' is r comes = record { window = v; started = is; ready = r; stays = λ here. here; asked = λ was. inl was; comes = comes }

    placed : (heard : Result Took ReceiveFault) (v : ReceiverState) (r' : Option ReceiverState) → AnswersPlace c.window v own content now heard r' → Ready c shift p q top v s → IsDone place v s r'
    placed (Ok taken) v None (same, above, free, over, none) r = absurd none
    placed (Ok taken) v (Some w) (same, above, free, over, taking) r = taken_done v w taking r (Some w) refl
    placed (Err (refused.Put Late)) v r' (under, is) r = as_it_was v r' is r (λ is_p asked. let same = r.at in let from = r.from_cursor in absurd (omega (arith, at, same, is_p, from, under)))
    placed (Err (refused.Put Duplicate)) v r' (above, held, is) r =
        as_it_was v r' is r (λ is_p asked. let same = r.at in let here : own ≡ q = omega (arith, at, same, is_p) in subst (λ k. IsHere k v) here held)
    placed (Err fault) v r' never r = absurd never

    -- what was learnt says nothing of the round
    ready_learns : (v : ReceiverState) (learnt : Option ℕ) → Ready c shift p q top v s → Ready c shift p q top (record v { learnt = learnt }) s
    ready_learns v learnt r =
        record { at = r.at; highest = r.highest; spans = spans_learns c.window v learnt r.spans; from_cursor = r.from_cursor; below = r.below; cycles = r.cycles; whole = r.whole; sent = r.sent; last = r.last; kept = r.kept; marks = r.marks }

    done_learns : (v : ReceiverState) (learnt : Option ℕ) (r' : Option ReceiverState) → IsDone place (record v { learnt = learnt }) s r' → IsDone place v s r'
    done_learns v learnt r' done = record { window = done.window; started = done.started; ready = done.ready; stays = done.stays; asked = done.asked; comes = done.comes }

    pub placed_in : (stream : Stream) (heard : Result Took ReceiveFault) (v : ReceiverState) (r' : Option ReceiverState) → AnswersIn c.window stream v own content now heard r' → Ready c shift p q top v s → IsDone place v s r'
    placed_in streams.Media heard v r' step r = placed heard v r' step r
    placed_in streams.Repair heard v r' step r = placed heard v r' step r
    placed_in (streams.Candidate ssrc) (Ok taken) v r' (asked, step) r = done_learns v (Some ssrc) r' (placed (Ok taken) (record v { learnt = Some ssrc }) r' step (ready_learns v (Some ssrc) r))
    placed_in (streams.Candidate ssrc) (Err refused.Unasked) v r' (unasked, is) r =
        as_it_was v r' is r (λ is_p asked. let same = r.at in let here : q ≡ own = omega (arith, at, same, is_p) in absurd (unasked (subst (λ k. WasAsked (v.missing k)) here asked)))
    placed_in (streams.Candidate ssrc) (Err fault) v r' never r = absurd never

  -- the delivery of a retransmission from near
  pub repair_done : (place : ℕ) (content : Content) (stream : Stream) (heard : Result Took ReceiveFault) (v : ReceiverState) (s : SenderState) (r' : Option ReceiverState) →
      place ≤ top → IsWithin reach place (v.highest + shift) → AnswersLabel c shift stream v place content now heard r' → Ready c shift p q top v s → IsDone place v s r'
  repair_done place content stream heard v s r' up near (inl (apart, is, same)) r = absurd (apart near)
  repair_done place content stream heard v s r' up near (inr (own, at, within, step)) r = placed_in place own content s at up stream heard v r' step r
