-- What the receiver's window keeps of the log, in the place world.
use Rattle.std.proofs.Common.{◌≡◌, ◌⊎◌, ℕ, ◌+◌, ◌-◌, ◌*◌, ◌/◌, ◌<◌, ◌≤◌, Bool, true, false, List, Option, Some, None, if◌then◌else◌, refl, sym, ap, subst, ◌∙◌, ⊎_elim, inl, inr, arith}
use Rattle.std.specs.Option.{option_map}
use Rattle.std.proofs.lemmas.Bool.{cases_eq}
use Rattle.std.proofs.lemmas.Option.{none-some, same_Some}
use Rattle.places.specs.Among.{is_among}
use Rattle.places.specs.Place.{number}
use Rattle.rtpwire.specs.declared.content.Content.{Content}
use Rattle.receiver.specs.Window.{Missed, ReceiverState, cursor_after, Starts, Takes, Passes}
use Rattle.receiver.specs.Asks.{asked_once, Asks}
use Rattle.world.specs.declared.event.Entry.{Entry}
use Rattle.world.specs.Config.{Config}
use Rattle.world.specs.Reading.{WasSent, cursor_of, cursor_from, cursor_next}
use Rattle.world.specs.Reach.{highest_taken, shift_of, greater, IsReached}
use Rattle.world.specs.Justified.{noticed_of, earlier_or}
use Rattle.world.proofs.Near.{first_shift}

abbrev pub noticed_in : Option Missed → Option ℕ
noticed_in None = None
noticed_in (Some m) = Some m.noticed

-- A started window beside what a log says. The parameters are readings of the log, and not the log: an entry
-- that changes none of them leaves this type as it is.
pub record Kept (shift : ℕ) (cursor_at highest_at : Option ℕ) (Was : ℕ → Content → Type 0) (Reached : ℕ → Type 0) (noticed_at : ℕ → Option ℕ) (w : ReceiverState) : Type 0 where
  pub cycles : ℕ
  pub whole : shift ≡ cycles * 65536
  pub started : 65536 ≤ w.highest
  pub cursor : cursor_at ≡ Some w.cursor
  pub highest : highest_at ≡ Some (w.highest + shift)
  pub top : w.cursor ≤ w.highest → w.held w.highest ≡ None → ⊥
  pub sent : (k : ℕ) (c : Content) → w.held k ≡ Some c → Was (k + shift) c
  pub came : (k : ℕ) (c : Content) → w.held k ≡ Some c → Reached (k + shift)
  pub reached : (k : ℕ) → w.cursor ≤ k → Reached (k + shift) → w.held k ≡ None → ⊥
  pub noticed : (k : ℕ) → w.cursor ≤ k → w.held k ≡ None → noticed_in (w.missing k) ≡ noticed_at k
  pub unnoticed : (k : ℕ) → w.highest ≤ k → noticed_at k ≡ None
  pub seen : (k : ℕ) → k < w.highest → noticed_at k ≡ None → ⊥

-- nothing was taken
pub record Fresh (shift : ℕ) (cursor_at highest_at : Option ℕ) (Reached : ℕ → Type 0) (noticed_at : ℕ → Option ℕ) : Type 0 where
  pub shift_is : shift ≡ 0
  pub cursor : cursor_at ≡ None
  pub highest : highest_at ≡ None
  pub reached : (k : ℕ) → Reached k → ⊥
  pub noticed : (k : ℕ) → noticed_at k ≡ None

abbrev pub KeptBy : Config → List Entry → ReceiverState → Type 0
KeptBy c past w = Kept (shift_of past) (cursor_of past) (highest_taken past) (WasSent c past) (IsReached past) (noticed_of past) w

abbrev pub Keeps : Config → List Entry → Option ReceiverState → Type 0
Keeps c past None = Fresh (shift_of past) (cursor_of past) (highest_taken past) (IsReached past) (noticed_of past)
Keeps c past (Some w) = KeptBy c past w

-- what is held after the start is what was taken
starts_place : (p q k : ℕ) (new : ReceiverState) (c d : Content) → q ≤ p → Starts q c new → new.held k ≡ Some d → p ≡ k + (p - q)
starts_place p q k new c d above t h = grind (arith, cases_eq k q, t.held_else k)

starts_content : (q k : ℕ) (new : ReceiverState) (c d : Content) → Starts q c new → new.held k ≡ Some d → c ≡ d
starts_content q k new c d t h = grind (arith, cases_eq k q, t.held_else k, t.held)

-- what is held after a take is what was taken, or what was held
takes_held : (room : ℕ) (old new : ReceiverState) (q now : ℕ) (c : Content) → Takes room old q c now new → (k : ℕ) (d : Content) → new.held k ≡ Some d → ((k ≡ q) × (c ≡ d)) ⊎ (old.held k ≡ Some d)
takes_held room old new q now c t k d h = grind (arith, cases_eq k q, t.held, t.held_else k, t.held_dropped k)

-- One step each, over readings that are variables.
module _ (shift : ℕ) (cursor_at highest_at : Option ℕ) (Was : ℕ → Content → Type 0) (Reached : ℕ → Type 0) (noticed_at : ℕ → Option ℕ) where
  -- The receiver's place q is taken, which is the sender's place p.
  pub takes : (room : ℕ) (old new : ReceiverState) (p q now overrun : ℕ) (c : Content) → Kept shift cursor_at highest_at Was Reached noticed_at old → q + shift ≡ p → Was p c → old.cursor ≤ q → old.held q ≡ None → overrun ≡ cursor_after room old.cursor q - old.cursor → Takes room old q c now new →
      Kept shift (cursor_from cursor_at q overrun) (greater highest_at (Some p)) Was (λ k. ((Some p ≡ Some k) × Unit {0}) ⊎ Reached k) (λ k. earlier_or (noticed_at k) k q now) new
  takes room old new p q now overrun c kept at sent above free over t =
      record {
        cycles = kept.cycles;
        whole = kept.whole;
        started = omega (arith, kept.started, t.highest);
        cursor = grind (arith, kept.cursor, t.cursor);
        highest = grind (arith, kept.highest, t.highest);
        top = λ h e. ⊎_elim
            (λ (same : new.highest ≡ q). none-some c (sym (rw same at e) ∙ t.held))
            (λ other. kept.top (grind (arith, t.cursor, t.highest)) (grind (arith, t.highest, t.held_else old.highest)))
            (cases_eq new.highest q);
        sent = λ k d h. ⊎_elim
            (λ (x : (k ≡ q) × (c ≡ d)). subst (λ (y : ℕ × Content). Was y.0 y.1) (λ j. ((sym at ∙ ap (λ n. n + shift) (sym x.0)) j, x.1 j)) sent)
            (kept.sent k d)
            (takes_held room old new q now c t k d h);
        came = λ k d h. ⊎_elim
            (λ (x : (k ≡ q) × (c ≡ d)). inl (ap Some (sym at ∙ ap (λ n. n + shift) (sym x.0)), tt))
            (λ was. inr (kept.came k d was))
            (takes_held room old new q now c t k d h);
        reached = λ k h r e. ⊎_elim
            (λ (x : (Some p ≡ Some (k + shift)) × Unit {0}). let y = same_Some p (k + shift) x.0 in let same : k ≡ q = omega (arith, y) in none-some c (sym (rw same at e) ∙ t.held))
            (λ was. ⊎_elim
            (λ (same : k ≡ q). none-some c (sym (rw same at e) ∙ t.held))
            (λ other. kept.reached k (grind (arith, t.cursor)) was (sym (t.held_else k h other) ∙ e))
            (cases_eq k q))
            r;
        noticed = λ k h e. grind (arith, cases_eq k q, t.held, t.held_else k, t.missing_between k, t.missing_below k, t.missing_above k, kept.noticed k, kept.unnoticed k, kept.seen k, kept.top, t.cursor);
        unnoticed = λ k h. grind (arith, kept.unnoticed k, t.highest);
        seen = λ k h e. grind (arith, kept.seen k, t.highest);
      }

  -- The sender's place p is the first that is taken.
  pub starts : (new : ReceiverState) (p now overrun : ℕ) (c : Content) → Fresh shift cursor_at highest_at Reached noticed_at → 65536 ≤ p → Was p c → Starts (65536 + number p) c new →
      Kept (p - (65536 + number p)) (cursor_from cursor_at (65536 + number p) overrun) (greater highest_at (Some p)) Was (λ k. ((Some p ≡ Some k) × Unit {0}) ⊎ Reached k) (λ k. earlier_or (noticed_at k) k (65536 + number p) now) new
  starts new p now overrun c none big sent t = by (65536 + number p) (omega arith) (p / 65536 - 1) (first_shift p big) t (omega arith)
    where
      by : (q : ℕ) → q ≤ p → (cycles : ℕ) → p - q ≡ cycles * 65536 → Starts q c new → 65536 ≤ q →
          Kept (p - q) (cursor_from cursor_at q overrun) (greater highest_at (Some p)) Was (λ k. ((Some p ≡ Some k) × Unit {0}) ⊎ Reached k) (λ k. earlier_or (noticed_at k) k q now) new
      by q above cycles whole t large =
          record {
            cycles = cycles;
            whole = whole;
            started = omega (arith, t.highest);
            cursor = grind (arith, none.cursor, t.cursor);
            highest = grind (arith, none.highest, t.highest);
            top = λ h e. grind (arith, t.highest, t.held);
            sent = λ k d h. subst (λ (y : ℕ × Content). Was y.0 y.1) (λ j. (starts_place p q k new c d above t h j, starts_content q k new c d t h j)) sent;
            came = λ k d h. inl (ap Some (starts_place p q k new c d above t h), tt);
            reached = λ k h r e. ⊎_elim
                (λ (x : (Some p ≡ Some (k + (p - q))) × Unit {0}). let y = same_Some p (k + (p - q)) x.0 in let same : k ≡ q = omega (arith, y) in none-some c (sym (rw same at e) ∙ t.held))
                (λ was. none.reached (k + (p - q)) was)
                r;
            noticed = λ k h e. grind (arith, cases_eq k q, t.held, t.missing k, none.noticed k, t.cursor);
            unnoticed = λ k h. grind (arith, none.noticed k, t.highest);
            seen = λ k h e. grind (arith, none.noticed k, t.highest);
          }

  -- A delivery that is refused is no new one of a place that can still be played.
  pub refused : (w : ReceiverState) (Also : ℕ → Type 0) → Kept shift cursor_at highest_at Was Reached noticed_at w → ((k : ℕ) → w.cursor ≤ k → Also (k + shift) → w.held k ≡ None → ⊥) → Kept shift cursor_at highest_at Was (λ k. Also k ⊎ Reached k) noticed_at w
  refused w Also kept because =
      record {
        cycles = kept.cycles;
        whole = kept.whole;
        started = kept.started;
        cursor = kept.cursor;
        highest = kept.highest;
        top = kept.top;
        sent = kept.sent;
        came = λ k c h. inr (kept.came k c h);
        reached = λ k h r e. ⊎_elim (λ a. because k h a e) (λ was. kept.reached k h was e) r;
        noticed = kept.noticed;
        unnoticed = kept.unnoticed;
        seen = kept.seen;
      }

  passes_held : (old new : ReceiverState) → Passes old new → (k : ℕ) (c : Content) → new.held k ≡ Some c → old.held k ≡ Some c
  passes_held old new t k c h = grind (arith, cases_eq k old.cursor, t.held k, t.held_dropped)

  -- The cursor passes its place.
  pub passes : (old new : ReceiverState) → Kept shift cursor_at highest_at Was Reached noticed_at old → Passes old new → Kept shift (cursor_next cursor_at) highest_at Was Reached noticed_at new
  passes old new kept t =
      record {
        cycles = kept.cycles;
        whole = kept.whole;
        started = omega (arith, kept.started, t.highest);
        cursor = grind (arith, kept.cursor, t.cursor);
        highest = grind (arith, kept.highest, t.highest);
        top = λ h e. kept.top (grind (arith, t.cursor, t.highest)) (grind (arith, t.cursor, t.highest, t.held old.highest));
        sent = λ k c h. kept.sent k c (passes_held old new t k c h);
        came = λ k c h. kept.came k c (passes_held old new t k c h);
        reached = λ k h r e. let above : old.cursor < k = omega (arith, t.cursor) in kept.reached k (omega arith) r (sym (t.held k (omega arith)) ∙ e);
        noticed = λ k h e. grind (arith, t.cursor, t.held k, t.missing k, kept.noticed k);
        unnoticed = λ k h. grind (arith, t.highest, kept.unnoticed k);
        seen = λ k h e. grind (arith, t.highest, kept.seen k);
      }

  -- What was learnt says nothing of places.
  pub learns : (old : ReceiverState) (learnt : Option ℕ) → Kept shift cursor_at highest_at Was Reached noticed_at old → Kept shift cursor_at highest_at Was Reached noticed_at (record old { learnt = learnt })
  learns old learnt kept =
      record {
        cycles = kept.cycles;
        whole = kept.whole;
        started = kept.started;
        cursor = kept.cursor;
        highest = kept.highest;
        top = kept.top;
        sent = kept.sent;
        came = kept.came;
        reached = kept.reached;
        noticed = kept.noticed;
        unnoticed = kept.unnoticed;
        seen = kept.seen;
      }

  -- Missing places are asked for.
  pub asks : (old new : ReceiverState) (covered : List ℕ) (now : ℕ) → Kept shift cursor_at highest_at Was Reached noticed_at old → Asks old covered now new → Kept shift cursor_at highest_at Was Reached noticed_at new
  asks old new covered now kept t =
      record {
        cycles = kept.cycles;
        whole = kept.whole;
        started = omega (arith, kept.started, t.highest);
        cursor = kept.cursor ∙ ap (λ k. Some k) (sym t.cursor);
        highest = kept.highest ∙ ap (λ k. Some (k + shift)) (sym t.highest);
        top = λ h e. kept.top (omega (arith, t.cursor, t.highest, h)) (sym (t.held old.highest) ∙ ap new.held (sym t.highest) ∙ e);
        sent = λ k c h. kept.sent k c (sym (t.held k) ∙ h);
        came = λ k c h. kept.came k c (sym (t.held k) ∙ h);
        reached = λ k h r e. kept.reached k (omega (arith, t.cursor, h)) r (sym (t.held k) ∙ e);
        noticed = λ k h e. noticed_after k ∙ kept.noticed k (omega (arith, t.cursor, h)) (sym (t.held k) ∙ e);
        unnoticed = λ k h. kept.unnoticed k (omega (arith, t.highest, h));
        seen = λ k h e. kept.seen k (omega (arith, t.highest, h)) e;
      }
    where
      same_noticed : (b : Bool) (m : Option Missed) → noticed_in (if b then option_map (asked_once now) m else m) ≡ noticed_in m
      same_noticed true None = refl
      same_noticed true (Some m) = refl
      same_noticed false m = refl

      noticed_after : (k : ℕ) → noticed_in (new.missing k) ≡ noticed_in (old.missing k)
      noticed_after k = ap noticed_in (t.missing k) ∙ same_noticed (is_among covered k) (old.missing k)

  -- More was sent.
  pub sends : (w : ReceiverState) (More : ℕ → Content → Type 0) → ((k : ℕ) (c : Content) → Was k c → More k c) → Kept shift cursor_at highest_at Was Reached noticed_at w → Kept shift cursor_at highest_at More Reached noticed_at w
  sends w More more kept =
      record {
        cycles = kept.cycles;
        whole = kept.whole;
        started = kept.started;
        cursor = kept.cursor;
        highest = kept.highest;
        top = kept.top;
        sent = λ k c h. more (k + shift) c (kept.sent k c h);
        came = kept.came;
        reached = kept.reached;
        noticed = kept.noticed;
        unnoticed = kept.unnoticed;
        seen = kept.seen;
      }
