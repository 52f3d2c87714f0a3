-- What lies on the wire is what was sent, whatever was injected.
use Rattle.std.proofs.Common.{◌≡◌, ◌≢◌, ◌⊎◌, ℕ, zero, suc, ◌+◌, ◌%◌, ◌^◌, ◌<◌, ◌≤◌, List, [], ◌∷◌, ◌++◌, length, take, Option, Some, None, refl, sym, ap, subst, ◌∙◌, ⊎_elim, inl, inr, arith, length-append}
use Rattle.std.specs.Prelude.{slice_get}
use Rattle.std.proofs.lemmas.Bool.{cases_eq, cases_lt}
use Rattle.std.proofs.lemmas.Option.{none-some, same_Some}
use Rattle.places.specs.Place.{number}
use Rattle.rtpwire.specs.declared.content.Content.{Content}
use Rattle.rtpwire.specs.Rtp.{RtpSpells, written}
use Rattle.rtpwire.specs.Content.{IsTooLong}
use Rattle.rtpwire.specs.Retransmission.{RepairSpells}
use Rattle.fbwire.specs.declared.nack.Pair.{Pair}
use Rattle.fbwire.specs.Nack.{Nack, NackSpells}
use Rattle.fbwire.specs.Packing.{IsPacking}
use Rattle.stores.specs.declared.entry.HistoryEntry.{HistoryEntry}
use Rattle.stores.specs.Past.{fresh, repeated}
use Rattle.stores.specs.Asking.{longest_ask}
use Rattle.sender.specs.History.{SenderState}
use Rattle.sender.specs.Sending.{media_packet}
use Rattle.receiver.specs.Window.{ReceiverState}
use Rattle.receiver.specs.Asks.{AsksAny}
use Rattle.world.specs.declared.event.Event.{Event}
use Rattle.world.specs.declared.event.Event.TheVariants.{Send, Repair as Retransmit, Ask, Deliver, Play, Inject}
use Rattle.world.specs.declared.event.End.{End}
use Rattle.world.specs.declared.event.End.TheVariants.{Sender, Receiver}
use Rattle.world.specs.declared.event.Label.{Label}
use Rattle.world.specs.declared.event.Label.TheVariants.{Media, Repair, Feedback}
use Rattle.world.specs.declared.event.Answer.{Answer}
use Rattle.world.specs.declared.event.Entry.{Entry}
use Rattle.world.specs.declared.event.Entry.TheVariants.{Sent, SendRefused, Repaired, NoRepair, Asked, NoAsk, Nothing, Delivered, Injected, Played}
use Rattle.world.specs.Config.{Config, IsConfig, sending}
use Rattle.world.specs.Labels.{end_of}
use Rattle.world.specs.Answers.{Item, WorldState, new_stand, nack_of, SendsTo, RepairsTo, AsksTo, HearsAt, Answers}
use Rattle.world.specs.Reading.{contents, repairs_in, WasSent}
use Rattle.world.specs.Wire.{IsAskedAs, IsFaithful, SpellsLabel}
use Rattle.world.proofs.Marked.{AnyFeedback, Decided, was_found, same_next, same_repair}

pub get_front : (xs ys : List Content) (k : ℕ) (p : Content) → slice_get xs k ≡ Some p → slice_get (xs ++ ys) k ≡ Some p
get_front [] ys k p e = absurd cc
get_front (x ∷ xs) ys zero p e = e
get_front (x ∷ xs) ys (suc k) p e = get_front xs ys k p e

-- an item of a longer wire is one of the old ones, or the new one
pub get_push : (xs : List Item) (x y : Item) (i : ℕ) → slice_get (xs ++ x ∷ []) i ≡ Some y → (slice_get xs i ≡ Some y) ⊎ (x ≡ y)
get_push [] x y zero e = inr (same_Some x y e)
get_push [] x y (suc i) e = absurd cc
get_push (z ∷ xs) x y zero e = inl e
get_push (z ∷ xs) x y (suc i) e = get_push xs x y i e

-- a content of a longer list is one of the old ones, or the new one, which is the last
content_push : (xs : List Content) (x y : Content) (i : ℕ) → slice_get (xs ++ x ∷ []) i ≡ Some y → (slice_get xs i ≡ Some y) ⊎ ((i ≡ length xs) × (x ≡ y))
content_push [] x y zero e = inr (refl, same_Some x y e)
content_push [] x y (suc i) e = absurd cc
content_push (z ∷ xs) x y zero e = inl e
content_push (z ∷ xs) x y (suc i) e =
    ⊎_elim (λ old. inl old) (λ (new : (i ≡ length xs) × (x ≡ y)). inr (omega (arith, new.0), new.1)) (content_push xs x y i e)

get_last : (xs : List Content) (x : Content) → slice_get (xs ++ x ∷ []) (length xs) ≡ Some x
get_last [] x = refl
get_last (y ∷ xs) x = get_last xs x

-- a place of the sender's, and a content that a receiver can hold
abbrev pub CanBeSent : Config → (place : ℕ) → Content → Type 0
CanBeSent c place content = (place < 2 ^ 48) × (IsTooLong (media_packet c.receiver.session content 0 place) → ⊥)

-- an entry of the history is of a place that was sent, one of the last
abbrev pub IsKept : Config → List Entry → (next place : ℕ) → HistoryEntry → Type 0
IsKept c past next place e = WasSent c past place e.content × (next ≤ place + c.history)

pub record Wired (c : Config) (past : List Entry) (s : WorldState) : Type 0 where
  pub next : s.sender.next ≡ 65536 + c.first + length (contents past)
  pub repair : s.sender.repair ≡ (c.repair_first + repairs_in past) % 65536
  pub sent : (place : ℕ) (content : Content) → WasSent c past place content → CanBeSent c place content
  pub kept : (q : ℕ) (e : HistoryEntry) → s.sender.entries q ≡ Some e → IsKept c past s.sender.next q e
  pub faithful : IsFaithful c past s.wire

-- a stand with the same sender and wire
wired_as : (c : Config) (past : List Entry) (old new : WorldState) → new.sender ≡ old.sender → new.wire ≡ old.wire → Wired c past old → Wired c past new
wired_as c past old new sender wire was =
    record {
      next = ap (λ (x : SenderState). x.next) sender ∙ was.next;
      repair = ap (λ (x : SenderState). x.repair) sender ∙ was.repair;
      sent = was.sent;
      kept = subst (λ (h : SenderState). (q : ℕ) (e : HistoryEntry) → h.entries q ≡ Some e → IsKept c past h.next q e) (sym sender) was.kept;
      faithful = subst (λ (w : List Item). IsFaithful c past w) (sym wire) was.faithful;
    }

-- what was sent before stays so
was_sent_more : (c : Config) (past : List Entry) (place index q : ℕ) (sent content : Content) → WasSent c past q content → WasSent c (Sent place index sent ∷ past) q content
was_sent_more c past place index q sent content (count, at, there) = (count, at, get_front (contents past) (sent ∷ []) count content there)

sent_now : (c : Config) (past : List Entry) (place index padding : ℕ) (content sent : Content) (old new : WorldState) → sent ≡ content →
    SendsTo c old content padding place index new → Wired c past old → Wired c (Sent place index sent ∷ past) new
sent_now c past place index padding content sent old new same step was =
    let sends = step.sends in
    record {
      next = omega (arith, sends.sends.next, sends.place_is, was.next, length-append (contents past) (sent ∷ []));
      repair = sends.sends.repair ∙ was.repair;
      sent = λ q d (count, at, there).
          ⊎_elim
          (λ before. was.sent q d (count, at, before))
          (λ (now : (count ≡ length (contents past)) × (sent ≡ d)).
          (omega (arith, at, now.0, was.next, sends.place_is, sends.fits), subst (λ (y : Content). IsTooLong (media_packet c.receiver.session y 0 q) → ⊥) (sym same ∙ now.1) sends.holds))
          (content_push (contents past) sent d count there);
      kept = λ q e is. kept_now q e is (cases_eq q old.sender.next) (cases_lt (q + c.history) new.sender.next);
      faithful = (
        old.wire,
        step.datagram,
        step.wire,
        step.index_is,
        record {
          next = sends.place_is ∙ was.next;
          padding = padding;
          spelled = subst (λ (y : Content). RtpSpells (media_packet c.receiver.session y padding place) step.datagram.items) (sym same) sends.spells;
          written_so = sends.written_so ∙ ap (λ (y : Content). written (media_packet c.receiver.session y padding place)) (sym same);
        },
        was.faithful,
      );
    }
  where
    kept_now : (q : ℕ) (e : HistoryEntry) → new.sender.entries q ≡ Some e → (q ≡ old.sender.next) ⊎ (q ≢ old.sender.next) → (q + c.history < new.sender.next) ⊎ (new.sender.next ≤ q + c.history) → IsKept c (Sent place index sent ∷ past) new.sender.next q e
    kept_now q e is here (inl low) = absurd (none-some e (sym (step.sends.sends.gone q low) ∙ is))
    kept_now q e is (inl here) (inr high) =
        let e_is = same_Some (fresh old.sender.next content) e (sym step.sends.sends.sent ∙ (rw here at is)) in
        ((length (contents past), here ∙ was.next, get_last (contents past) sent ∙ ap (λ (x : Content). Some x) (same ∙ ap (λ (x : HistoryEntry). x.content) e_is)), high)
    kept_now q e is (inr other) (inr high) =
        (was_sent_more c past place index q sent e.content (was.kept q e (sym (step.sends.sends.others q other high) ∙ is)).0, high)

-- a place is retransmitted
repaired_now : (c : Config) (past : List Entry) (place index : ℕ) (old new : WorldState) → RepairsTo c old place index new → Wired c past old → Wired c (Repaired place index ∷ past) new
repaired_now c past place index old new step was =
    let repairs = step.repairs.repairs in
    let entry = step.repairs.entry in
    let kept = was.kept place entry repairs.was in
    record {
      next = repairs.next ∙ was.next;
      repair = omega (arith, repairs.repair, was.repair);
      sent = was.sent;
      kept = λ q e is. ⊎_elim
          (λ (here : q ≡ place).
          let e_is = same_Some (repeated entry) e (sym repairs.counted ∙ (rw here at is)) in
          (subst (λ (y : ℕ × Content). WasSent c past y.0 y.1) (λ i. (sym here i, ap (λ (x : HistoryEntry). x.content) e_is i)) kept.0, omega (arith, here, kept.1, repairs.next)))
          (λ other. let before = was.kept q e (sym (repairs.others q other) ∙ is) in (before.0, omega (arith, before.1, repairs.next)))
          (cases_eq q place);
      faithful = (
        old.wire,
        step.datagram,
        step.wire,
        step.index_is,
        record {
          content = entry.content;
          was_sent = kept.0;
          kept = omega (arith, kept.1, was.next);
          spelled = subst (λ n. RepairSpells entry.content (number place) n c.receiver.session.repair_type c.receiver.session.repair_ssrc step.datagram.items) was.repair step.repairs.spells;
        },
        was.faithful,
      );
    }

-- octets spell one NACK, by the law of feedback
abbrev pub OneNack : Type 0
OneNack = (octets : List ℕ) (a b : Nack) → NackSpells a octets → NackSpells b octets → a ≡ b

-- an ask, by its pairs
asked_as : OneNack → (c : Config) (old new : WorldState) (now index : ℕ) (step : AsksTo c old now index new) → IsAskedAs c step.pairs.items step.datagram.items
asked_as one c old new now index step = by old.receiver step.asks
  where
    by : (r : Option ReceiverState) → AsksAny c.receiver r now (Some step.datagram) new.receiver → IsAskedAs c step.pairs.items step.datagram.items
    by None (none, is) = absurd cc
    by (Some w) asks =
        let answer = asks.answers.1 in
        let asked = answer.asked in
        let same : answer.pairs ≡ step.pairs.items = ap (λ (n : Nack). n.pairs) (one step.datagram.items (nack_of c.receiver.session answer.pairs) (nack_of c.receiver.session step.pairs.items) answer.spells step.spells) in
        record {
          places = asks.due;
          covered = asked.count;
          rising = asks.each.rises;
          narrow = asked.narrow;
          packing = subst (λ (pairs : List Pair). IsPacking (take longest_ask asks.due) pairs asked.count) same asked.packing;
          spelled = step.spells;
        }

asked_now : OneNack → (c : Config) (past : List Entry) (now index moment : ℕ) (old new : WorldState) → AsksTo c old now index new → Wired c past old → Wired c (Asked index moment ∷ past) new
asked_now one c past now index moment old new step was =
    let same = wired_as c past old (record new { wire = old.wire }) step.sender refl was in
    record {
      next = same.next;
      repair = same.repair;
      sent = same.sent;
      kept = same.kept;
      faithful = (old.wire, step.datagram, step.pairs, step.wire, step.index_is, asked_as one c old new now index step, was.faithful);
    }

stand_is : (c : Config) (past : List Entry) (old new : WorldState) → new ≡ old → Wired c past old → Wired c past new
stand_is c past old new is was = wired_as c past old new (ap (λ (s : WorldState). s.sender) is) (ap (λ (s : WorldState). s.wire) is) was

-- an entry of which the wire knows nothing
same_wire : (c : Config) (past : List Entry) (entry : Entry) (s : WorldState) → contents (entry ∷ past) ≡ contents past → repairs_in (entry ∷ past) ≡ repairs_in past → (IsFaithful c past s.wire → IsFaithful c (entry ∷ past) s.wire) →
    Wired c past s → Wired c (entry ∷ past) s
same_wire c past entry s same count keeps was =
    record {
      next = was.next ∙ ap (λ (x : List Content). 65536 + c.first + length x) (sym same);
      repair = was.repair ∙ ap (λ n. (c.repair_first + n) % 65536) (sym count);
      sent = λ q d (k, at, there). was.sent q d (k, at, ap (λ (x : List Content). slice_get x k) (sym same) ∙ there);
      kept = λ q e is. let before = was.kept q e is in ((before.0.0, before.0.1, ap (λ (x : List Content). slice_get x before.0.0) same ∙ before.0.2), before.1);
      faithful = keeps was.faithful;
    }

module _ (any : AnyFeedback) (decided : Decided) where
  -- what reaches an end leaves what was sent
  heard : (c : Config) (past : List Entry) (end : End) (old new : WorldState) (octets : List ℕ) (now : ℕ) (answer : Answer) → HearsAt c end old octets now answer new → new.wire ≡ old.wire → Wired c past old → Wired c past new
  heard c past Receiver old new octets now answer hears wire was = wired_as c past old new hears.sender wire was
  heard c past Sender old new octets now answer hears wire was =
      let marks = any (sending c) old.sender octets hears.heard new.sender hears.hears in
      let next = same_next (sending c) old.sender hears.heard new.sender marks in
      record {
        next = next ∙ was.next;
        repair = same_repair (sending c) old.sender hears.heard new.sender marks ∙ was.repair;
        sent = was.sent;
        kept = λ q e is.
            let found = was_found decided (sending c) old.sender hears.heard new.sender marks q e is in
            let before = was.kept q found.was found.there in
            (subst (λ (y : Content). WasSent c past q y) found.content before.0, omega (arith, before.1, next));
        faithful = subst (λ (w : List Item). IsFaithful c past w) (sym wire) was.faithful;
      }

  module _ (one : OneNack) where
    pub wired : (c : Config) → IsConfig c → (events : List Event) (past : List Entry) (end : WorldState) → Answers c events past end → Wired c past end
    wired c met [] [] end is =
        stand_is c [] (new_stand c) end is (record { next = omega arith; repair = omega (arith, met.repair_first); sent = λ q d (count, at, there). absurd (none-some d there); kept = λ q e none. absurd (none-some e none); faithful = refl })
    wired c met [] (entry ∷ past) end never = absurd never
    wired c met (event ∷ events) [] end never = absurd never
    wired c met (Send content padding ∷ events) (Sent place index sent ∷ past) end (old, before, (same, sends)) =
        sent_now c past place index padding content sent old end same sends (wired c met events past old before)
    wired c met (Send content padding ∷ events) (SendRefused fault ∷ past) end (old, before, (why, is)) =
        same_wire c past (SendRefused fault) end refl refl (λ f. f) (stand_is c past old end is (wired c met events past old before))
    wired c met (Retransmit ∷ events) (Repaired place index ∷ past) end (old, before, step) =
        repaired_now c past place index old end step (wired c met events past old before)
    wired c met (Retransmit ∷ events) (NoRepair ∷ past) end (old, before, (why, is)) =
        same_wire c past NoRepair end refl refl (λ f. f) (stand_is c past old end is (wired c met events past old before))
    wired c met (Ask now ∷ events) (Asked index moment ∷ past) end (old, before, (now_is, step)) =
        asked_now one c past now index moment old end step (wired c met events past old before)
    wired c met (Ask now ∷ events) (NoAsk moment ∷ past) end (old, before, (now_is, why, is)) =
        same_wire c past (NoAsk moment) end refl refl (λ f. f) (stand_is c past old end is (wired c met events past old before))
    wired c met (Deliver index now ∷ events) (Nothing ∷ past) end (old, before, (none, is)) =
        same_wire c past Nothing end refl refl (λ f. f) (stand_is c past old end is (wired c met events past old before))
    wired c met (Deliver index now ∷ events) (Delivered at label moment answer ∷ past) end (old, before, (at_is, now_is, delivers)) =
        same_wire c past (Delivered at label moment answer) end refl refl (λ f. f)
        (heard c past (end_of label) old end delivers.datagram.items now answer delivers.hears delivers.wire (wired c met events past old before))
    wired c met (Play now ∷ events) (Played moment answer ∷ past) end (old, before, (now_is, plays, sender, wire)) =
        same_wire c past (Played moment answer) end refl refl (λ f. f) (wired_as c past old end sender wire (wired c met events past old before))
    wired c met (Inject side datagram now ∷ events) (Injected at moment answer ∷ past) end (old, before, (at_is, now_is, hears, wire)) =
        same_wire c past (Injected at moment answer) end refl refl (λ f. f) (heard c past side old end datagram.items now answer hears wire (wired c met events past old before))
    wired c met (event ∷ events) (entry ∷ past) end (old, before, never) = absurd never

-- what was sent stays so
sent_before : (c : Config) (past : List Entry) (place index : ℕ) (content : Content) (label : Label) (octets : List ℕ) →
    SpellsLabel c past label octets → SpellsLabel c (Sent place index content ∷ past) label octets
sent_before c past place index content (Media p) octets (was, padding, sent, spells) = (was, padding, was_sent_more c past place index p content was sent, spells)
sent_before c past place index content (Repair p) octets spells =
    record { content = spells.content; was_sent = was_sent_more c past place index p content spells.content spells.was_sent; sequence = spells.sequence; spelled = spells.spelled }
sent_before c past place index content (Feedback pairs) octets spells = spells

-- an entry that sent nothing
as_before : (c : Config) (past : List Entry) (entry : Entry) → contents (entry ∷ past) ≡ contents past → (label : Label) (octets : List ℕ) → SpellsLabel c past label octets → SpellsLabel c (entry ∷ past) label octets
as_before c past entry same (Media p) octets (was, padding, (count, at, there), spells) =
    (was, padding, (count, at, ap (λ (x : List Content). slice_get x count) same ∙ there), spells)
as_before c past entry same (Repair p) octets spells =
    record {
      content = spells.content;
      was_sent = (spells.was_sent.0, spells.was_sent.1, ap (λ (x : List Content). slice_get x spells.was_sent.0) same ∙ spells.was_sent.2);
      sequence = spells.sequence;
      spelled = spells.spelled;
    }
as_before c past entry same (Feedback pairs) octets spells = spells

-- the last datagram of a wire, or one before it
last_or : (c : Config) (past : List Entry) (wire rest : List Item) (last item : Item) (i : ℕ) → wire ≡ rest ++ last ∷ [] → slice_get wire i ≡ Some item → SpellsLabel c past last.0 last.1.items →
    (slice_get rest i ≡ Some item → SpellsLabel c past item.0 item.1.items) → SpellsLabel c past item.0 item.1.items
last_or c past wire rest last item i is there now earlier =
    ⊎_elim earlier (λ (same : last ≡ item). subst (λ (y : Item). SpellsLabel c past y.0 y.1.items) same now)
    (get_push rest last item i (ap (λ (w : List Item). slice_get w i) (sym is) ∙ there))

-- a datagram of a faithful wire
pub spelled : (c : Config) (past : List Entry) (wire : List Item) (i : ℕ) (item : Item) → IsFaithful c past wire → slice_get wire i ≡ Some item → SpellsLabel c past item.0 item.1.items
spelled c [] wire i item is there = absurd (none-some item (ap (λ (w : List Item). slice_get w i) (sym is) ∙ there))
spelled c (Sent place index content ∷ past) wire i item (rest, datagram, is, at, sent, before) there =
    last_or c (Sent place index content ∷ past) wire rest (Media place, datagram) item i is there
    (content, sent.padding, (length (contents past), sent.next, get_last (contents past) content), sent.spelled)
    (λ earlier. sent_before c past place index content item.0 item.1.items (spelled c past rest i item before earlier))
spelled c (Repaired place index ∷ past) wire i item (rest, datagram, is, at, sent, before) there =
    last_or c (Repaired place index ∷ past) wire rest (Repair place, datagram) item i is there
    (record { content = sent.content; was_sent = sent.was_sent; sequence = (c.repair_first + repairs_in past) % 65536; spelled = sent.spelled })
    (λ earlier. as_before c past (Repaired place index) refl item.0 item.1.items (spelled c past rest i item before earlier))
spelled c (Asked index now ∷ past) wire i item (rest, datagram, pairs, is, at, asked, before) there =
    last_or c (Asked index now ∷ past) wire rest (Feedback pairs, datagram) item i is there asked.spelled
    (λ earlier. as_before c past (Asked index now) refl item.0 item.1.items (spelled c past rest i item before earlier))
spelled c (SendRefused fault ∷ past) wire i item faithful there = as_before c past (SendRefused fault) refl item.0 item.1.items (spelled c past wire i item faithful there)
spelled c (NoRepair ∷ past) wire i item faithful there = as_before c past NoRepair refl item.0 item.1.items (spelled c past wire i item faithful there)
spelled c (NoAsk now ∷ past) wire i item faithful there = as_before c past (NoAsk now) refl item.0 item.1.items (spelled c past wire i item faithful there)
spelled c (Nothing ∷ past) wire i item faithful there = as_before c past Nothing refl item.0 item.1.items (spelled c past wire i item faithful there)
spelled c (Delivered index label now answer ∷ past) wire i item faithful there = as_before c past (Delivered index label now answer) refl item.0 item.1.items (spelled c past wire i item faithful there)
spelled c (Injected end now answer ∷ past) wire i item faithful there = as_before c past (Injected end now answer) refl item.0 item.1.items (spelled c past wire i item faithful there)
spelled c (Played now answer ∷ past) wire i item faithful there = as_before c past (Played now answer) refl item.0 item.1.items (spelled c past wire i item faithful there)
