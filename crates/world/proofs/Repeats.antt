-- No place is retransmitted more often than is allowed, whatever was injected.
use Rattle.std.proofs.Common.{◌≡◌, ◌≢◌, ℕ, ◌+◌, ◌<◌, ◌≤◌, true, List, [], ◌∷◌, Some, refl, sym, ap, subst, ◌∙◌, ⊎_elim, arith}
use Rattle.std.proofs.lemmas.Bool.{cases_eq, cases_lt}
use Rattle.std.proofs.lemmas.Bool.Decides.{nat_tests}
use Rattle.std.proofs.lemmas.Option.{none-some, same_Some}
use Rattle.rtpwire.specs.declared.content.Content.{Content}
use Rattle.stores.specs.declared.entry.HistoryEntry.{HistoryEntry}
use Rattle.stores.specs.Past.{fresh, repeated}
use Rattle.sender.specs.History.{SenderState, Sends, Repairs}
use Rattle.world.specs.declared.event.Event.{Event}
use Rattle.world.specs.declared.event.Event.TheVariants.{Send, Repair as Retransmit, Ask, Deliver, Play, Inject}
use Rattle.world.specs.declared.event.End.{End}
use Rattle.world.specs.declared.event.End.TheVariants.{Sender, Receiver}
use Rattle.world.specs.declared.event.Answer.{Answer}
use Rattle.world.specs.declared.event.Entry.{Entry}
use Rattle.world.specs.declared.event.Entry.TheVariants.{Sent, SendRefused, Repaired, NoRepair, Asked, NoAsk, Nothing, Delivered, Injected, Played}
use Rattle.world.specs.Config.{Config, sending}
use Rattle.world.specs.Labels.{end_of}
use Rattle.world.specs.Answers.{WorldState, new_stand, HearsAt, Answers}
use Rattle.world.specs.Reading.{repairs_of}
use Rattle.world.proofs.Marked.{AnyFeedback, Decided, was_found, same_next}

-- how often each place was retransmitted, beside the sender
pub record Counted (limit : ℕ) (count : ℕ → ℕ) (sender : SenderState) : Type 0 where
  pub each : (q : ℕ) → count q ≤ limit
  pub kept : (q : ℕ) (e : HistoryEntry) → sender.entries q ≡ Some e → (count q ≡ e.repeats) × (e.marked ≡ true → e.repeats < limit) × (q < sender.next)
  pub unsent : (q : ℕ) → sender.next ≤ q → count q ≡ 0

abbrev CountedBy : Config → List Entry → SenderState → Type 0
CountedBy c past sender = Counted c.repeats (λ q. repairs_of q past) sender

counted_sent : (limit room : ℕ) (count : ℕ → ℕ) (old new : SenderState) (content : Content) → Sends room old content new → Counted limit count old → Counted limit count new
counted_sent limit room count old new content t was =
    record {
      each = was.each;
      kept = λ q e is. ⊎_elim
          (λ (here : q ≡ old.next).
          let same = same_Some (fresh old.next content) e (sym t.sent ∙ (rw here at is)) in
          let none : count q ≡ 0 = was.unsent q (omega arith) in
          (none ∙ ap (λ (x : HistoryEntry). x.repeats) same, (λ m. absurd (grind (arith, ap (λ (x : HistoryEntry). x.marked) same, m))), omega (arith, t.next, here)))
          (λ other. ⊎_elim
          (λ low. absurd (none-some e (sym (t.gone q low) ∙ is)))
          (λ high. let before = was.kept q e (sym (t.others q other high) ∙ is) in (before.0, before.1, omega (arith, t.next, before.2)))
          (cases_lt (q + room) new.next))
          (cases_eq q old.next);
      unsent = λ q h. was.unsent q (omega (arith, t.next));
    }

counted_repaired : (limit place : ℕ) (count count' : ℕ → ℕ) (old new : SenderState) (entry : HistoryEntry) → count' place ≡ count place + 1 → ((q : ℕ) → q ≢ place → count' q ≡ count q) →
    Repairs old place entry new → Counted limit count old → Counted limit count' new
counted_repaired limit place count count' old new entry at other t was =
    let before = was.kept place entry t.was in
    let small = before.1 t.marked in
    record {
      each = λ q. ⊎_elim
          (λ (here : q ≡ place). let e : count' q ≡ count' place = ap count' here in omega (arith, e, at, before.0, small))
          (λ apart. let b = was.each q in let e = other q apart in omega (arith, b, e))
          (cases_eq q place);
      kept = λ q e is. ⊎_elim
          (λ (here : q ≡ place).
          let same = same_Some (repeated entry) e (sym t.counted ∙ (rw here at is)) in
          (ap count' here ∙ at ∙ ap (λ n. n + 1) before.0 ∙ ap (λ (x : HistoryEntry). x.repeats) same, (λ m. absurd (grind (arith, ap (λ (x : HistoryEntry). x.marked) same, m))), omega (arith, t.next, before.2, here)))
          (λ apart. let b = was.kept q e (sym (t.others q apart) ∙ is) in (other q apart ∙ b.0, b.1, omega (arith, t.next, b.2)))
          (cases_eq q place);
      unsent = λ q h. let apart : q ≢ place = omega (arith, t.next, before.2) in other q apart ∙ was.unsent q (omega (arith, t.next));
    }

one_more : (place : ℕ) (past : List Entry) (index : ℕ) → repairs_of place (Repaired place index ∷ past) ≡ repairs_of place past + 1
one_more place past index = grind (arith, nat_tests)

no_more : (q place : ℕ) (past : List Entry) (index : ℕ) → q ≢ place → repairs_of q (Repaired place index ∷ past) ≡ repairs_of q past
no_more q place past index apart = grind (arith, nat_tests)

same_sender : (c : Config) (past : List Entry) (old new : SenderState) → new ≡ old → CountedBy c past old → CountedBy c past new
same_sender c past old new is was = subst (λ (h : SenderState). CountedBy c past h) (sym is) was

sender_of : (old new : WorldState) → new ≡ old → new.sender ≡ old.sender
sender_of old new is = ap (λ (s : WorldState). s.sender) is

module _ (any : AnyFeedback) (decided : Decided) where
  heard : (c : Config) (past : List Entry) (end : End) (old new : WorldState) (octets : List ℕ) (now : ℕ) (answer : Answer) → HearsAt c end old octets now answer new → CountedBy c past old.sender → CountedBy c past new.sender
  heard c past Receiver old new octets now answer hears was = same_sender c past old.sender new.sender hears.sender was
  heard c past Sender old new octets now answer hears was =
      let marks = any (sending c) old.sender octets hears.heard new.sender hears.hears in
      let next = same_next (sending c) old.sender hears.heard new.sender marks in
      record {
        each = was.each;
        kept = λ q e is.
            let found = was_found decided (sending c) old.sender hears.heard new.sender marks q e is in
            let before = was.kept q found.was found.there in (
              before.0 ∙ found.counted,
              (λ m. let s = found.counted in ⊎_elim (λ marked. let b = before.1 marked in omega (arith, b, s)) (λ b. omega (arith, b, s)) (found.allowed m)),
              omega (arith, next, before.2),
            );
        unsent = λ q h. was.unsent q (omega (arith, next));
      }

  pub counted : (c : Config) (events : List Event) (past : List Entry) (end : WorldState) → Answers c events past end → CountedBy c past end.sender
  counted c [] [] end is = same_sender c [] (new_stand c).sender end.sender (sender_of (new_stand c) end is) (record { each = λ q. omega arith; kept = λ q e none. absurd (none-some e none); unsent = λ q h. refl })
  counted c [] (entry ∷ past) end never = absurd never
  counted c (event ∷ events) [] end never = absurd never
  counted c (Send content padding ∷ events) (Sent place index sent ∷ past) end (old, before, (same, step)) =
      let was = counted_sent c.repeats c.history (λ q. repairs_of q past) old.sender end.sender content step.sends.sends (counted c events past old before) in
      record { each = was.each; kept = was.kept; unsent = was.unsent }
  counted c (Send content padding ∷ events) (SendRefused fault ∷ past) end (old, before, (why, is)) =
      let was = same_sender c past old.sender end.sender (sender_of old end is) (counted c events past old before) in
      record { each = was.each; kept = was.kept; unsent = was.unsent }
  counted c (Retransmit ∷ events) (Repaired place index ∷ past) end (old, before, step) =
      counted_repaired c.repeats place (λ q. repairs_of q past) (λ q. repairs_of q (Repaired place index ∷ past)) old.sender end.sender step.repairs.entry
      (one_more place past index) (λ q apart. no_more q place past index apart) step.repairs.repairs (counted c events past old before)
  counted c (Retransmit ∷ events) (NoRepair ∷ past) end (old, before, (why, is)) =
      let was = same_sender c past old.sender end.sender (sender_of old end is) (counted c events past old before) in
      record { each = was.each; kept = was.kept; unsent = was.unsent }
  counted c (Ask now ∷ events) (Asked index moment ∷ past) end (old, before, (now_is, step)) =
      let was = same_sender c past old.sender end.sender step.sender (counted c events past old before) in
      record { each = was.each; kept = was.kept; unsent = was.unsent }
  counted c (Ask now ∷ events) (NoAsk moment ∷ past) end (old, before, (now_is, why, is)) =
      let was = same_sender c past old.sender end.sender (sender_of old end is) (counted c events past old before) in
      record { each = was.each; kept = was.kept; unsent = was.unsent }
  counted c (Deliver index now ∷ events) (Nothing ∷ past) end (old, before, (none, is)) =
      let was = same_sender c past old.sender end.sender (sender_of old end is) (counted c events past old before) in
      record { each = was.each; kept = was.kept; unsent = was.unsent }
  counted c (Deliver index now ∷ events) (Delivered at label moment answer ∷ past) end (old, before, (at_is, now_is, delivers)) =
      let was = heard c past (end_of label) old end delivers.datagram.items now answer delivers.hears (counted c events past old before) in
      record { each = was.each; kept = was.kept; unsent = was.unsent }
  counted c (Play now ∷ events) (Played moment answer ∷ past) end (old, before, (now_is, plays, sender, wire)) =
      let was = same_sender c past old.sender end.sender sender (counted c events past old before) in
      record { each = was.each; kept = was.kept; unsent = was.unsent }
  counted c (Inject side datagram now ∷ events) (Injected at moment answer ∷ past) end (old, before, (at_is, now_is, hears, wire)) =
      let was = heard c past side old end datagram.items now answer hears (counted c events past old before) in
      record { each = was.each; kept = was.kept; unsent = was.unsent }
  counted c (event ∷ events) (entry ∷ past) end (old, before, never) = absurd never
