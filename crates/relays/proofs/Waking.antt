-- A receiver of which no place is due asks for nothing.
use Rattle.std.proofs.Common.{◌≡◌, ◌∙◌, ℕ, ◌+◌, ◌&&◌, ◌||◌, ◌==◌, nat_lt, nat_le, [], Option, Some, None, refl, ap, take, arith, if◌then◌else◌}
use Rattle.std.proofs.lemmas.Bool.Decides.{nat_tests}
use Rattle.stores.specs.declared.slot.Slot.{Slot}
use Rattle.stores.specs.declared.slot.Slot.TheVariants.{Held, Missing}
use Rattle.stores.specs.Span.{Span}
use Rattle.stores.specs.ByPlace.{slot_at}
use Rattle.stores.specs.PlaceLists.{Lists}
use Rattle.stores.specs.Asking.{due_places}
use Rattle.stores.specs.Asking.{is_due as is_due_slot, is_long_since}
use Rattle.receiver.specs.Config.{Config}
use Rattle.receiver.specs.Asks.{AsksMost, is_due, looked_at}
use Rattle.receiver.specs.Window.{missed_in, window_at, window_of}

-- a span since a moment, as the stores say it and as the receiver does
long_since : (moment span now : ℕ) → is_long_since moment span now ≡ nat_le (moment + span) now
long_since moment span now = grind (arith, nat_tests)

-- whether a place is due, by its slot and by what that misses
due_either_way : (now delay retry limit : ℕ) (o : Option Slot) → is_due_slot now delay retry limit o ≡ is_due now delay retry limit (missed_in o)
due_either_way now delay retry limit None = refl
due_either_way now delay retry limit (Some (Held content)) = refl
due_either_way now delay retry limit (Some (Missing noticed asks last)) =
    ap (λ b. nat_lt asks limit && b)
    (ap (λ b. if asks == 0 then delay == 0 || b else is_long_since last retry now) (long_since noticed delay now)
    ∙ ap (λ b. if asks == 0 then delay == 0 || nat_le (noticed + delay) now else b) (long_since last retry now))

asks_nothing_at : (c : Config) (learnt cursor : Option ℕ) (s : Span) (now : ℕ)
    → Lists (due_places s now c.delay c.retry c.asks) (λ q. is_due_slot now c.delay c.retry c.asks (slot_at s q)) → due_places s now c.delay c.retry c.asks ≡ []
    → AsksMost c (window_at learnt cursor s) now 256 None (window_at learnt cursor s)
asks_nothing_at c learnt None s now lists none = (refl, refl)
asks_nothing_at c learnt (Some k) s now lists none =
    record {
      due = due_places s now c.delay c.retry c.asks;
      each = record { rises = lists.rises; each = λ q. lists.each q ∙ due_either_way now c.delay c.retry c.asks (slot_at s q) };
      answers = (ap (take (looked_at 256)) none, refl);
    }

pub asks_nothing : (c : Config) (learnt : Option ℕ) (s : Span) (now : ℕ)
    → Lists (due_places s now c.delay c.retry c.asks) (λ q. is_due_slot now c.delay c.retry c.asks (slot_at s q)) → due_places s now c.delay c.retry c.asks ≡ []
    → AsksMost c (window_of learnt s) now 256 None (window_of learnt s)
asks_nothing c learnt s now lists none = asks_nothing_at c learnt s.cursor s now lists none
