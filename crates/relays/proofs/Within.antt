-- A NACK that is written to the front of a slice has no more octets than that.
use Rattle.std.proofs.Common.{◌≡◌, ◌≤◌, ◌<◌, ◌++◌, ℕ, List, length, take, Option, Some, None, Result, Ok, Err, OnErr, refl, sym, ap, subst, ◌∙◌}
use Rattle.std.proofs.lemmas.List.{take-append-le}
use Rattle.rtpwire.specs.declared.fault.TooShort.{TooShort}
use Rattle.stores.specs.Span.{highest_of}
use Rattle.receiver.specs.Asks.{AsksMost, AsksMostInto}
use Rattle.receiver.specs.Receiver.{Receiving, state_of}
use Rattle.endpoint.specs.declared.receive_counts.ReceiveCounts.{ReceiveCounts}
use Rattle.endpoint.specs.Asked.{RemembersAsk, RemembersAskInto}
use Rattle.endpoint.specs.ReceiveCounts.{CountsAsk, CountsAskInto}
use Rattle.relays.specs.ReceiveRelay.{AsksIn, ReceiveSide, StaysBut}

-- an endpoint that is as it was leaves the relay as it was
as_it_was : (old new : ReceiveSide) → StaysBut old new → new.core ≡ old.core → new.counts ≡ old.counts → new.asked ≡ old.asked → new ≡ old
as_it_was old new stays c n a =
    stays
    ∙ ap (λ (it : Receiving). record old { core = it; counts = new.counts; asked = new.asked }) c
    ∙ ap (λ (it : ReceiveCounts). record old { counts = it; asked = new.asked }) n
    ∙ ap (λ (it : List (Option ℕ)). record old { asked = it }) a

pub asks_in : (room most : ℕ) (old : ReceiveSide) (now : ℕ) (answer : Result (Option ℕ) TooShort) (slice part rest : List ℕ) (new : ReceiveSide)
    → length slice ≡ room → length part ≡ room → StaysBut old new
    → AsksMostInto old.core.config (state_of old.core) now most slice answer part (state_of new.core)
    → OnErr answer (new.core ≡ old.core) → (answer ≡ Ok None → new.core ≡ old.core)
    → CountsAskInto part answer old.counts new.counts → RemembersAskInto (highest_of old.core.span) part answer old.asked new.asked
    → AsksIn room most old now answer (part ++ rest) new
asks_in room most old now (Ok (Some len)) slice part rest new whole long stays asks err none counted remembered =
    let within : len ≤ length part = asks.1.within in
    let front : take len part ≡ take len (part ++ rest) = sym (take-append-le len part rest within) in (
      record {
        asks = subst (λ (l : List ℕ). AsksMost old.core.config (state_of old.core) now most (Some (record { items = l })) (state_of new.core)) front asks.0;
        earned = subst (λ (n : ℕ). len ≤ n) long within;
        counted = subst (λ (l : List ℕ). CountsAsk (Some (record { items = l })) old.counts new.counts) front counted;
        asked = subst (λ (l : List ℕ). RemembersAsk (highest_of old.core.span) (Some (record { items = l })) old.asked new.asked) front remembered;
      },
      stays,
    )
asks_in room most old now (Ok None) slice part rest new whole long stays asks err none counted remembered =
    let same : new.core ≡ old.core = none refl in
    (subst (λ (c : Receiving). AsksMost old.core.config (state_of old.core) now most None (state_of c)) same asks.0, as_it_was old new stays same counted remembered)
asks_in room most old now (Err short) slice part rest new whole long stays asks err none counted remembered =
    (record { needed = short.needed; needs = asks.0; beyond = subst (λ (n : ℕ). n < short.needed) whole asks.1 }, as_it_was old new stays err counted remembered)
