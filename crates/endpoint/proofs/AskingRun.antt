-- Over all its calls an endpoint that knows what it asked for remembers the last place of each cell that it named.
use Rattle.std.proofs.Common.{◌≡◌, ℕ, ◌%◌, ◌<◌, true, false, List, [], ◌∷◌, length, Option, Some, None, Result, Ok, Err, sym, ap, subst, ◌∙◌}
use Rattle.arrayvec.specs.ArrayVec.{ArrayVec}
use Rattle.fbwire.specs.Nack.{Nack, NackSpells}
use Rattle.places.specs.Among.{is_among}
use Rattle.stores.specs.Span.{highest_of}
use Rattle.receiver.specs.Asks.{AsksMost}
use Rattle.receiver.specs.Config.{Config}
use Rattle.receiver.specs.Window.{ReceiverState}
use Rattle.receiver.specs.declared.fault.ReceiveFault.{ReceiveFault}
use Rattle.endpoint.specs.declared.heard.Heard.{Heard}
use Rattle.endpoint.specs.declared.heard.Heard.TheVariants.{Control, Media, Repair, HeldBack, Restarted}
use Rattle.endpoint.specs.declared.kind.Kind.{Kind}
use Rattle.endpoint.specs.declared.probation.Probation.{Probation}
use Rattle.endpoint.specs.Asked.{RemembersAsk, is_place, kept_after, none_asked, remembers, with_places}
use Rattle.endpoint.specs.AskingRuns.{Asking, Event, NamesPlaces, RunsOver, Steps, asked, first_with, heard, in_turn, named, other, restarted_by_call}
use Rattle.endpoint.proofs.Remembered.{Has, all_more, is_first, known, never_first, nothing}

module _ (count : ℕ) (some : 0 < count) where
  same_cells : (cells cells' : List (Option ℕ)) (places : List ℕ) → cells' ≡ cells → Has count cells places → Has count cells' places
  same_cells cells cells' places is has = subst (λ (xs : List (Option ℕ)). Has count xs places) (sym is) has

  none_left : (cells cells' : List (Option ℕ)) → cells' ≡ none_asked (length cells) → length cells ≡ count → Has count cells' []
  none_left cells cells' is long = subst (λ (xs : List (Option ℕ)). Has count xs []) (sym (is ∙ ap none_asked long)) (nothing count some)

  heard_so : (octets : List ℕ) (answer : Result Heard ReceiveFault) (kind : Kind) (before : List Event) (cells cells' : List (Option ℕ)) → cells' ≡ kept_after answer cells → Has count cells (named before) → Has count cells' (named (heard octets answer kind ∷ before))
  heard_so octets (Ok (Restarted restart)) kind before cells cells' is has = none_left cells cells' is has.long
  heard_so octets (Ok Control) kind before cells cells' is has = same_cells cells cells' (named before) is has
  heard_so octets (Ok (Media taken)) kind before cells cells' is has = same_cells cells cells' (named before) is has
  heard_so octets (Ok (Repair taken)) kind before cells cells' is has = same_cells cells cells' (named before) is has
  heard_so octets (Ok (HeldBack held)) kind before cells cells' is has = same_cells cells cells' (named before) is has
  heard_so octets (Err fault) kind before cells cells' is has = same_cells cells cells' (named before) is has

  -- the NACK of an ask is one that its octets spell
  spelled : (c : Config) (state after : Option ReceiverState) (now most : ℕ) (datagram : ArrayVec ℕ) → AsksMost c state now most (Some datagram) after → (nack : Nack) × NackSpells nack datagram.items
  spelled c None after now most datagram asks = let never : ◌≡◌ {A = Option (ArrayVec ℕ)} (Some datagram) None = asks.0 in absurd cc
  spelled c (Some old) after now most datagram asks = (_, asks.answers.1.spells)

  asked_so : (c : Config) (state after : Option ReceiverState) (now most : ℕ) (highest : Option ℕ) (answer : Option (ArrayVec ℕ)) (places : List ℕ) (before : List ℕ) (cells cells' : List (Option ℕ))
      → AsksMost c state now most answer after → NamesPlaces highest answer places → RemembersAsk highest answer cells cells' → Has count cells before → Has count cells' (in_turn places before)
  asked_so c state after now most highest None places before cells cells' asks names is has =
      subst (λ (ps : List ℕ). Has count cells' (in_turn ps before)) (sym names) (same_cells cells cells' before is has)
  asked_so c state after now most None (Some datagram) places before cells cells' asks names is has =
      subst (λ (ps : List ℕ). Has count cells' (in_turn ps before)) (sym names) (same_cells cells cells' before is has)
  asked_so c state after now most (Some h) (Some datagram) places before cells cells' asks names is has =
      let it : (nack : Nack) × NackSpells nack datagram.items = spelled c state after now most datagram asks in
      let all : cells' ≡ with_places cells places = is it.0 it.1 ∙ ap (with_places cells) (sym (names it.0 it.1)) in
      subst (λ (xs : List (Option ℕ)). Has count xs (in_turn places before)) (sym all) (all_more count some cells before has places)

  stepped : (p : Probation) (event : Event) (before : List Event) (old new : Asking) → Has count old.cells (named before) → Steps p event old new → Has count new.cells (named (event ∷ before))
  stepped p (heard octets answer kind) before old new has steps = heard_so octets answer kind before old.cells new.cells steps.cells has
  stepped p (asked places) before old new has steps =
      asked_so old.ends.core.config _ _ steps.now steps.most (highest_of old.ends.core.span) steps.answer places (named before) old.cells new.cells steps.asks steps.named steps.cells has
  stepped p restarted_by_call before old new has steps = none_left old.cells new.cells steps.cells has.long
  stepped p other before old new has steps = same_cells old.cells new.cells (named before) steps.cells has

  pub has_named : (c : Config) (p : Probation) (events : List Event) (a : Asking) → RunsOver c count p events a → Has count a.cells (named events)
  has_named c p [] a begins = same_cells (none_asked count) a.cells [] begins.cells (nothing count some)
  has_named c p (event ∷ before) a runs = stepped p event before runs.old a (has_named c p before runs.old runs.before) runs.steps

  module _ (c : Config) (p : Probation) (events : List Event) (a : Asking) (runs : RunsOver c count p events a) where
    pub knows : (q : ℕ) → remembers a.cells q ≡ is_place (first_with count (q % count) (named events)) q
    knows = known count some a.cells (named events) (has_named c p events a runs)

    pub forgets : (q : ℕ) → is_among (named events) q ≡ false → remembers a.cells q ≡ false
    forgets q not = knows q ∙ never_first count (q % count) (named events) q not

    pub keeps : (q : ℕ) → first_with count (q % count) (named events) ≡ Some q → remembers a.cells q ≡ true
    keeps q first = knows q ∙ ap (λ o. is_place o q) first ∙ is_first q
