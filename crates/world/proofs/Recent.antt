-- What is retransmitted was sent lately.
use Rattle.std.proofs.Common.{◌≡◌, ℕ, ◌+◌, ◌<◌, ◌≤◌, List, [], ◌∷◌, ◌++◌, length, sym, subst, ◌∙◌, ⊎_elim, arith}
use Rattle.std.proofs.lemmas.Bool.{cases_lt}
use Rattle.std.proofs.lemmas.Option.{none-some, slice_get_past}
use Rattle.rtpwire.specs.declared.content.Content.{Content}
use Rattle.world.specs.declared.event.Entry.{Entry}
use Rattle.world.specs.declared.event.Entry.TheVariants.{Sent, SendRefused, Repaired, NoRepair, Asked, NoAsk, Nothing, Delivered, Injected, Played}
use Rattle.world.specs.Config.{Config}
use Rattle.world.specs.Answers.{Item}
use Rattle.world.specs.Reading.{contents, WasSent}
use Rattle.world.specs.Wire.{IsFaithful}

-- a beginning of a log has a beginning of its wire
earlier : (c : Config) (later before : List Entry) (wire : List Item) → IsFaithful c (later ++ before) wire → (w : List Item) × IsFaithful c before w
earlier c [] before wire is = (wire, is)
earlier c (Sent place index content ∷ later) before wire (rest, datagram, is, at, sent, more) = earlier c later before rest more
earlier c (Repaired place index ∷ later) before wire (rest, datagram, is, at, sent, more) = earlier c later before rest more
earlier c (Asked index now ∷ later) before wire (rest, datagram, pairs, is, at, sent, more) = earlier c later before rest more
earlier c (SendRefused fault ∷ later) before wire is = earlier c later before wire is
earlier c (NoRepair ∷ later) before wire is = earlier c later before wire is
earlier c (NoAsk now ∷ later) before wire is = earlier c later before wire is
earlier c (Nothing ∷ later) before wire is = earlier c later before wire is
earlier c (Delivered index label now answer ∷ later) before wire is = earlier c later before wire is
earlier c (Injected end now answer ∷ later) before wire is = earlier c later before wire is
earlier c (Played now answer ∷ later) before wire is = earlier c later before wire is

-- a place that was sent lies below the next one
below : (c : Config) (past : List Entry) (place : ℕ) (content : Content) → WasSent c past place content → place < 65536 + c.first + length (contents past)
below c past place content (count, at, there) =
    ⊎_elim
    (λ (low : count < length (contents past)). omega (arith, at, low))
    (λ high. absurd (none-some content (sym (slice_get_past (contents past) count high) ∙ there)))
    (cases_lt count (length (contents past)))

pub recent : (c : Config) (past later before : List Entry) (place index : ℕ) (wire : List Item) → past ≡ later ++ Repaired place index ∷ before → IsFaithful c past wire →
    (place < 65536 + c.first + length (contents before)) × (65536 + c.first + length (contents before) ≤ place + c.history)
recent c past later before place index wire is faithful = by (earlier c later (Repaired place index ∷ before) wire (subst (λ (x : List Entry). IsFaithful c x wire) is faithful))
  where
    by : (w : List Item) × IsFaithful c (Repaired place index ∷ before) w → (place < 65536 + c.first + length (contents before)) × (65536 + c.first + length (contents before) ≤ place + c.history)
    by (w, (rest, datagram, end, at, repaired, more)) = (below c before place repaired.content repaired.was_sent, repaired.kept)
