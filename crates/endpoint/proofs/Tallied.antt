-- The counts of an endpoint are those of all that it answered.
use Rattle.std.proofs.Common.{◌≡◌, ℕ, List, [], ◌∷◌, Option, Some, None, Result, Ok, Err, refl, sym, ap, subst, ◌∙◌, arith}
use Rattle.std.specs.List.{sum_by}
use Rattle.arrayvec.specs.ArrayVec.{ArrayVec}
use Rattle.places.specs.declared.nearness.PlaceFault.TheVariants.{Far, PastEnd}
use Rattle.rtpwire.specs.declared.fault.RtpFault.TheVariants as rtp
use Rattle.rtpwire.specs.declared.fault.ContentFault.TheVariants as content
use Rattle.stores.specs.declared.slot.PutFault.TheVariants.{Late, Duplicate}
use Rattle.fbwire.specs.Nack.{Nack, NackSpells}
use Rattle.receiver.specs.declared.answer.Played.{Played}
use Rattle.receiver.specs.declared.answer.Played.TheVariants.{Packet, Gap, Wait}
use Rattle.receiver.specs.declared.fault.ReceiveFault.{ReceiveFault}
use Rattle.receiver.specs.declared.fault.ReceiveFault.TheVariants as refused
use Rattle.receiver.specs.Config.{Config}
use Rattle.receiver.specs.Window.{ReceiverState}
use Rattle.receiver.specs.Asks.{AsksMost}
use Rattle.endpoint.specs.declared.probation.Probation.{Probation}
use Rattle.endpoint.specs.declared.heard.Heard.{Heard}
use Rattle.endpoint.specs.declared.heard.Heard.TheVariants.{Control, Media, Repair, HeldBack, Restarted}
use Rattle.endpoint.specs.declared.receive_counts.ReceiveCounts.{ReceiveCounts}
use Rattle.endpoint.specs.Counts.{count_in_64, more}
use Rattle.endpoint.specs.ReceiveCounts.{count_heard, count_played, count_ask, NamesMany, CountsAsk}
use Rattle.endpoint.specs.Events.{Event, Endpoint, Steps, RunsOver, heard, played, asked, begun_at, restarted_by_call, unlearnt_by_call, timed}
use Rattle.endpoint.specs.Tally.{tally, media_in, repairs_in, held_in, restarts_in, control_in, refused_as, refused_else, overrun_in, abandoned_in, skipped_in, played_in, gaps_in, asks_in, places_in}
use Rattle.endpoint.proofs.Adding.{pair, adds}

module _ (octets : List ℕ) (now : ℕ) (before : List Event) where
  -- a refusal that has no count of its own
  other : (fault : ReceiveFault) → record (tally before) { refused = more (count_in_64 (sum_by refused_else before)) (refused_else (heard octets now (Err fault))) } ≡ record (tally before) { refused = count_in_64 (sum_by refused_else (heard octets now (Err fault) ∷ before)) }
  other fault = ap (λ (n : ℕ). record (tally before) { refused = n }) (adds refused_else (heard octets now (Err fault)) before)

  refused_so : (fault : ReceiveFault) → count_heard (Err fault) (tally before) ≡ tally (heard octets now (Err fault) ∷ before)
  refused_so (refused.Put Duplicate) = ap (λ (n : ℕ). record (tally before) { duplicate = n }) (adds (refused_as 36) (heard octets now (Err (refused.Put Duplicate))) before)
  refused_so (refused.Put Late) = ap (λ (n : ℕ). record (tally before) { late = n }) (adds (refused_as 35) (heard octets now (Err (refused.Put Late))) before)
  refused_so (refused.Place Far) = ap (λ (n : ℕ). record (tally before) { far = n }) (adds (refused_as 34) (heard octets now (Err (refused.Place Far))) before)
  refused_so (refused.Place PastEnd) = other (refused.Place PastEnd)
  refused_so (refused.Rtp rtp.Short) = other (refused.Rtp rtp.Short)
  refused_so (refused.Rtp rtp.Version) = other (refused.Rtp rtp.Version)
  refused_so (refused.Rtp rtp.CsrcList) = other (refused.Rtp rtp.CsrcList)
  refused_so (refused.Rtp rtp.Extension) = other (refused.Rtp rtp.Extension)
  refused_so (refused.Rtp rtp.Padding) = other (refused.Rtp rtp.Padding)
  refused_so (refused.Rtp rtp.NoOsn) = other (refused.Rtp rtp.NoOsn)
  refused_so (refused.Content content.TooLong) = other (refused.Content content.TooLong)
  refused_so refused.UnknownSource = other refused.UnknownSource
  refused_so refused.UnknownType = other refused.UnknownType
  refused_so refused.NotStarted = other refused.NotStarted
  refused_so refused.Unasked = other refused.Unasked

  heard_so : (answer : Result Heard ReceiveFault) → count_heard answer (tally before) ≡ tally (heard octets now answer ∷ before)
  heard_so (Ok Control) = ap (λ (n : ℕ). record (tally before) { control = n }) (adds control_in (heard octets now (Ok Control)) before)
  heard_so (Ok (Media taken)) =
      ap (λ (x : ℕ × ℕ). record (tally before) { media = x.0; overrun = x.1 })
      (pair (adds media_in (heard octets now (Ok (Media taken))) before) (adds overrun_in (heard octets now (Ok (Media taken))) before))
  heard_so (Ok (Repair taken)) =
      ap (λ (x : ℕ × ℕ). record (tally before) { retransmissions = x.0; overrun = x.1 })
      (pair (adds repairs_in (heard octets now (Ok (Repair taken))) before) (adds overrun_in (heard octets now (Ok (Repair taken))) before))
  heard_so (Ok (HeldBack held)) = ap (λ (n : ℕ). record (tally before) { held_back = n }) (adds held_in (heard octets now (Ok (HeldBack held))) before)
  heard_so (Ok (Restarted restart)) =
      ap (λ (x : ℕ × (ℕ × (ℕ × ℕ))). record (tally before) { restarts = x.0; overrun = x.1.0; abandoned = x.1.1.0; skipped = x.1.1.1 })
      (pair (adds restarts_in (heard octets now (Ok (Restarted restart))) before)
      (pair (adds overrun_in (heard octets now (Ok (Restarted restart))) before)
      (pair (adds abandoned_in (heard octets now (Ok (Restarted restart))) before) (adds skipped_in (heard octets now (Ok (Restarted restart))) before))))
  heard_so (Err fault) = refused_so fault

module _ (now : ℕ) (before : List Event) where
  played_so : (answer : Played) → count_played answer (tally before) ≡ tally (played now answer ∷ before)
  played_so (Packet place content) = ap (λ (n : ℕ). record (tally before) { played = n }) (adds played_in (played now (Packet place content)) before)
  played_so (Gap place) = ap (λ (n : ℕ). record (tally before) { gaps = n }) (adds gaps_in (played now (Gap place)) before)
  played_so Wait = refl

  capped : (count n : ℕ) → more count (count_in_64 n) ≡ more count n
  capped count n = omega arith

  asked_for : (most : ℕ) (datagram : ArrayVec ℕ) (places : ℕ) → count_ask (count_in_64 places) (tally before) ≡ tally (asked now most (Some datagram) places ∷ before)
  asked_for most datagram places =
      ap (λ (x : ℕ × ℕ). record (tally before) { asks = x.0; places_asked = x.1 })
      (pair (adds asks_in (asked now most (Some datagram) places) before)
      (capped _ places ∙ adds places_in (asked now most (Some datagram) places) before))

  -- the NACK of an ask is one that its octets spell
  spelled : (c : Config) (state after : Option ReceiverState) (most : ℕ) (datagram : ArrayVec ℕ) → AsksMost c state now most (Some datagram) after → (nack : Nack) × NackSpells nack datagram.items
  spelled c None after most datagram asks = let never : ◌≡◌ {A = Option (ArrayVec ℕ)} (Some datagram) None = asks.0 in absurd cc
  spelled c (Some old) after most datagram asks = (_, asks.answers.1.spells)

  asked_so : (c : Config) (state after : Option ReceiverState) (most : ℕ) (answer : Option (ArrayVec ℕ)) (places : ℕ) (counts : ReceiveCounts)
      → AsksMost c state now most answer after → NamesMany answer places → CountsAsk answer (tally before) counts → counts ≡ tally (asked now most answer places ∷ before)
  asked_so c state after most None places counts asks named counted = counted
  asked_so c state after most (Some datagram) places counts asks named counted =
      let it : (nack : Nack) × NackSpells nack datagram.items = spelled c state after most datagram asks in
      counted it.0 it.1 ∙ ap (λ (n : ℕ). count_ask (count_in_64 n) (tally before)) (sym (named it.0 it.1)) ∙ asked_for most datagram places

-- one event more
stepped : (p : Probation) (event : Event) (before : List Event) (old new : Endpoint) → old.counts ≡ tally before → Steps p event old new → new.counts ≡ tally (event ∷ before)
stepped p (heard octets now answer) before old new so steps = steps.counts ∙ ap (count_heard answer) so ∙ heard_so octets now before answer
stepped p (played now answer) before old new so steps = steps.counts ∙ ap (count_played answer) so ∙ played_so now before answer
stepped p (asked now most answer places) before old new so steps =
    asked_so now before _ _ _ most answer places new.counts steps.asks steps.named (subst (λ (c : ReceiveCounts). CountsAsk answer c new.counts) so steps.counts)
stepped p (begun_at first) before old new so steps = steps.counts ∙ so
stepped p restarted_by_call before old new so steps = steps.counts ∙ so
stepped p unlearnt_by_call before old new so steps = steps.counts ∙ so
stepped p (timed patience delay retry) before old new so steps = steps.counts ∙ so

pub counted : (c : Config) (capacity : ℕ) (p : Probation) (events : List Event) (e : Endpoint) → RunsOver c capacity p events e → e.counts ≡ tally events
counted c capacity p [] e runs = ap (λ (x : Endpoint). x.counts) runs
counted c capacity p (event ∷ before) e runs = stepped p event before runs.old e (counted c capacity p before runs.old runs.before) runs.steps
