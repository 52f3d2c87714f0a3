-- Behind a NACK the latency may be told: the NACK is the front of what leaves then, as it was written.
use Rattle.std.proofs.Common.{◌≡◌, ◌≤◌, ◌++◌, inl, inr, ℕ, ◌-◌, ◌^◌, min, Bool, true, false, Option, List, length, take, drop, Some, refl, sym, ap, subst, ◌∙◌, ◌+◌, append_assoc}
use Rattle.std.proofs.lemmas.List.{take_at, length-append, length-take-le}
use Rattle.std.specs.declared.net.socket_addr.SocketAddr.{SocketAddr}
use Rattle.stores.specs.Span.{highest_of}
use Rattle.receiver.specs.Asks.{AsksMost}
use Rattle.receiver.specs.Config.{Config}
use Rattle.receiver.specs.Receiver.{Receiving, state_of}
use Rattle.endpoint.specs.Asked.{RemembersAsk}
use Rattle.endpoint.specs.ReceiveCounts.{CountsAsk}
use Rattle.endpoint.specs.Measuring.{meter_asked}
use Rattle.timing.specs.NackRoom.{room_in}
use Rattle.relays.specs.declared.latency_report.LatencyReport.{LatencyReport}
use Rattle.relays.specs.declared.latency_reports.LatencyReports.{LatencyReports}
use Rattle.relays.specs.declared.outside.Side.TheVariants.{Far}
use Rattle.relays.specs.Feedback.{after_nack, leaves_twice}
use Rattle.relays.specs.LatencyReport.{report_octets}
use Rattle.relays.specs.LatencyReports.{IsBehind, IsWritten, is_told_behind, reports_after}
use Rattle.relays.specs.ReceiveRelay.{AsksFar, AsksOf, AsksWithin, ReceiveSide, copy_for, report_of}

-- the front stays as it was written
front_stays : (is_told : Bool) (r : LatencyReport) (nack len : ℕ) (before after : List ℕ) → nack ≤ length before → IsWritten is_told r nack len before after → take nack before ≡ take nack after
front_stays false r nack len before after within written = ap (λ (l : List ℕ). take nack l) (sym written.1)
front_stays true r nack len before after within written =
    let front = take nack before in
    let rest = drop (nack + 16) before in
    let whole : after ≡ front ++ (report_octets r ++ rest) = written.1 ∙ append_assoc front (report_octets r) rest in
    sym (ap (λ (l : List ℕ). take nack l) whole ∙ take_at front (report_octets r ++ rest) nack (length-take-le nack before within))

-- what leaves is that, and the report
is_behind : (is_told : Bool) (r : LatencyReport) (nack len : ℕ) (before after : List ℕ) → nack ≤ length before → IsWritten is_told r nack len before after → IsBehind is_told r nack len (take len after) after
is_behind false r nack len before after within written = written.0
is_behind true r nack len before after within written =
    let front = take nack before in
    let both = front ++ report_octets r in
    let long : length both ≡ nack + 16 = length-append front (report_octets r) ∙ ap (λ (n : ℕ). n + 16) (length-take-le nack before within) in
    let first : take len after ≡ both =
    ap (λ (n : ℕ). take n after) written.0 ∙ ap (λ (l : List ℕ). take (nack + 16) l) written.1 ∙ take_at both (drop (nack + 16) before) (nack + 16) long in
    (written.0, first ∙ ap (λ (l : List ℕ). l ++ report_octets r) (front_stays true r nack len before after within written))

-- the endpoint wrote the same, whatever stands behind it
asks_of : (room most : ℕ) (old mid : ReceiveSide) (now nack : ℕ) (before after : List ℕ) (rest : ReceiveSide)
    → rest.core ≡ mid.core → rest.counts ≡ mid.counts → rest.asked ≡ mid.asked → take nack before ≡ take nack after
    → AsksOf room most old now nack before mid → AsksOf room most old now nack after rest
asks_of room most old mid now nack before after rest c n a same asks =
    record {
      asks = subst (λ (it : Receiving). AsksMost old.core.config (state_of old.core) now most (Some (record { items = take nack after })) (state_of it)) (sym c)
          (subst (λ (l : List ℕ). AsksMost old.core.config (state_of old.core) now most (Some (record { items = l })) (state_of mid.core)) same asks.asks);
      earned = asks.earned;
      counted = subst (λ it. CountsAsk (Some (record { items = take nack after })) old.counts it) (sym n)
          (subst (λ (l : List ℕ). CountsAsk (Some (record { items = l })) old.counts mid.counts) same asks.counted);
      asked = subst (λ it. RemembersAsk (highest_of old.core.span) (Some (record { items = take nack after })) old.asked it) (sym a)
          (subst (λ (l : List ℕ). RemembersAsk (highest_of old.core.span) (Some (record { items = l })) old.asked mid.asked) same asks.asked);
    }

asks_within : (room : ℕ) (old mid : ReceiveSide) (now nack : ℕ) (before after : List ℕ) (rest : ReceiveSide)
    → rest.core ≡ mid.core → rest.counts ≡ mid.counts → rest.asked ≡ mid.asked → take nack before ≡ take nack after
    → AsksWithin room old now nack before mid → AsksWithin room old now nack after rest
asks_within room old mid now nack before after rest c n a same (inl asks) = inl (asks_of room _ old mid now nack before after rest c n a same asks)
asks_within room old mid now nack before after rest c n a same (inr asks) = inr (asks.0, asks_of room _ old mid now nack before after rest c n a same asks.1)

pub asks_far : (old mid new : ReceiveSide) (now room nack len : ℕ) (at : SocketAddr) (before after : List ℕ)
    → room ≡ room_in old.budget → mid.reports ≡ old.reports → mid.core.config ≡ old.core.config
    → AsksWithin room old now nack before mid → nack ≤ length before
    → IsWritten (is_told_behind mid.reports nack room now) (report_of mid) nack len before after
    → len ≤ room → at ≡ old.far.at
    → new ≡ record old { core = mid.core; counts = mid.counts; asked = mid.asked; meter = meter_asked mid.core.span (take len after) now old.meter; copy = copy_for (take len after) (leaves_twice len old.budget); budget = after_nack len old.budget; reports = reports_after (is_told_behind mid.reports nack room now) now mid.reports }
    → AsksFar old now (record { side = Far; to = at; len = len }) after new
asks_far old mid new now room nack len at before after whole kept same asks within written earned goes is =
    let is_told = is_told_behind mid.reports nack room now in
    let told : is_told ≡ is_told_behind old.reports nack (room_in old.budget) now =
    ap (λ (r : Option LatencyReports). is_told_behind r nack room now) kept ∙ ap (λ (n : ℕ). is_told_behind old.reports nack n now) whole in
    let made : ReceiveSide =
    record old { core = mid.core; counts = mid.counts; asked = mid.asked; meter = meter_asked mid.core.span (take len after) now old.meter; copy = copy_for (take len after) (leaves_twice len old.budget); budget = after_nack len old.budget; reports = reports_after is_told now mid.reports } in
    subst (λ (n : ReceiveSide). AsksFar old now (record { side = Far; to = at; len = len }) after n) (sym is) (
    record {
      nack = nack;
      asks = subst (λ (n : ℕ). AsksWithin n old now nack after made) whole (asks_within room old mid now nack before after made refl refl refl (front_stays is_told (report_of mid) nack len before after within written) asks);
      is_told = is_told;
      tells = told;
      behind = subst (λ (c : Config). IsBehind is_told (record { ssrc = c.session.receiver_ssrc; latency = min c.patience (2 ^ 32 - 1) }) nack len (take len after) after) same
          (is_behind is_told (report_of mid) nack len before after within written);
      config = same;
      earned = subst (λ (n : ℕ). len ≤ n) whole earned;
      goes = record { side_is = refl; to_is = goes };
      rest = ap (λ (r : Option LatencyReports). record old { core = mid.core; counts = mid.counts; asked = mid.asked; meter = meter_asked mid.core.span (take len after) now old.meter; copy = copy_for (take len after) (leaves_twice len old.budget); budget = after_nack len old.budget; reports = reports_after is_told now r }) kept;
    }
    )
