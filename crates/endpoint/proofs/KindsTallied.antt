-- The counts of the kinds are those of all that was heard.
use Rattle.std.proofs.Common.{◌≡◌, ℕ, List, [], ◌∷◌, Result, Ok, Err, refl, ap, ◌∙◌}
use Rattle.std.specs.List.{sum_by}
use Rattle.places.specs.declared.nearness.PlaceFault.TheVariants.{Far, PastEnd}
use Rattle.rtpwire.specs.declared.fault.RtpFault.TheVariants as rtp
use Rattle.rtpwire.specs.declared.fault.ContentFault.TheVariants as content
use Rattle.stores.specs.declared.slot.PutFault.TheVariants.{Late, Duplicate}
use Rattle.receiver.specs.declared.fault.ReceiveFault.{ReceiveFault}
use Rattle.receiver.specs.declared.fault.ReceiveFault.TheVariants as refused
use Rattle.receiver.specs.Config.{Config}
use Rattle.endpoint.specs.declared.heard.Heard.{Heard}
use Rattle.endpoint.specs.declared.kind.Kind.{Kind}
use Rattle.endpoint.specs.declared.kind.Kind.TheVariants.{Padding, Unasked, Usual}
use Rattle.endpoint.specs.declared.kind_counts.KindCounts.{KindCounts}
use Rattle.endpoint.specs.declared.probation.Probation.{Probation}
use Rattle.endpoint.specs.Counts.{count_in_64, more}
use Rattle.endpoint.specs.Kinds.{count_kind}
use Rattle.endpoint.specs.AskingRuns.{Asking, Event, RunsOver, Steps, asked, heard, other, restarted_by_call, padding_in, unasked_in, usual_as, usual_else}
use Rattle.endpoint.proofs.Adding.{adds}

-- what the events come to
abbrev pub kinds_of : List Event → KindCounts
kinds_of events =
    record {
      padding = count_in_64 (sum_by padding_in events);
      unasked = count_in_64 (sum_by unasked_in events);
      late = count_in_64 (sum_by (usual_as 35) events);
      duplicate = count_in_64 (sum_by (usual_as 36) events);
      refused = count_in_64 (sum_by usual_else events);
    }

module _ (octets : List ℕ) (before : List Event) where
  -- a refusal that has no count of its own
  rest : (fault : ReceiveFault) → record (kinds_of before) { refused = more (count_in_64 (sum_by usual_else before)) (usual_else (heard octets (Err fault) Usual)) } ≡ record (kinds_of before) { refused = count_in_64 (sum_by usual_else (heard octets (Err fault) Usual ∷ before)) }
  rest fault = ap (λ (n : ℕ). record (kinds_of before) { refused = n }) (adds usual_else (heard octets (Err fault) Usual) before)

  usual_so : (answer : Result Heard ReceiveFault) → count_kind Usual answer (kinds_of before) ≡ kinds_of (heard octets answer Usual ∷ before)
  usual_so (Ok told) = refl
  usual_so (Err (refused.Put Duplicate)) = ap (λ (n : ℕ). record (kinds_of before) { duplicate = n }) (adds (usual_as 36) (heard octets (Err (refused.Put Duplicate)) Usual) before)
  usual_so (Err (refused.Put Late)) = ap (λ (n : ℕ). record (kinds_of before) { late = n }) (adds (usual_as 35) (heard octets (Err (refused.Put Late)) Usual) before)
  usual_so (Err (refused.Place Far)) = refl
  usual_so (Err (refused.Place PastEnd)) = rest (refused.Place PastEnd)
  usual_so (Err (refused.Rtp rtp.Short)) = rest (refused.Rtp rtp.Short)
  usual_so (Err (refused.Rtp rtp.Version)) = rest (refused.Rtp rtp.Version)
  usual_so (Err (refused.Rtp rtp.CsrcList)) = rest (refused.Rtp rtp.CsrcList)
  usual_so (Err (refused.Rtp rtp.Extension)) = rest (refused.Rtp rtp.Extension)
  usual_so (Err (refused.Rtp rtp.Padding)) = rest (refused.Rtp rtp.Padding)
  usual_so (Err (refused.Rtp rtp.NoOsn)) = rest (refused.Rtp rtp.NoOsn)
  usual_so (Err (refused.Content content.TooLong)) = rest (refused.Content content.TooLong)
  usual_so (Err refused.UnknownSource) = rest refused.UnknownSource
  usual_so (Err refused.UnknownType) = rest refused.UnknownType
  usual_so (Err refused.NotStarted) = rest refused.NotStarted
  usual_so (Err refused.Unasked) = rest refused.Unasked

  heard_so : (answer : Result Heard ReceiveFault) (kind : Kind) → count_kind kind answer (kinds_of before) ≡ kinds_of (heard octets answer kind ∷ before)
  heard_so answer Usual = usual_so answer
  heard_so (Ok told) Padding = ap (λ (n : ℕ). record (kinds_of before) { padding = n }) (adds padding_in (heard octets (Ok told) Padding) before)
  heard_so (Err fault) Padding = ap (λ (n : ℕ). record (kinds_of before) { padding = n }) (adds padding_in (heard octets (Err fault) Padding) before)
  heard_so (Ok told) Unasked = ap (λ (n : ℕ). record (kinds_of before) { unasked = n }) (adds unasked_in (heard octets (Ok told) Unasked) before)
  heard_so (Err fault) Unasked = ap (λ (n : ℕ). record (kinds_of before) { unasked = n }) (adds unasked_in (heard octets (Err fault) Unasked) before)

stepped : (p : Probation) (event : Event) (before : List Event) (old new : Asking) → old.kinds ≡ kinds_of before → Steps p event old new → new.kinds ≡ kinds_of (event ∷ before)
stepped p (heard octets answer kind) before old new so steps = steps.kinds ∙ ap (count_kind kind answer) so ∙ heard_so octets before answer kind
stepped p (asked places) before old new so steps = steps.kinds ∙ so
stepped p restarted_by_call before old new so steps = steps.kinds ∙ so
stepped p other before old new so steps = steps.kinds ∙ so

pub kinds_counted : (c : Config) (capacity : ℕ) (p : Probation) (events : List Event) (a : Asking) → RunsOver c capacity p events a → a.kinds ≡ kinds_of events
kinds_counted c capacity p [] a begins = begins.kinds
kinds_counted c capacity p (event ∷ before) a runs = stepped p event before runs.old a (kinds_counted c capacity p before runs.old runs.before) runs.steps
