-- The counts of a sending endpoint are those of all that it answered.
use Rattle.std.proofs.Common.{◌≡◌, ℕ, List, [], ◌∷◌, Option, Some, None, Result, Ok, Err, ap, subst, ◌∙◌}
use Rattle.rtpwire.specs.declared.content.Content.{Content}
use Rattle.rtpwire.specs.declared.fault.TooShort.{TooShort}
use Rattle.fbwire.specs.declared.fault.FeedbackFault.{FeedbackFault}
use Rattle.sender.specs.declared.fault.SendFault.{SendFault}
use Rattle.endpoint.specs.declared.told.Told.{Told}
use Rattle.endpoint.specs.declared.told.Told.TheVariants.{Media, Reports, Feedback}
use Rattle.endpoint.specs.declared.send_counts.SendCounts.{SendCounts}
use Rattle.endpoint.specs.SendCounts.{count_told}
use Rattle.endpoint.specs.Sending.{CountsSent, CountsRepaired}
use Rattle.endpoint.specs.SendTally.{Event, sent, told, repaired, marked_last, Steps, RunsOver, tally, sent_in, octets_in, repairs_in, nacks_in, others_in, numbers_in, unknown_in, exhausted_in, media_in, reports_in, refused_in}
use Rattle.endpoint.proofs.Adding.{pair, adds}

module _ (before : List Event) where
  told_so : (answer : Result Told FeedbackFault) → count_told answer (tally before) ≡ tally (told answer ∷ before)
  told_so (Ok Media) = ap (λ (n : ℕ). record (tally before) { media = n }) (adds media_in (told (Ok Media)) before)
  told_so (Ok Reports) = ap (λ (n : ℕ). record (tally before) { reports = n }) (adds reports_in (told (Ok Reports)) before)
  told_so (Ok (Feedback shared)) =
      let event : Event = told (Ok (Feedback shared)) in
      ap (λ (x : ℕ × (ℕ × (ℕ × (ℕ × ℕ)))). record (tally before) { nacks = x.0; others = x.1.0; numbers = x.1.1.0; unknown = x.1.1.1.0; exhausted = x.1.1.1.1 })
      (pair (adds nacks_in event before) (pair (adds others_in event before) (pair (adds numbers_in event before) (pair (adds unknown_in event before) (adds exhausted_in event before)))))
  told_so (Err fault) = ap (λ (n : ℕ). record (tally before) { refused = n }) (adds refused_in (told (Err fault)) before)

  sent_so : (content : Content) (answer : Result (Result (ℕ × ℕ) SendFault) TooShort) (new : SendCounts) → CountsSent content answer (tally before) new → new ≡ tally (sent content answer ∷ before)
  sent_so content (Ok (Ok packet)) new steps =
      steps
      ∙ ap (λ (x : ℕ × ℕ). record (tally before) { sent = x.0; octets = x.1 })
      (pair (adds sent_in (sent content (Ok (Ok packet))) before) (adds octets_in (sent content (Ok (Ok packet))) before))
  sent_so content (Ok (Err fault)) new steps = steps
  sent_so content (Err short) new steps = steps

  repaired_so : (answer : Result (Option (ℕ × ℕ)) TooShort) (new : SendCounts) → CountsRepaired answer (tally before) new → new ≡ tally (repaired answer ∷ before)
  repaired_so (Ok (Some packet)) new steps = steps ∙ ap (λ (n : ℕ). record (tally before) { retransmissions = n }) (adds repairs_in (repaired (Ok (Some packet))) before)
  repaired_so (Ok None) new steps = steps
  repaired_so (Err short) new steps = steps

-- one event more
stepped : (event : Event) (before : List Event) (old new : SendCounts) → old ≡ tally before → Steps event old new → new ≡ tally (event ∷ before)
stepped (sent content answer) before old new so steps = sent_so before content answer new (subst (λ (c : SendCounts). CountsSent content answer c new) so steps)
stepped (told answer) before old new so steps = steps ∙ ap (count_told answer) so ∙ told_so before answer
stepped (repaired answer) before old new so steps = repaired_so before answer new (subst (λ (c : SendCounts). CountsRepaired answer c new) so steps)
stepped marked_last before old new so steps = steps ∙ so

pub counted : (events : List Event) (counts : SendCounts) → RunsOver events counts → counts ≡ tally events
counted [] counts runs = runs
counted (event ∷ before) counts runs = stepped event before runs.old counts (counted before runs.old runs.before) runs.steps
