-- What a receiver learns over places is the session's own SSRC of the retransmissions.
use Rattle.std.proofs.Common.{◌≡◌, ℕ, ◌+◌, List, [], ◌∷◌, take, Option, Some, None, IsSomeAnd, Result, Ok, Err, sym, ap, subst, ◌∙◌, refl, inl, inr}
use Rattle.std.proofs.lemmas.Option.{none-some, same_Some}
use Rattle.places.specs.Place.{number}
use Rattle.rtpwire.specs.declared.content.Content.{Content}
use Rattle.stores.specs.declared.slot.PutFault.TheVariants.{Late, Duplicate}
use Rattle.stores.specs.Asking.{longest_ask}
use Rattle.receiver.specs.declared.answer.Taken.{Taken as Took}
use Rattle.receiver.specs.declared.answer.Played.{Played as Play_answer}
use Rattle.receiver.specs.declared.answer.Played.TheVariants.{Packet, Gap, Wait}
use Rattle.receiver.specs.declared.fault.ReceiveFault.{ReceiveFault}
use Rattle.receiver.specs.declared.fault.ReceiveFault.TheVariants as refused
use Rattle.receiver.specs.declared.stream.Stream.{Stream}
use Rattle.receiver.specs.declared.stream.Stream.TheVariants as streams
use Rattle.receiver.specs.Window.{ReceiverState, Passes, AnswersPlace, StartsAt, PlaysAny}
use Rattle.receiver.specs.Streams.{known_to, learnt_by}
use Rattle.receiver.specs.Heard.{AnswersIn}
use Rattle.receiver.specs.Asks.{Asks}
use Rattle.fbwire.specs.declared.nack.Pair.{Pair}
use Rattle.world.specs.declared.event.End.TheVariants.{Sender, Receiver}
use Rattle.world.specs.declared.event.Label.{Label}
use Rattle.world.specs.declared.event.Label.TheVariants.{Media, Repair, Feedback}
use Rattle.world.specs.declared.event.Answer.{Answer}
use Rattle.world.specs.declared.event.Answer.TheVariants.{Taken, Refused, Marked, FeedbackRefused}
use Rattle.world.specs.declared.event.Entry.{Entry}
use Rattle.world.specs.declared.event.Entry.TheVariants.{Sent, SendRefused, Repaired, NoRepair, Asked, NoAsk, Nothing, Delivered, Injected, Played}
use Rattle.world.specs.Config.{Config}
use Rattle.world.specs.Labels.{place_of}
use Rattle.world.specs.PlaceRun.{PlaceWorld, new_places, repair_in, stream_in, ReceivesLabel, HearsFeedbackOf, HearsPlace, MarksAnything, AsksAnyBy, PlaceRun}

-- what was learnt, if anything was
abbrev pub IsOwn : Config → Option ℕ → Type 0
IsOwn c learnt = (ssrc : ℕ) → learnt ≡ Some ssrc → ssrc ≡ c.receiver.session.repair_ssrc

abbrev pub LearntIs : Config → Option ReceiverState → Type 0
LearntIs c r = IsOwn c (learnt_by r)

-- a stream that would be learnt is the session's
abbrev IsOwnStream : Config → Stream → Type 0
IsOwnStream c streams.Media = Unit {0}
IsOwnStream c streams.Repair = Unit {0}
IsOwnStream c (streams.Candidate ssrc) = ssrc ≡ c.receiver.session.repair_ssrc

own_repair : (c : Config) (source : Option ℕ) → IsOwnStream c (repair_in c.receiver source)
own_repair c None = refl
own_repair c (Some known) = tt

own_stream : (c : Config) (r : Option ReceiverState) (label : Label) → IsOwnStream c (stream_in c.receiver r label)
own_stream c r (Media place) = tt
own_stream c r (Repair place) = own_repair c (known_to c.receiver (learnt_by r))
own_stream c r (Feedback pairs) = tt

own_as : (c : Config) (old new : Option ℕ) → new ≡ old → IsOwn c old → IsOwn c new
own_as c old new is was = subst (λ (o : Option ℕ). IsOwn c o) (sym is) was

own_none : (c : Config) → IsOwn c None
own_none c ssrc is = absurd (none-some ssrc is)

own_some : (c : Config) (own : ℕ) → own ≡ c.receiver.session.repair_ssrc → IsOwn c (Some own)
own_some c own at ssrc is = sym (same_Some own ssrc is) ∙ at

same_receiver : (c : Config) (old new : Option ReceiverState) → new ≡ old → LearntIs c old → LearntIs c new
same_receiver c old new is was = subst (λ (r : Option ReceiverState). LearntIs c r) (sym is) was

module _ (c : Config) (now : ℕ) (content : Content) where
  placed : (place : ℕ) (heard : Result Took ReceiveFault) (old : ReceiverState) (new : Option ReceiverState) → AnswersPlace c.window old place content now heard new → IsOwn c old.learnt → LearntIs c new
  placed place (Ok taken) old None (same, above, free, over, none) was = absurd none
  placed place (Ok taken) old (Some w) (same, above, free, over, taking) was = own_as c old.learnt w.learnt taking.learnt was
  placed place (Err (refused.Put Late)) old new (under, is) was = same_receiver c (Some old) new is was
  placed place (Err (refused.Put Duplicate)) old new (above, held, is) was = same_receiver c (Some old) new is was
  placed place (Err fault) old new never was = absurd never

  placed_in : (stream : Stream) → IsOwnStream c stream → (place : ℕ) (heard : Result Took ReceiveFault) (old : ReceiverState) (new : Option ReceiverState) → AnswersIn c.window stream old place content now heard new → IsOwn c old.learnt → LearntIs c new
  placed_in streams.Media own place heard old new step was = placed place heard old new step was
  placed_in streams.Repair own place heard old new step was = placed place heard old new step was
  placed_in (streams.Candidate ssrc) own place (Ok taken) old new (asked, step) was = placed place (Ok taken) (record old { learnt = Some ssrc }) new step (own_some c ssrc own)
  placed_in (streams.Candidate ssrc) own place (Err refused.Unasked) old new (unasked, is) was = same_receiver c (Some old) new is was
  placed_in (streams.Candidate ssrc) own place (Err fault) old new never was = absurd never

  started : (place : ℕ) (heard : Result Took ReceiveFault) (new : Option ReceiverState) → StartsAt place content heard new → LearntIs c new
  started place (Ok taken) None (at, over, none) = absurd none
  started place (Ok taken) (Some w) (at, over, starting) = own_as c None w.learnt starting.learnt (own_none c)
  started place (Err fault) new never = absurd never

  received : (shift place : ℕ) (stream : Stream) → IsOwnStream c stream → (heard : Result Took ReceiveFault) (old new : Option ReceiverState) → ReceivesLabel c shift stream old place content now heard new → LearntIs c old → LearntIs c new
  received shift place streams.Media own heard None new step was = started (65536 + number place) heard new step
  received shift place streams.Repair own heard None new (is, same) was = same_receiver c None new same was
  received shift place (streams.Candidate ssrc) own heard None new (is, same) was = same_receiver c None new same was
  received shift place stream own heard (Some old) new (inl (apart, is, same)) was = same_receiver c (Some old) new same was
  received shift place stream own heard (Some old) new (inr (at, here, near, step)) was = placed_in stream own at heard old new step was

fed_back : (c : Config) (label : Label) (answer : Answer) (old new : PlaceWorld) → HearsFeedbackOf c old label answer new → LearntIs c old.receiver → LearntIs c new.receiver
fed_back c (Feedback pairs) (Marked marking) old new (marks, is) was = same_receiver c old.receiver new.receiver is was
fed_back c (Feedback pairs) answer old new never was = absurd never
fed_back c label answer old new never was = absurd never

delivered : (c : Config) (past : List Entry) (label : Label) (now : ℕ) (answer : Answer) (old new : PlaceWorld) (place : Option ℕ) → HearsPlace c past old label place now answer new → LearntIs c old.receiver → LearntIs c new.receiver
delivered c past label now answer old new (Some p) step was =
    received c now step.content _ p (stream_in c.receiver old.receiver label) (own_stream c old.receiver label) step.heard old.receiver new.receiver step.receives was
delivered c past label now answer old new None step was = fed_back c label answer old new step was

passed : (c : Config) (old : ReceiverState) (new : Option ReceiverState) → IsSomeAnd new (Passes old) → IsOwn c old.learnt → LearntIs c new
passed c old None none was = absurd none
passed c old (Some w) pass was = own_as c old.learnt w.learnt pass.learnt was

played : (c : Config) (now : ℕ) (answer : Play_answer) (old new : Option ReceiverState) → PlaysAny c.receiver.patience old now answer new → LearntIs c old → LearntIs c new
played c now Wait None new is was = same_receiver c None new is was
played c now (Packet place content) None new never was = absurd never
played c now (Gap place) None new never was = absurd never
played c now Wait (Some old) new (free, impatient, is) was = same_receiver c (Some old) new is was
played c now (Packet place content) (Some old) new (at, held, pass) was = passed c old new pass was
played c now (Gap place) (Some old) new (at, free, cause, pass) was = passed c old new pass was

asked_at : (c : Config) (covered : List ℕ) (now : ℕ) (old : ReceiverState) (new : Option ReceiverState) → IsSomeAnd new (Asks old covered now) → IsOwn c old.learnt → LearntIs c new
asked_at c covered now old None none was = absurd none
asked_at c covered now old (Some w) asks was = own_as c old.learnt w.learnt asks.learnt was

asked : (c : Config) (now : ℕ) (pairs : List Pair) (old new : Option ReceiverState) → AsksAnyBy c.receiver old now pairs new → LearntIs c old → LearntIs c new
asked c now pairs None new never was = absurd never
asked c now pairs (Some old) new step was = asked_at c (take step.asked.count (take longest_ask step.due)) now old new step.asked.asks was

injected : (c : Config) (answer : Answer) (old new : PlaceWorld) → MarksAnything c old answer new → LearntIs c old.receiver → LearntIs c new.receiver
injected c (Marked marking) old new (nacks, (marks, is)) was = same_receiver c old.receiver new.receiver is was
injected c (FeedbackRefused fault) old new (sender, is) was = same_receiver c old.receiver new.receiver is was
injected c (Taken taken) old new never was = absurd never
injected c (Refused fault) old new never was = absurd never

receiver_is : (v w : PlaceWorld) → v ≡ w → v.receiver ≡ w.receiver
receiver_is v w e = ap (λ (x : PlaceWorld). x.receiver) e

pub learnt_is : (c : Config) (past : List Entry) (end : PlaceWorld) → PlaceRun c past end → LearntIs c end.receiver
learnt_is c [] end is = same_receiver c None end.receiver (receiver_is end (new_places c) is) (own_none c)
learnt_is c (Sent place index content ∷ past) end (old, run, (at, fits, index_at, sends, labels, is)) = same_receiver c old.receiver end.receiver is (learnt_is c past old run)
learnt_is c (SendRefused fault ∷ past) end (old, run, (why, is)) = same_receiver c old.receiver end.receiver (receiver_is end old is) (learnt_is c past old run)
learnt_is c (Repaired place index ∷ past) end (old, run, (index_at, repairs, labels, is)) = same_receiver c old.receiver end.receiver is (learnt_is c past old run)
learnt_is c (NoRepair ∷ past) end (old, run, (why, is)) = same_receiver c old.receiver end.receiver (receiver_is end old is) (learnt_is c past old run)
learnt_is c (Asked index now ∷ past) end (old, run, (index_at, sender, (pairs, step, labels))) = asked c now pairs.items old.receiver end.receiver step (learnt_is c past old run)
learnt_is c (NoAsk now ∷ past) end (old, run, (why, is)) = same_receiver c old.receiver end.receiver (receiver_is end old is) (learnt_is c past old run)
learnt_is c (Nothing ∷ past) end (old, run, is) = same_receiver c old.receiver end.receiver (receiver_is end old is) (learnt_is c past old run)
learnt_is c (Delivered index label now answer ∷ past) end (old, run, (at, step, labels)) = delivered c past label now answer old end (place_of label) step (learnt_is c past old run)
learnt_is c (Injected Receiver now answer ∷ past) end (old, run, never) = absurd never
learnt_is c (Injected Sender now answer ∷ past) end (old, run, (step, labels)) = injected c answer old end step (learnt_is c past old run)
learnt_is c (Played now answer ∷ past) end (old, run, (step, sender, labels)) = played c now answer old.receiver end.receiver step (learnt_is c past old run)
