-- Whatever the octets are: the content that they spell is taken, or it is refused and nothing changes.
use Rattle.std.proofs.Common.{◌≡◌, ℕ, List, Option, Some, None, Result, Ok, Err, refl, sym, subst, inl, inr}
use Rattle.stores.specs.declared.slot.PutFault.TheVariants.{Late, Duplicate}
use Rattle.rtpwire.specs.declared.content.Content.{Content}
use Rattle.rtpwire.specs.declared.fault.RtpFault.{RtpFault}
use Rattle.rtpwire.specs.declared.fault.RtpFault.TheVariants.{NoOsn}
use Rattle.rtpwire.specs.declared.fault.ContentFault.TheVariants.{TooLong}
use Rattle.rtpwire.specs.Rtp.{RtpPacket, RtpSpells}
use Rattle.rtpwire.specs.Content.{packet_of}
use Rattle.receiver.specs.declared.answer.Taken.{Taken}
use Rattle.receiver.specs.declared.fault.ReceiveFault.{ReceiveFault}
use Rattle.receiver.specs.declared.fault.ReceiveFault.TheVariants as refused
use Rattle.receiver.specs.declared.stream.Stream.{Stream}
use Rattle.receiver.specs.declared.stream.Stream.TheVariants.{Media, Repair, Candidate}
use Rattle.receiver.specs.Config.{Config}
use Rattle.receiver.specs.Window.{ReceiverState, AnswersPlace}
use Rattle.receiver.specs.Streams.{stream_of, source_of}
use Rattle.receiver.specs.Heard.{AnswersCandidate, AnswersIn, TakesNumber, Carries, HearsStream, HearsSaid, ReadsPacket, Hears, TakesOrRefuses}

-- a content that is refused at its place leaves the window as it was
unchanged : (room : ℕ) (old : ReceiverState) (place : ℕ) (content : Content) (now : ℕ) (fault : ReceiveFault) (new : Option ReceiverState) →
    AnswersPlace room old place content now (Err fault) new → new ≡ Some old
unchanged room old place content now (refused.Put Late) new (under, same) = same
unchanged room old place content now (refused.Put Duplicate) new (above, held, same) = same
unchanged room old place content now fault new never = absurd never

module _ (room : ℕ) (c : Config) (old : Option ReceiverState) (octets : List ℕ) (now : ℕ) where
  refuses : (answer : Result Taken ReceiveFault) (new : Option ReceiverState) (fault : ReceiveFault) → answer ≡ Err fault → new ≡ old → TakesOrRefuses room c old octets now answer new
  refuses answer new fault is same = subst (λ (r : Result Taken ReceiveFault). TakesOrRefuses room c old octets now r new) (sym is) same

  refused_candidate : (ssrc : ℕ) (w : ReceiverState) (place : ℕ) (content : Content) (fault : ReceiveFault) (new : Option ReceiverState) → AnswersCandidate ssrc room w place content now (Err fault) new → new ≡ Some w
  refused_candidate ssrc w place content refused.Unasked new (unasked, same) = same
  refused_candidate ssrc w place content fault new never = absurd never

  refused_in : (stream : Stream) (w : ReceiverState) (place : ℕ) (content : Content) (fault : ReceiveFault) (new : Option ReceiverState) → AnswersIn room stream w place content now (Err fault) new → new ≡ Some w
  refused_in Media w place content fault new step = unchanged room w place content now fault new step
  refused_in Repair w place content fault new step = unchanged room w place content now fault new step
  refused_in (Candidate ssrc) w place content fault new step = refused_candidate ssrc w place content fault new step

  refused_number : (stream : Stream) (before : Option ReceiverState) (seq : ℕ) (content : Content) (fault : ReceiveFault) (new : Option ReceiverState) → TakesNumber room stream before seq content now (Err fault) new → new ≡ before
  refused_number Media None seq content fault new never = absurd never
  refused_number Repair None seq content fault new (is, same) = same
  refused_number (Candidate ssrc) None seq content fault new (is, same) = same
  refused_number stream (Some w) seq content fault new (inl (far, is, same)) = same
  refused_number stream (Some w) seq content fault new (inr (inl (past_end, is, same))) = same
  refused_number stream (Some w) seq content fault new (inr (inr (place, near, fits, step))) = refused_in stream w place content fault new step

  number : (answer : Result Taken ReceiveFault) (new : Option ReceiverState) (p : RtpPacket) → RtpSpells p octets → (stream : Stream) → stream_of c.session (source_of c old) p ≡ Ok stream →
      (seq : ℕ) (carried : RtpPacket) (content : Content) → Carries stream p seq carried →
      packet_of content carried.padding carried.sequence carried.payload_type carried.ssrc ≡ carried →
      TakesNumber room stream old seq content now answer new → TakesOrRefuses room c old octets now answer new
  number (Ok taken) new p spells stream is seq carried content carries held step =
      record {
        packet = p;
        spelled = spells;
        stream = stream;
        is_stream = is;
        seq = seq;
        content = content;
        carried = carried;
        carries = carries;
        held = held;
        takes = step;
      }
  number (Err fault) new p spells stream is seq carried content carries held step = refused_number stream old seq content fault new step

  module _ (answer : Result Taken ReceiveFault) (new : Option ReceiverState) where
    stream : (p : RtpPacket) → RtpSpells p octets → (x : Result Stream ReceiveFault) → stream_of c.session (source_of c old) p ≡ x → HearsStream room old p now x answer new → TakesOrRefuses room c old octets now answer new
    stream p says (Ok by) is (inl (short, why, same)) = refuses answer new (refused.Rtp NoOsn) why same
    stream p says (Ok by) is (inr (seq, carried, carries, inl (long, why, same))) = refuses answer new (refused.Content TooLong) why same
    stream p says (Ok by) is (inr (seq, carried, carries, inr (short, content, held, takes))) = number answer new p says by is seq carried content carries held takes
    stream p says (Err fault) is (why, same) = refuses answer new fault why same

    packet : (x : Result RtpPacket RtpFault) → ReadsPacket octets x → HearsSaid room c old x now answer new → TakesOrRefuses room c old octets now answer new
    packet (Ok p) says heard = stream p says (stream_of c.session (source_of c old) p) refl heard
    packet (Err fault) says (why, same) = refuses answer new (refused.Rtp fault) why same

    pub whichever : Hears room c old octets now answer new → TakesOrRefuses room c old octets now answer new
    whichever hears = packet hears.said hears.says hears.heard
