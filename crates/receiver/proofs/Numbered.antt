-- What was done with what a datagram carries, as what the receiver answers to the datagram.
use Rattle.std.proofs.Common.{◌≡◌, ℕ, true, false, true≢false, List, Option, Some, None, Result, Ok, Err, refl, sym, ap, subst, ◌∙◌, inl, inr}
use Rattle.std.specs.Prelude.{IsErrAnd}
use Rattle.rtpwire.specs.declared.content.Content.{Content}
use Rattle.rtpwire.specs.declared.fault.ContentFault.{ContentFault}
use Rattle.rtpwire.specs.declared.fault.ContentFault.TheVariants.{TooLong}
use Rattle.rtpwire.specs.declared.fault.RtpFault.{RtpFault}
use Rattle.rtpwire.specs.declared.fault.RtpFault.TheVariants.{NoOsn}
use Rattle.rtpwire.specs.Rtp.{RtpPacket, RtpSpells}
use Rattle.rtpwire.specs.Content.{IsTooLong, packet_of}
use Rattle.stores.specs.Span.{Span}
use Rattle.receiver.specs.declared.answer.Taken.{Taken}
use Rattle.receiver.specs.declared.fault.ReceiveFault.{ReceiveFault}
use Rattle.receiver.specs.declared.fault.ReceiveFault.TheVariants as refused
use Rattle.receiver.specs.declared.stream.Stream.{Stream}
use Rattle.receiver.specs.Config.{Config}
use Rattle.receiver.specs.Window.{ReceiverState, window_at, window_of}
use Rattle.receiver.specs.Streams.{known_to, source_of, stream_of}
use Rattle.receiver.specs.Receiver.{IsUnlearnt}
use Rattle.receiver.specs.Heard.{TakesNumber, TakesCarried, Carries, HearsStream, Hears, IsTooShort}

-- an answer that is an error
pub is_err : (answer : Result Taken ReceiveFault) (fault : ReceiveFault) → IsErrAnd answer (λ e. e ≡ fault) → answer ≡ Err fault
is_err (Ok taken) fault never = absurd never
is_err (Err e) fault is = ap (λ (x : ReceiveFault). Err x) is

-- there is one reason for which no content holds a packet
pub only_long : (fault : ContentFault) (answer : Result Taken ReceiveFault) → IsErrAnd answer (λ e. e ≡ refused.Content fault) → answer ≡ Err (refused.Content TooLong)
only_long TooLong answer is = is_err answer (refused.Content TooLong) is

-- what is known is what was learnt
same_source : (c : Config) (learnt : Option ℕ) (s : Span) (cursor : Option ℕ) → (cursor ≡ None → learnt ≡ None) → source_of c (window_at learnt cursor s) ≡ known_to c learnt
same_source c learnt s None unlearnt = ap (known_to c) (sym (unlearnt refl))
same_source c learnt s (Some k) unlearnt = refl

-- a datagram that spells a packet which is refused before the place that it has is looked for
module _ (c : Config) (learnt : Option ℕ) (s : Span) (unlearnt : IsUnlearnt s learnt) {octets : List ℕ} {p : RtpPacket} (spelled : RtpSpells p octets) (now : ℕ) (answer : Result Taken ReceiveFault) where
  refuses : (x : Result Stream ReceiveFault) → x ≡ stream_of c.session (known_to c learnt) p → HearsStream s.capacity (window_of learnt s) p now x answer (window_of learnt s)
      → Hears s.capacity c (window_of learnt s) octets now answer (window_of learnt s)
  refuses x found heard =
      record {
        said = Ok p;
        says = spelled;
        heard =
            subst (λ (y : Result Stream ReceiveFault). HearsStream s.capacity (window_of learnt s) p now y answer (window_of learnt s))
            (found ∙ ap (λ source. stream_of c.session source p) (sym (same_source c learnt s s.cursor unlearnt))) heard;
      }

  -- it is of no stream
  pub hears_stranger : (fault : ReceiveFault) → Err fault ≡ stream_of c.session (known_to c learnt) p → IsErrAnd answer (λ e. e ≡ fault) → Hears s.capacity c (window_of learnt s) octets now answer (window_of learnt s)
  hears_stranger fault found why = refuses (Err fault) found (is_err answer fault why, refl)

  -- it has no room for an original sequence number
  pub hears_short : (stream : Stream) → Ok stream ≡ stream_of c.session (known_to c learnt) p → IsTooShort stream p → (fault : RtpFault) → fault ≡ NoOsn → IsErrAnd answer (λ e. e ≡ refused.Rtp fault)
      → Hears s.capacity c (window_of learnt s) octets now answer (window_of learnt s)
  hears_short stream found short fault is why = refuses (Ok stream) found (inl (short, is_err answer (refused.Rtp fault) why ∙ ap (λ (f : RtpFault). Err (refused.Rtp f)) is, refl))

-- a datagram that spells a packet of a stream, and what this carries
module _ (c : Config) (learnt : Option ℕ) (s : Span) (unlearnt : IsUnlearnt s learnt) {octets : List ℕ} {p : RtpPacket} (spelled : RtpSpells p octets) {stream : Stream}
    (found : Ok stream ≡ stream_of c.session (known_to c learnt) p) (seq : ℕ) (payload : List ℕ) (carries : Carries stream p seq (record p { payload = payload })) (now : ℕ) (answer : Result Taken ReceiveFault) where
  hears : (new : Option ReceiverState) → TakesCarried s.capacity stream (window_of learnt s) seq (record p { payload = payload }) now answer new → Hears s.capacity c (window_of learnt s) octets now answer new
  hears new takes =
      record {
        said = Ok p;
        says = spelled;
        heard =
            subst (λ (x : Result Stream ReceiveFault). HearsStream s.capacity (window_of learnt s) p now x answer new)
            (found ∙ ap (λ source. stream_of c.session source p) (sym (same_source c learnt s s.cursor unlearnt))) (inr (seq, record p { payload = payload }, carries, takes));
      }

  -- no content holds it
  pub hears_long : IsTooLong (record p { payload = payload }) → (fault : ContentFault) → IsErrAnd answer (λ e. e ≡ refused.Content fault) → Hears s.capacity c (window_of learnt s) octets now answer (window_of learnt s)
  hears_long long fault why = hears (window_of learnt s) (inl (long, only_long fault answer why, refl))

  -- its content is taken by its number, or refused there
  pub hears_number : (content : Content) → packet_of content p.padding p.sequence p.payload_type p.ssrc ≡ record p { payload = payload } → (IsTooLong (record p { payload = payload }) → false ≡ true) →
      (new : Option ReceiverState) → TakesNumber s.capacity stream (window_of learnt s) seq content now answer new → Hears s.capacity c (window_of learnt s) octets now answer new
  hears_number content held short new takes = hears new (inr ((λ long. true≢false (sym (short long))), content, held, takes))
