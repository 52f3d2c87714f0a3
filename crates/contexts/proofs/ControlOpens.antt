-- A packet of RTCP that no check of SRTCP refuses is opened.
use Rattle.std.proofs.Common.{◌≡◌, ℕ, ◌^◌, ◌/◌, ◌==◌, not, nat_lt, true, ◌∷◌, List, ◌++◌, None, sym}
use Rattle.std.specs.Option.{option_map}
use Rattle.byteorder.specs.Endian.{big_number}
use Rattle.srtp.specs.Fault.{of_replay, or_else, fault_if}
use Rattle.srtp.specs.Replay.{replay_fault}
use Rattle.srtp.specs.Stream.{body_of, tag_in}
use Rattle.srtp.specs.Rtcp.{Receiving, IsReceiving, Sending, flag_of, before_trailer, trailer_in, index_said, is_rtcp_tagged, rtcp_fault, rtcp_turned, trailer_fault, receiving_fault, sending_fault}
use Rattle.srtp.specs.declared.fault.SrtpFault.TheVariants.{KeyEnd, WrongFlag, WrongTag}
use Rattle.srtp.specs.declared.rtcp.RtcpReceiver.{RtcpReceiver}
use Rattle.contexts.specs.Controls.{OpensControl, control_index}
use Rattle.contexts.specs.declared.inbound.TheConstants.{RTCP_INDICES}
use Rattle.contexts.proofs.Opens.{none_first, none_second, free_from, tag_from}

behind_header : (receiving : Receiving) (packet : List ℕ) → None ≡ receiving_fault receiving packet
    → None ≡ or_else (trailer_fault receiving (trailer_in (body_of packet))) (fault_if (not (is_rtcp_tagged receiving.keys packet)) WrongTag)
unfolding receiving_fault
behind_header receiving packet none =
    none_second (rtcp_fault receiving.ssrc (before_trailer (body_of packet)))
    (or_else (trailer_fault receiving (trailer_in (body_of packet))) (fault_if (not (is_rtcp_tagged receiving.keys packet)) WrongTag)) none

pub tag_is_right : (receiving : Receiving) (packet : List ℕ) → receiving_fault receiving packet ≡ None → is_rtcp_tagged receiving.keys packet ≡ true
tag_is_right receiving packet taken =
    tag_from _ (none_second (trailer_fault receiving (trailer_in (body_of packet))) (fault_if (not (is_rtcp_tagged receiving.keys packet)) WrongTag)
    (behind_header receiving packet (sym taken)))

pub has_source : (receiving : Receiving) (packet : List ℕ) → receiving_fault receiving packet ≡ None
    → rtcp_fault receiving.ssrc (before_trailer (body_of packet)) ≡ None
unfolding receiving_fault
has_source receiving packet taken =
    sym (none_first (rtcp_fault receiving.ssrc (before_trailer (body_of packet)))
    (or_else (trailer_fault receiving (trailer_in (body_of packet))) (fault_if (not (is_rtcp_tagged receiving.keys packet)) WrongTag)) (sym taken))

free : (receiving : Receiving) (trailer : List ℕ) → None ≡ trailer_fault receiving trailer
    → replay_fault receiving.len receiving.taken (index_said trailer) ≡ None
unfolding trailer_fault
free receiving trailer none =
    free_from _ (none_second (fault_if (not (big_number 4 trailer / 2 ^ 31 == flag_of receiving.keys.encrypts)) WrongFlag)
    (option_map of_replay (replay_fault receiving.len receiving.taken (index_said trailer))) none)

pub opens_control : (receiving : Receiving) (packet opened : List ℕ) (after : RtcpReceiver RTCP_INDICES) → None ≡ receiving_fault receiving packet
    → opened ≡ (rtcp_turned receiving.keys (control_index packet) (before_trailer (body_of packet)) ++ trailer_in (body_of packet)) ++ tag_in packet
    → IsReceiving RTCP_INDICES after (record receiving { taken = control_index packet ∷ receiving.taken }) → OpensControl receiving packet opened after
opens_control receiving packet opened after none is taken =
    record {
      tag = tag_is_right receiving packet (sym none);
      fresh = free receiving (trailer_in (body_of packet)) (none_first (trailer_fault receiving (trailer_in (body_of packet)))
          (fault_if (not (is_rtcp_tagged receiving.keys packet)) WrongTag) (behind_header receiving packet none));
      is = is;
      taken = taken;
    }

pub sending_has_source : (sending : Sending) (packet : List ℕ) → sending_fault sending (before_trailer (body_of packet)) ≡ None
    → rtcp_fault sending.ssrc (before_trailer (body_of packet)) ≡ None
sending_has_source sending packet passed =
    sym (none_first (rtcp_fault sending.ssrc (before_trailer (body_of packet))) (fault_if (not (nat_lt sending.next (2 ^ 31))) KeyEnd) (sym passed))
