-- A packet is read as the one that it spells.
use Rattle.std.proofs.Common.{◌≡◌, Result, Ok, Err, sym, ap, ◌∙◌}
use Rattle.rtpwire.specs.Rtp.{RtpPacket}
use Rattle.rtpwire.specs.declared.fault.RtpFault.{RtpFault}

ok_or : RtpPacket → Result RtpPacket RtpFault → RtpPacket
ok_or other (Ok packet) = packet
ok_or other (Err fault) = other

pub same_packet : (read : Result RtpPacket RtpFault) (one other : RtpPacket) → read ≡ Ok one → read ≡ Ok other → one ≡ other
unfolding ok_or
same_packet read one other is is_too = ap (ok_or one) (sym is ∙ is_too)
