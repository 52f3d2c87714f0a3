-- The refusal numbers of this crate.
use Rattle.std.specs.Prelude.{ℕ}
use Rattle.rtpwire.specs.declared.fault.RtpFault.{RtpFault}
use Rattle.rtpwire.specs.declared.fault.RtpFault.TheVariants as rtp
use Rattle.rtpwire.specs.declared.fault.ContentFault.{ContentFault}
use Rattle.rtpwire.specs.declared.fault.ContentFault.TheVariants as content
use Rattle.rtpwire.specs.declared.fault.ConfigFault.{ConfigFault}
use Rattle.rtpwire.specs.declared.fault.ConfigFault.TheVariants as config
use Rattle.rtpwire.specs.declared.fault.FrameFault.{FrameFault}
use Rattle.rtpwire.specs.declared.fault.FrameFault.TheVariants as frame

abbrev pub rtp_number : RtpFault → ℕ
rtp_number rtp.Short = 1
rtp_number rtp.Version = 2
rtp_number rtp.CsrcList = 3
rtp_number rtp.Extension = 4
rtp_number rtp.Padding = 5
rtp_number rtp.NoOsn = 6

abbrev pub frame_number : FrameFault → ℕ
frame_number frame.Truncated = 21
frame_number frame.FrameTooLong = 22

abbrev pub content_number : ContentFault → ℕ
content_number content.TooLong = 37

abbrev pub config_number : ConfigFault → ℕ
config_number config.BadType = 51
config_number config.SameSsrc = 52
config_number config.BadLimit = 53

-- of a slice that is too short for a datagram
abbrev pub room_number : ℕ
room_number = 75
