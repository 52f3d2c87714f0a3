-- The session that is tried out: of scripts, of drawn runs, and of runs over sockets.
use Rattle.rtpwire.specs.Session.{Streams, streams}

-- the media's SSRC and payload type, the retransmissions', the receiver's SSRC
abbrev pub trial_session : Streams
trial_session = streams 0x11111111 96 0x22222222 97 0x33333333
