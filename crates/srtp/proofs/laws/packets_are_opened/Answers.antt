use Rattle.srtp.proofs.Opened.{enciphered_twice, opens}
use Rattle.srtp.proofs.RtcpOpened.{opens as opens_rtcp}
use Rattle.srtp.proofs.laws.packets_are_opened.Goals as goal

pub returns : goal.returns
returns c = record { opened = opens; opened_rtcp = opens_rtcp; twice = enciphered_twice }
