use Rattle.fbwire.proofs.Walks.{Walked}
use Rattle.fbwire.proofs.compound.walked.Given as goal

-- the packets before the rest were walked
abbrev pub invariant-loop-packet : goal.invariant-loop-packet
invariant-loop-packet l = Walked l.octets l.packets.octets.now l.has_nack l.has_feedback
