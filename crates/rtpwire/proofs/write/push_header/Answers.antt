use Rattle.std.proofs.Common.{arith}
use Rattle.rtpwire.proofs.Carries.{carries}
use Rattle.rtpwire.proofs.write.push_header.Goals as goal

pub returns-in-Some-clause-packet : goal.returns-in-Some-clause-packet
returns-in-Some-clause-packet g c = λ padded.
    carries c.args.content.now c.args.padding c.args.sequence c.args.payload_type c.args.ssrc c.is_bounded.ensures (omega arith) padded (omega arith) c.requires.payload_type (omega arith)

pub returns-in_default-clause-packet : goal.returns-in_default-clause-packet
returns-in_default-clause-packet g c = λ padded.
    carries c.args.content.now c.args.padding c.args.sequence c.args.payload_type c.args.ssrc c.is_bounded.ensures (omega arith) padded (omega arith) c.requires.payload_type (omega arith)
