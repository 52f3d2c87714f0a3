use Rattle.std.proofs.Common.{Some, None}
use Rattle.srtp.proofs.RtcpChecks.{flag_from, by_flag, by_list, remembered}
use Rattle.srtp.proofs.rtcp.RtcpReceiver.index_of.Goals as goal

pub returns-then-word-from-clause-fault : goal.returns-then-word-from-clause-fault
returns-then-word-from-clause-fault g c = λ receiving held.
    by_flag receiving c.args.octets.now c.read_u32-word.result c.from.result c.read_u32-word.ensures
    (flag_from receiving _ c.from.result held.keys.encrypts c.from.ensures) c.if-word-from.true

pub returns-in-Ok-clause-fault : goal.returns-in-Ok-clause-fault
returns-in-Ok-clause-fault g c = λ receiving held.
    by_list g.row.N receiving c.args.octets.now c.read_u32-word.result c.from.result c.from-index.result None c.read_u32-word.ensures
    (flag_from receiving _ c.from.result held.keys.encrypts c.from.ensures) c.if-word-from.false c.from-index.ensures held.len_is
    (c.in-Ok.ensures receiving.taken (remembered g.row.N c.args.self.now receiving held))

pub returns-in-Err-clause-fault : goal.returns-in-Err-clause-fault
returns-in-Err-clause-fault g c = λ receiving held.
    rw c.of_replay.ensures
    (by_list g.row.N receiving c.args.octets.now c.read_u32-word.result c.from.result c.from-index.result (Some c.in-Err.fault) c.read_u32-word.ensures
    (flag_from receiving _ c.from.result held.keys.encrypts c.from.ensures) c.if-word-from.false c.from-index.ensures held.len_is
    (c.in-Err.ensures receiving.taken (remembered g.row.N c.args.self.now receiving held)))
