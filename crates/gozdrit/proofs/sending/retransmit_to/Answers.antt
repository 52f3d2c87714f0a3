use Rattle.std.proofs.Common.{rules, ◌≡◌, ◌≤◌, length}
use Rattle.rtpwire.specs.declared.limits.TheConstants.{MAX_DATAGRAM}
use Rattle.endpoint.specs.Resending.{always}
use Rattle.gozdrit.proofs.sending.retransmit_to.Goals.{else-not-is_always-via-then-not-is_always+else-out-lt-MAX_DATAGRAM, else-not-is_always-via-else-not-is_always}
use Rattle.gozdrit.proofs.sending.retransmit_to.Goals as goal

pub returns-in-Err : goal.returns-in-Err
returns-in-Err c =
    elim c.else-not-is_always.branch [
      | else-not-is_always-via-then-not-is_always+else-out-lt-MAX_DATAGRAM w ↦
          let room : MAX_DATAGRAM ≤ length c.args.out.now = search rules in
          absurd (search rules)
      | else-not-is_always-via-else-not-is_always w ↦
          let is : c.rule-rule.result ≡ always = search rules in
          let same = c.retransmit_by-answer.ensures.plain_err is in
          search rules
    ]
