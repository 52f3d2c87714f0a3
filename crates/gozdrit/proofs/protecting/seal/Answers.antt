use Rattle.gozdrit.proofs.protecting.seal.Goals as goal

pub returns-then-is_rtcp-clause-protects : goal.returns-then-is_rtcp-clause-protects
returns-then-is_rtcp-clause-protects c =
    rw c.if-is_rtcp.true (record {
      known = c.seal_rtcp.ensures.known;
      begun = c.seal_rtcp.ensures.begun;
      taken = c.seal_rtcp.ensures.taken;
      first = c.seal_rtcp.ensures.first;
      remembers = c.seal_rtcp.ensures.remembers;
      sealed = c.seal_rtcp.ensures.sealed;
      keyed = c.seal_rtcp.ensures.keyed;
      streams = c.seal_rtcp.ensures.streams;
    })

pub returns-else-is_rtcp-clause-protects : goal.returns-else-is_rtcp-clause-protects
returns-else-is_rtcp-clause-protects c =
    rw c.if-is_rtcp.false (record {
      known = c.seal_rtp.ensures.known;
      begun = c.seal_rtp.ensures.begun;
      taken = c.seal_rtp.ensures.taken;
      first = c.seal_rtp.ensures.first;
      remembers = c.seal_rtp.ensures.remembers;
      sealed = c.seal_rtp.ensures.sealed;
      keyed = c.seal_rtp.ensures.keyed;
      controls = c.seal_rtp.ensures.controls;
    })
