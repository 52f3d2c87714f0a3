use Rattle.std.proofs.Common.{sym, ◌∙◌}
use Rattle.gozdrit.proofs.unprotecting.open.Goals as goal

pub returns-then-is_control-clause-unprotects : goal.returns-then-is_control-clause-unprotects
returns-then-is_control-clause-unprotects c =
    rw (sym c.is_control.ensures ∙ c.if-is_control.true) (record {
      known = c.open_rtcp.ensures.known;
      begun = c.open_rtcp.ensures.begun;
      taken = c.open_rtcp.ensures.taken;
      first = c.open_rtcp.ensures.first;
      len = c.open_rtcp.ensures.len;
      heard = c.open_rtcp.ensures.heard;
      keyed = c.open_rtcp.ensures.keyed;
      streams = c.open_rtcp.ensures.streams;
    })

pub returns-else-is_control-clause-unprotects : goal.returns-else-is_control-clause-unprotects
returns-else-is_control-clause-unprotects c =
    rw (sym c.is_control.ensures ∙ c.if-is_control.false) (record {
      known = c.open_rtp.ensures.known;
      begun = c.open_rtp.ensures.begun;
      taken = c.open_rtp.ensures.taken;
      first = c.open_rtp.ensures.first;
      len = c.open_rtp.ensures.len;
      heard = c.open_rtp.ensures.heard;
      keyed = c.open_rtp.ensures.keyed;
      controls = c.open_rtp.ensures.controls;
    })
