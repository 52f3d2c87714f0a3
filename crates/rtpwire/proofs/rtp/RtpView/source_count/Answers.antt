use Rattle.std.proofs.Common.{◌∙◌, sym, ap, length, drop}
use Rattle.rtpwire.specs.Rtp.{RtpPacket}
use Rattle.rtpwire.specs.RtpChecks.{source_count}
use Rattle.rtpwire.proofs.WordsIn.{length_words_at}
use Rattle.rtpwire.proofs.rtp.RtpView.source_count.Goals as goal

pub returns-clause-value : goal.returns-clause-value
returns-clause-value c =
    c.source_count.ensures
    ∙ sym (length_words_at (source_count c.self.inside.octets.now) (drop 12 c.self.inside.octets.now))
    ∙ ap (λ (p : RtpPacket). length p.sources) c.self.view_is
