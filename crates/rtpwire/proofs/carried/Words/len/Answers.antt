use Rattle.std.proofs.Common.{length, sym, ◌∙◌, ap}
use Rattle.rtpwire.specs.declared.carried.Words.{Words}
use Rattle.rtpwire.specs.Carried.{words_of}
use Rattle.rtpwire.proofs.WordsIn.{length_words_at}
use Rattle.rtpwire.proofs.carried.Words.len.Goals as goal

pub returns-in-Octets : goal.returns-in-Octets
returns-in-Octets c = sym (ap (λ (w : Words). length (words_of w)) c.in-Octets.is ∙ length_words_at _ _)
