use Rattle.std.proofs.Common.{sym, subst}
use Rattle.rtpwire.specs.declared.carried.Words.{Words}
use Rattle.rtpwire.specs.Carried.{words_of}
use Rattle.rtpwire.specs.Rtp.{AreWords}
use Rattle.rtpwire.proofs.OctetsIn.{each_of}
use Rattle.rtpwire.proofs.WordsIn.{words_at-words}
use Rattle.rtpwire.proofs.carried.Words.are_words.Goals as goal

pub returns-in-Octets : goal.returns-in-Octets
returns-in-Octets c = subst (λ (w : Words). AreWords (words_of w)) (sym c.in-Octets.is) (words_at-words _ _ (each_of _ c.are_octets.ensures))
