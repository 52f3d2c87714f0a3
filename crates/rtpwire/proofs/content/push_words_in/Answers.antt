use Rattle.std.proofs.Common.{◌∙◌, ap, sym, ◌∷◌, [], ◌++◌, List, ℕ, arith, append_assoc}
use Rattle.rtpwire.specs.RtpReading.{words_at}
use Rattle.rtpwire.proofs.WordsIn.{words_at-more}
use Rattle.rtpwire.proofs.content.push_words_in.Goals as goal

pub loop-index-preserved : goal.loop-index-preserved
loop-index-preserved g c = (
  c.push.ensures.items
      ∙ ap (λ (x : List ℕ). x ++ c.u32_at.result ∷ []) c.loop-index.invariant.0
      ∙ append_assoc c.args.to.now.items (words_at c.loop-index.index c.args.octets.now) (c.u32_at.result ∷ [])
      ∙ ap (λ x. c.args.to.now.items ++ (words_at c.loop-index.index c.args.octets.now ++ x ∷ [])) c.u32_at.ensures
      ∙ ap (λ (x : List ℕ). c.args.to.now.items ++ x) (sym (words_at-more c.loop-index.index c.args.octets.now)),
  omega arith,
)
