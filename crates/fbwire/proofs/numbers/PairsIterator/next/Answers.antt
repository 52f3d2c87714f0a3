use Rattle.std.proofs.Common.{◌∷◌, drop, sym, ap, ◌∙◌}
use Rattle.std.proofs.lemmas.List.{take_rest}
use Rattle.fbwire.proofs.PairLists.{pairs_in-more}
use Rattle.fbwire.proofs.Progress.{progress}
use Rattle.fbwire.specs.NackReading.{pairs_in}
use Rattle.fbwire.proofs.numbers.PairsIterator.next.Goals as goal

pub returns-clause-steps : goal.returns-clause-steps
returns-clause-steps c =
    let octets = c.self.inside.octets.now in
    sym c.self.view_is ∙ pairs_in-more octets c.if-self-lt-PAIR.false
    ∙ ap (λ p. p ∷ pairs_in (drop 4 octets)) (sym c.pair_of-pair.ensures)
    ∙ ap (λ t. c.pair_of-pair.result ∷ pairs_in t) (sym (take_rest octets 4))

pub returns-clause-goes : goal.returns-clause-goes
returns-clause-goes c = progress _ _ _ (returns-clause-steps c)
