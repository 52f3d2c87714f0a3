use Rattle.sender.proofs.AnyReporter.{alone_not, shared_not}
use Rattle.sender.proofs.laws.any_reporter_is_heard.Goals as goal

pub returns : goal.returns
returns g =
    let reader = g.compound_is_determined.ensures.reader in
    record {
      alone = λ c old octets answer new any hears. alone_not reader c any old octets new answer hears;
      shared = λ c old octets answer new any hears. shared_not reader c any old octets new answer hears;
    }
