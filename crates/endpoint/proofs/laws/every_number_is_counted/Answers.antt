use Rattle.endpoint.proofs.Accounts.{every_number}
use Rattle.endpoint.proofs.laws.every_number_is_counted.Goals as goal

pub returns : goal.returns
returns c = every_number
