use Rattle.endpoint.proofs.WaitedFor.{awaited_believed}
use Rattle.endpoint.proofs.laws.awaited_media_is_believed.Goals as goal

pub returns : goal.returns
returns c = awaited_believed
