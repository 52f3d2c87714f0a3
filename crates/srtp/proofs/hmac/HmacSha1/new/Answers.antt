use Rattle.srtp.specs.Hmac.{IsKeyed}
use Rattle.srtp.proofs.hmac.HmacSha1.new.Goals as goal

pub returns : goal.returns
unfolding IsKeyed
returns c = (rw (← c.block_of-key.ensures) c.hash_of.ensures, rw (← c.block_of-key.ensures) c.hash_of-2.ensures)
