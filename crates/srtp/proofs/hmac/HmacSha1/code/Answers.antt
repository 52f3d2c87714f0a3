use Rattle.std.proofs.Common.{◌++◌, append_assoc, ◌∙◌, refl}
use Rattle.srtp.specs.Hmac.{IsKeyed, hmac_sha1, inner_key, outer_key}
use Rattle.srtp.proofs.hmac.HmacSha1.code.Goals as goal

pub returns : goal.returns
unfolding IsKeyed hmac_sha1
returns c = λ key keyed.
    let text = c.args.text.now in
    let rest = c.args.rest.now in
    let inner = c.finalize.ensures ((inner_key key ++ text) ++ rest) (c.update-2.ensures (inner_key key ++ text) (c.update.ensures (inner_key key) (rw c.copy_of-inner.ensures keyed.0))) in
    let outer = c.finalize-2.ensures (outer_key key ++ c.finalize.result) (c.update-3.ensures (outer_key key) (rw c.copy_of-outer.ensures keyed.1)) in
    outer ∙ rw (inner, append_assoc) refl
