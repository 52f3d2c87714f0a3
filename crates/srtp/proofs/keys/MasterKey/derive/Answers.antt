use Rattle.std.proofs.Common.{◌≡◌, ◌∙◌, length, replicate}
use Rattle.srtp.specs.Derivation.{derived}
use Rattle.srtp.proofs.Keystream.{encrypted_zeros}
use Rattle.srtp.proofs.keys.MasterKey.derive.Goals as goal

pub returns : goal.returns
unfolding derived
returns c = λ key salt master.
    let zeros : c.fill.new.self ≡ replicate (length c.args.out.now) 0 = c.fill.ensures.after (λ y e. e) in
    c.encrypt.ensures key master.cipher ∙ rw (zeros, c.with_label.ensures, master.salted) (encrypted_zeros _ _ _)
