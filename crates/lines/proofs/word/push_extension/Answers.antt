use Rattle.std.proofs.Common.{◌≡◌, ℕ, List, ◌++◌, ◌∙◌, ap, rules}
use Rattle.byteorder.specs.Endian.{big_bytes}
use Rattle.hex.specs.Hex.{encode_lower}
use Rattle.lines.proofs.HexText.{digits_append}
use Rattle.lines.proofs.SinkLemmas.{fails_first, ends_with}
use Rattle.lines.proofs.word.push_extension.Goals as goal

pub returns-in_err-push_hex : goal.returns-in_err-push_hex
returns-in_err-push_hex g c =
    let same : big_bytes 2 c.args.profile ≡ c.to_be_bytes.result = search rules in
    let parts = ap (λ (x : List ℕ). encode_lower (x ++ c.args.words.now)) same ∙ digits_append c.to_be_bytes.result c.args.words.now in
    fails_first _ _ _ _ _ _ c.from_residual.ensures.0 parts c.in_err-push_hex.ensures

pub returns : goal.returns
returns g c =
    let same : big_bytes 2 c.args.profile ≡ c.to_be_bytes.result = search rules in
    let parts = ap (λ (x : List ℕ). encode_lower (x ++ c.args.words.now)) same ∙ digits_append c.to_be_bytes.result c.args.words.now in
    ends_with _ _ _ _ _ _ _ parts c.in_ok-push_hex.ensures c.push_hex-2.ensures
