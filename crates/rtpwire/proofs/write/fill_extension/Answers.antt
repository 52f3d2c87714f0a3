use Rattle.std.proofs.Common.{refl, arith}
use Rattle.std.specs.Option.{option_map}
use Rattle.rtpwire.specs.Carried.{extension_with}
use Rattle.rtpwire.proofs.Lengths.{length-some}
use Rattle.rtpwire.proofs.write.fill_extension.Goals as goal

pub fill_words-requires-clause-len : goal.fill_words-requires-clause-len
fill_words-requires-clause-len c =
    let size = length-some c.args.extension (option_map extension_with c.args.extension) _ c.in-Some.is refl in
    omega (arith, size, c.requires.len, c.split_at_mut-front.ensures.back_len)
