-- Over a jump the player's numbers have a hole, and over other numbers they have none.
use Rattle.std.proofs.Common.{◌≡◌, ℕ, zero, suc, ◌+◌, ◌-◌, ◌%◌, ◌<◌, Ok, ap, arith}
use Rattle.endpoint.specs.declared.heard.Heard.TheVariants.{Restarted}
use Rattle.endpoint.specs.declared.heard.Restart.{Restart}
use Rattle.relays.specs.Numbering.{numbered, numbered_after}
use Rattle.relays.specs.ReceiveRelay.{numbering_after, numbering_over}
use Rattle.relays.specs.declared.numbering.Numbering.{Numbering}

shifted : (number last place hole : ℕ) → place % 65536 ≡ (last + 1 + hole) % 65536 → (place % 65536 + (number + 65536 - last % 65536) % 65536) % 65536 ≡ (number + 1 + hole) % 65536
shifted number last place hole far = omega arith

over : (skipped : ℕ) (n : Numbering) (last place hole : ℕ) → 0 < skipped → place % 65536 ≡ (last + 1 + hole) % 65536 → numbered (numbering_over skipped (numbered_after n last)) place ≡ (numbered n last + 1 + hole) % 65536
over zero n last place hole some far = absurd (omega (arith, some))
over (suc more) n last place hole some far = shifted (numbered n last) last place hole far

pub ahead : (n : Numbering) (restart : Restart) (last place hole : ℕ) → 0 < restart.skipped → place % 65536 ≡ (last + 1 + hole) % 65536
    → numbered (numbering_after (Ok (Restarted restart)) (numbered_after n last)) place ≡ (numbered n last + 1 + hole) % 65536
ahead n restart last place hole some far = over restart.skipped n last place hole some far

pub behind : (n : Numbering) (restart : Restart) (last place : ℕ) → restart.skipped ≡ 0
    → numbered (numbering_after (Ok (Restarted restart)) (numbered_after n last)) place ≡ (numbered n last + 1) % 65536
behind n restart last place is = ap (λ (s : ℕ). numbered (numbering_over s (numbered_after n last)) place) is
