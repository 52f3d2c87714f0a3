-- That octets spell the pairs that a label tells.
use Rattle.std.specs.Prelude.{◌≡◌, ℕ, ◌≤◌, List, length}
use Rattle.fbwire.specs.Nack.{Nack, NackSpells}
use Rattle.world.specs.declared.event.Label.{Label}
use Rattle.world.specs.declared.event.Label.TheVariants.{Media, Repair, Feedback}

-- The octets of an ask spell a NACK of its pairs, 64 at most. A packet has none.
abbrev pub SpellsPairs : Label → List ℕ → Type 0
SpellsPairs (Media place) octets = Unit {0}
SpellsPairs (Repair place) octets = Unit {0}
SpellsPairs (Feedback pairs) octets = (nack : Nack) × NackSpells nack octets × (nack.pairs ≡ pairs.items) × (length pairs.items ≤ 64)
