use Rattle.std.proofs.Common.{◌≡◌, ℕ, List, ◌++◌}
use Rattle.std.specs.Io.KnownBytes.{Appends}
use Rattle.hex.specs.Hex.{encode_lower}
use Rattle.lines.proofs.word.push_hex.Given as goal

-- the digits of the pieces so far were pushed
abbrev pub invariant-loop-piece : goal.invariant-loop-piece
invariant-loop-piece g l =
    (l.piece-iterator.size ≡ 64) × (done : List ℕ) × (l.octets ≡ done ++ l.piece-iterator.rest.now)
    × Appends (g.S.Sink.contents l.fn.sink) (g.S.Sink.contents l.sink) (encode_lower done)
