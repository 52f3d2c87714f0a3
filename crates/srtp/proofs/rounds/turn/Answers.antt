use Rattle.std.proofs.Common.{◌≡◌, ℕ, ◌+◌, ◌%◌, get_or, ap, ◌∙◌}
use Rattle.std.specs.Int.{bit_at, w64, rotate_right}
use Rattle.srtp.proofs.BitMoves.{turn_at}
use Rattle.srtp.proofs.Mixing.{lane_moved}
use Rattle.srtp.proofs.rounds.turn.Goals as goal

pub returns : goal.returns
returns c = λ l lt.
    let words = c.args.words.now in
    let by = c.args.by in
    let turned : (k r : ℕ) → r ≡ rotate_right w64 (get_or words k 0) by
    → bit_at r l ≡ bit_at (get_or words k 0) ((l + by) % 64) =
    λ k r e. ap (λ n. bit_at n l) e
    ∙ turn_at (get_or words k 0) by l (c.fits-words k) c.requires.some c.requires.room lt in
    lane_moved words l ((l + by) % 64) _ _ _ _ _ _ _ _
    (turned 0 _ c.rotate_right.ensures) (turned 1 _ c.rotate_right-2.ensures) (turned 2 _ c.rotate_right-3.ensures)
    (turned 3 _ c.rotate_right-4.ensures)
    (turned 4 _ c.rotate_right-5.ensures) (turned 5 _ c.rotate_right-6.ensures) (turned 6 _ c.rotate_right-7.ensures)
    (turned 7 _ c.rotate_right-8.ensures)
