use Rattle.srtp.specs.Lanes.{row_shifted}
use Rattle.srtp.proofs.Mixing.{lane_moved, rows_shifted}
use Rattle.srtp.proofs.rounds.shift_rows.Goals as goal

pub returns : goal.returns
returns c = rows_shifted c.args.words.now _ (λ l lt.
    lane_moved c.args.words.now l (row_shifted l) _ _ _ _ _ _ _ _
    (c.shift.ensures l lt) (c.shift-2.ensures l lt) (c.shift-3.ensures l lt) (c.shift-4.ensures l lt)
    (c.shift-5.ensures l lt) (c.shift-6.ensures l lt) (c.shift-7.ensures l lt) (c.shift-8.ensures l lt))
