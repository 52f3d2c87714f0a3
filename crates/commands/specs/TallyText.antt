-- The line of a tally.
use Rattle.std.specs.Prelude.{List, ℕ, [], ◌∷◌, codes}
use Rattle.std.specs.Fmt.{decimal}
use Rattle.lines.specs.Line.{line_of}
use Rattle.runs.specs.declared.tally.Tally.{Tally}

-- `sent A lost B repaired C played D gaps E`, where the packets that were dropped may be called otherwise
abbrev pub tally_line : (dropped : List ℕ) → Tally → List ℕ
tally_line dropped tally = line_of
    (codes "sent" ∷ decimal tally.sent
    ∷ dropped ∷ decimal tally.dropped
    ∷ codes "repaired" ∷ decimal tally.repaired
    ∷ codes "played" ∷ decimal tally.played
    ∷ codes "gaps" ∷ decimal tally.gaps ∷ [])
