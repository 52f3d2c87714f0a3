use Rattle.std.proofs.Common.{◌≡◌, map, drop, ◌++◌}
use Rattle.std.specs.Option.{option_map}
use Rattle.rtxtool.specs.CommandLine.{places_of}
use Rattle.rtxtool.proofs.command_line.places.Given as goal

-- all places are those so far, and those of the words that are left
abbrev pub invariant-loop-word : goal.invariant-loop-word
invariant-loop-word l =
    places_of (map (λ s. s.now) l.fn.words)
    ≡ option_map (λ more. l.places.items ++ more) (places_of (map (λ s. s.now) (drop l.word-index l.words)))
