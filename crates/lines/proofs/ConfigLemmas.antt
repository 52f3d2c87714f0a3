-- Words that are left over behind `learn`.
use Rattle.std.proofs.Common.{◌≡◌, ℕ, List, ◌∷◌, refl, true, Option, Some, None}
use Rattle.std.specs.Borrow.{Bor}
use Rattle.std.specs.Option.{is_some}
use Rattle.lines.specs.Words.{words_left}
use Rattle.lines.specs.ConfigLine.{learns_of}
use Rattle.lines.proofs.WordLemmas.{words_of-cons}

pub more_than_learn : (word : List ℕ) (more : Option (Bor (List ℕ))) → is_some more ≡ true → learns_of (word ∷ words_left more) ≡ None
more_than_learn word None h = cc h
more_than_learn word (Some line) h = let cons = words_of-cons line.now in rw cons.2 refl
