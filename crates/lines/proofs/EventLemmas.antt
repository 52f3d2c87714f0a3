-- Words that are left over.
use Rattle.std.proofs.Common.{◌≡◌, ℕ, List, ◌∷◌, refl, true, Option, Some, None}
use Rattle.std.specs.Borrow.{Bor}
use Rattle.std.specs.Option.{is_some}
use Rattle.lines.specs.Words.{words_left}
use Rattle.lines.specs.EventLine.{send_of, repair_of, injection_of}
use Rattle.lines.proofs.WordLemmas.{words_of-cons}

pub more_than_a_send : (timestamp marker padding payload sources extension : List ℕ) (rest : Option (Bor (List ℕ))) → is_some rest ≡ true
    → send_of (timestamp ∷ marker ∷ padding ∷ payload ∷ sources ∷ extension ∷ words_left rest) ≡ None
more_than_a_send timestamp marker padding payload sources extension None h = cc h
more_than_a_send timestamp marker padding payload sources extension (Some line) h = let cons = words_of-cons line.now in rw cons.2 refl

pub more_than_an_injection : (end octets now : List ℕ) (rest : Option (Bor (List ℕ))) → is_some rest ≡ true
    → injection_of (end ∷ octets ∷ now ∷ words_left rest) ≡ None
more_than_an_injection end octets now None h = cc h
more_than_an_injection end octets now (Some line) h = let cons = words_of-cons line.now in rw cons.2 refl

pub more_than_a_repair : (rest : Option (Bor (List ℕ))) → is_some rest ≡ true → repair_of (words_left rest) ≡ None
more_than_a_repair None h = cc h
more_than_a_repair (Some line) h = let cons = words_of-cons line.now in rw cons.2 refl
