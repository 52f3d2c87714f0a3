-- What a text begins with that does not begin with a whole line of at most 4096 octets.
use Rattle.std.proofs.Common.{◌≡◌, ◌≢◌, ℕ, ◌<◌, List, [], ◌∷◌, ◌++◌, length, refl, ap, ◌∙◌, sym, arith, nat_eq, true, false, Bool, inl, inr, ◌⊎◌, Some, None, append-nil, subst, length-append}
use Rattle.std.specs.List.{list_any}
use Rattle.std.proofs.lemmas.List.Elements.{recursion_from_All}
use Rattle.std.proofs.lemmas.Bool.Decides.{leb_tells}
use Rattle.commands.specs.Lines.{lines_of, tail_of}
use Rattle.lines.specs.ConfigLine.{config_of}
use Rattle.lines.specs.EventLine.{event_of}
use Rattle.commands.specs.Script.{script_config, bad_line, events_in, bad_in}
use Rattle.commands.specs.IsScript.{LacksFeed}
use Rattle.std.proofs.lemmas.Bool.{ne_eqb}
use Rattle.commands.proofs.LineLemmas.{LacksFeedInTurn, lines_of-none, tail_of-none}

abbrev feed : ℕ → Bool
feed x = nat_eq x 10

-- a text has no line feed, or begins with a whole line, of which this is the front
abbrev LineOrNone : List ℕ → List ℕ → Type 0
LineOrNone front more =
    ((lines_of (front ++ more) ≡ []) × (list_any feed (front ++ more) ≡ false))
    ⊎ ((word : List ℕ) × (lines : List (List ℕ)) × (lines_of (front ++ more) ≡ (front ++ word) ∷ lines))

line_or_none-more : (more : List ℕ) → LineOrNone [] more
line_or_none-more [] = inl (refl, refl)
line_or_none-more (c ∷ cs) = go (nat_eq c 10) refl (line_or_none-more cs)
  where
    go : (b : Bool) → nat_eq c 10 ≡ b → LineOrNone [] cs → LineOrNone [] (c ∷ cs)
    go true e rest = inr ([], lines_of cs, rw e refl)
    go false e (inl none) = inl (rw (e, none.0) refl, rw (e, none.1) refl)
    go false e (inr some) = inr (c ∷ some.0, some.1, rw (e, some.2) refl)

line_or_none : (front more : List ℕ) → LacksFeedInTurn front → LineOrNone front more
line_or_none [] more h = line_or_none-more more
line_or_none (c ∷ cs) more h = elim (line_or_none cs more h.1) [
  | inl none ↦ inl (rw (ne_eqb c 10 h.0, none.0) refl, rw (ne_eqb c 10 h.0, none.1) refl)
  | inr some ↦ inr (some.0, some.1, rw (ne_eqb c 10 h.0, some.2) refl)
]

tail_of-plain : (text : List ℕ) → list_any feed text ≡ false → tail_of text ≡ text
tail_of-plain [] e = refl
tail_of-plain (c ∷ cs) e = rw e refl

event_of-long : (line : List ℕ) → 4096 < length line → event_of line ≡ None
event_of-long line h = elim (leb_tells (length line) 4096) [ inl le ↦ absurd (omega (arith, le.1)) | inr gt ↦ rw gt.0 refl ]

config_of-long : (line : List ℕ) → 4096 < length line → config_of line ≡ None
config_of-long line h = elim (leb_tells (length line) 4096) [ inl le ↦ absurd (omega (arith, le.1)) | inr gt ↦ rw gt.0 refl ]

-- What stands in the place of a line is bad: no whole line, though something is there, or one that is too long.
abbrev pub IsBad : List ℕ → Type 0
IsBad text =
    ((lines_of text ≡ []) × (c : ℕ) × (more : List ℕ) × (tail_of text ≡ c ∷ more))
    ⊎ ((line : List ℕ) × (lines : List (List ℕ)) × (4096 < length line) × (lines_of text ≡ line ∷ lines))

pub is_bad : (octets more : List ℕ) → LacksFeed octets → 0 < length octets → (4096 < length octets) ⊎ (more ≡ []) → IsBad (octets ++ more)
is_bad [] more h pos why = absurd (omega arith)
is_bad (c ∷ cs) more h pos (inr end) =
    let same : (c ∷ cs) ++ more ≡ c ∷ cs = ap (λ l. (c ∷ cs) ++ l) end ∙ append-nil (c ∷ cs) in
    subst IsBad (sym same) (inl (lines_of-none (c ∷ cs) h, c, cs, tail_of-none (c ∷ cs) h))
is_bad (c ∷ cs) more h pos (inl long) =
    elim (line_or_none (c ∷ cs) more (recursion_from_All (λ x. x ≢ 10) (c ∷ cs) h)) [
      | inl none ↦ inl (none.0, c, cs ++ more, tail_of-plain ((c ∷ cs) ++ more) none.1)
      | inr some ↦ inr ((c ∷ cs) ++ some.0, some.1, simp length-append (omega arith), some.2)
    ]

pub events_in-bad : (text : List ℕ) → IsBad text → events_in text ≡ []
events_in-bad text (inl none) = rw none.0 refl
events_in-bad text (inr some) = rw (some.3, event_of-long some.0 some.2) refl

pub bad_in-bad : (text : List ℕ) (k : ℕ) → IsBad text → bad_in k text ≡ Some k
bad_in-bad text k (inl none) = rw (none.0, none.3) refl
bad_in-bad text k (inr some) = rw (some.3, event_of-long some.0 some.2) refl

pub bad_line-bad : (text : List ℕ) → IsBad text → bad_line text ≡ Some 1
bad_line-bad text (inl none) = rw none.0 refl
bad_line-bad text (inr some) = rw (some.3, config_of-long some.0 some.2) refl

pub script_config-bad : (text : List ℕ) → IsBad text → script_config text ≡ None
script_config-bad text (inl none) = rw none.0 refl
script_config-bad text (inr some) = rw (some.3, config_of-long some.0 some.2) refl
