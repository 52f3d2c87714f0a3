-- A script, line by line, and what is read off its text.
use Rattle.std.proofs.Common.{◌≡◌, ◌≢◌, ℕ, ◌+◌, List, [], ◌∷◌, ◌++◌, refl, sym, ap, ◌∙◌, append_assoc, append-nil, Option, Some, None, Bool, true, false, nat_eq, inl, inr, ◌⊎◌}
use Rattle.std.proofs.lemmas.Option.{none-some}
use Rattle.std.specs.List.{flat_map, AllZip, list_any}
use Rattle.std.proofs.lemmas.List.Elements.{All-cons, All-nil}
use Rattle.std.proofs.lemmas.Bool.Decides.{eqb_tells}
use Rattle.world.specs.declared.event.Event.{Event}
use Rattle.world.specs.Config.{Config}
use Rattle.commands.specs.Lines.{lines_of, tail_of}
use Rattle.lines.specs.ConfigLine.{config_of}
use Rattle.lines.specs.EventLine.{event_of}
use Rattle.commands.specs.Script.{script_config, script_events, bad_line, events_in, events_from, bad_in, bad_from, config_first}
use Rattle.commands.specs.IsScript.{IsScript, LacksFeed, IsLineOf, ended}
use Rattle.commands.proofs.ScriptLemmas.{events_in-line, bad_in-line, script_config-line, script_events-line, bad_line-line}

-- ---- from a script to what is read off it

one_line : (line more : List ℕ) → ended line ++ more ≡ line ++ 10 ∷ more
one_line line more = append_assoc line (10 ∷ []) more

events_in-lines : (lines : List (List ℕ)) (events : List Event) → AllZip IsLineOf lines events → events_in (flat_map ended lines) ≡ events
events_in-lines [] [] h = refl
events_in-lines [] (event ∷ events) h = absurd h
events_in-lines (line ∷ lines) [] h = absurd h
events_in-lines (line ∷ lines) (event ∷ events) h =
    events_in-line _ line (flat_map ended lines) event (one_line line (flat_map ended lines)) h.0.1 h.0.0 ∙ ap (λ l. event ∷ l) (events_in-lines lines events h.1)

bad_in-lines : (k : ℕ) (lines : List (List ℕ)) (events : List Event) → AllZip IsLineOf lines events → bad_in k (flat_map ended lines) ≡ None
bad_in-lines k [] [] h = refl
bad_in-lines k [] (event ∷ events) h = absurd h
bad_in-lines k (line ∷ lines) [] h = absurd h
bad_in-lines k (line ∷ lines) (event ∷ events) h =
    bad_in-line _ line (flat_map ended lines) event k (one_line line (flat_map ended lines)) h.0.1 h.0.0 ∙ bad_in-lines (k + 1) lines events h.1

first_line : (text : List ℕ) (c : Config) (events : List Event) → (s : IsScript text c events) → text ≡ s.first ++ 10 ∷ flat_map ended s.lines
first_line text c events s = s.whole ∙ one_line s.first (flat_map ended s.lines)

pub no_bad_line : (text : List ℕ) (c : Config) (events : List Event) → IsScript text c events → bad_line text ≡ None
no_bad_line text c events s =
    bad_line-line text s.first (flat_map ended s.lines) c (first_line text c events s) s.one_line s.config_line ∙ bad_in-lines 2 s.lines events s.event_lines

pub read_config : (text : List ℕ) (c : Config) (events : List Event) → IsScript text c events → script_config text ≡ Some c
read_config text c events s = script_config-line text s.first (flat_map ended s.lines) c (first_line text c events s) s.one_line s.config_line

pub read_events : (text : List ℕ) (c : Config) (events : List Event) → IsScript text c events → script_events text ≡ events
read_events text c events s =
    script_events-line text s.first (flat_map ended s.lines) c (first_line text c events s) s.one_line s.config_line ∙ events_in-lines s.lines events s.event_lines

-- ---- and back

-- no line has a line feed in it
abbrev AreLines : List (List ℕ) → Type 0
AreLines [] = Unit {0}
AreLines (line ∷ lines) = LacksFeed line × AreLines lines

abbrev has_feed : List ℕ → Bool
has_feed text = list_any (λ x. nat_eq x 10) text

-- a text with no line feed is its own tail
record IsTail (text : List ℕ) : Type 0 where
  none : has_feed text ≡ false
  lines : lines_of text ≡ []
  tail : tail_of text ≡ text

-- a text with one is its whole lines, and then its tail
record IsCut (text : List ℕ) : Type 0 where
  some : has_feed text ≡ true
  first : List ℕ
  others : List (List ℕ)
  lines : lines_of text ≡ first ∷ others
  whole : text ≡ flat_map ended (first ∷ others) ++ tail_of text
  plain : AreLines (first ∷ others)

-- a text in pieces, where a line feed stands before it
fed : (c : ℕ) (cs : List ℕ) → nat_eq c 10 ≡ true → c ≡ 10 → IsTail cs ⊎ IsCut cs → IsCut (c ∷ cs)
fed c cs is same (inl rest) =
    record {
      some = rw is refl;
      first = [];
      others = [];
      lines = rw (is, rest.lines) refl;
      whole = rw (is, rest.tail) (ap (λ x. x ∷ cs) same);
      plain = (All-nil (λ x. x ≢ 10), tt);
    }
fed c cs is same (inr rest) =
    record {
      some = rw is refl;
      first = [];
      others = rest.first ∷ rest.others;
      lines = rw (is, rest.lines) refl;
      whole = rw is (ap (λ x. x ∷ cs) same ∙ ap (λ l. 10 ∷ l) rest.whole);
      plain = (All-nil (λ x. x ≢ 10), rest.plain);
    }

-- and where another character does
unfed : (c : ℕ) (cs : List ℕ) → nat_eq c 10 ≡ false → c ≢ 10 → IsTail cs ⊎ IsCut cs → IsTail (c ∷ cs) ⊎ IsCut (c ∷ cs)
unfed c cs is other (inl rest) = inl (record { none = rw (is, rest.none) refl; lines = rw (is, rest.lines) refl; tail = rw (is, rest.none) refl })
unfed c cs is other (inr rest) =
    inr (record {
      some = rw (is, rest.some) refl;
      first = c ∷ rest.first;
      others = rest.others;
      lines = rw (is, rest.lines) refl;
      whole = rw (is, rest.some) (ap (λ l. c ∷ l) rest.whole);
      plain = (All-cons (λ x. x ≢ 10) c rest.first other rest.plain.0, rest.plain.1);
    })

cut : (text : List ℕ) → IsTail text ⊎ IsCut text
cut [] = inl (record { none = refl; lines = refl; tail = refl })
cut (c ∷ cs) = elim (eqb_tells c 10) [ inl same ↦ inr (fed c cs same.0 same.1 (cut cs)) | inr other ↦ unfed c cs other.0 other.1 (cut cs) ]

-- lines of which none is bad say their events, and nothing follows them
abbrev AreGood : ℕ → List (List ℕ) → List ℕ → Type 0
AreGood k lines rest = bad_from k lines rest ≡ None → AllZip IsLineOf lines (events_from lines) × (rest ≡ [])

good_line : (k : ℕ) (line : List ℕ) (lines : List (List ℕ)) (rest : List ℕ) (o : Option Event) → event_of line ≡ o → LacksFeed line → AreGood (k + 1) lines rest → AreGood k (line ∷ lines) rest
good_line k line lines rest None is plain later good = absurd (none-some k (sym (rw is at good)))
good_line k line lines rest (Some event) is plain later good =
    let others = later (rw is at good) in
    rw is (((is, plain), others.0), others.1)

good_lines : (k : ℕ) (lines : List (List ℕ)) (rest : List ℕ) → AreLines lines → AreGood k lines rest
good_lines k [] [] plain good = (tt, refl)
good_lines k [] (c ∷ cs) plain good = absurd (none-some k (sym good))
good_lines k (line ∷ lines) rest plain good = good_line k line lines rest (event_of line) refl plain.0 (good_lines (k + 1) lines rest plain.1) good

pub read_script : (text : List ℕ) (c : Config) → bad_line text ≡ None → script_config text ≡ Some c → IsScript text c (script_events text)
read_script text c good is = go (cut text)
  where
    go : IsTail text ⊎ IsCut text → IsScript text c (script_events text)
    go (inl none) = absurd (none-some c (ap config_first (sym none.lines) ∙ is))
    go (inr parts) =
        let config : config_of parts.first ≡ Some c = rw parts.lines at is in
        let later = good_lines 2 parts.others (tail_of text) parts.plain.1 (rw (parts.lines, config) at good) in
        record {
          first = parts.first;
          lines = parts.others;
          whole = parts.whole ∙ ap (λ l. flat_map ended (parts.first ∷ parts.others) ++ l) later.1 ∙ append-nil (flat_map ended (parts.first ∷ parts.others));
          config_line = config;
          one_line = parts.plain.0;
          event_lines = rw (parts.lines, config) later.0;
        }
