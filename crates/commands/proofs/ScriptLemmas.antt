-- What the first line of a text says of the text.
use Rattle.std.proofs.Common.{◌≡◌, ℕ, ◌+◌, List, [], ◌∷◌, ◌++◌, take, drop, refl, ap, ◌∙◌, sym, Some, None, Option, is_some, true, false, append_assoc, subst}
use Rattle.std.specs.Option.{IfSome}
use Rattle.std.specs.Io.KnownBytes.{Keeps, prepend_known}
use Rattle.world.specs.declared.event.Event.{Event}
use Rattle.world.specs.Config.{Config}
use Rattle.commands.specs.declared.fault.SimFault.TheVariants.{BadLine}
use Rattle.commands.specs.declared.sim.Next.TheVariants.{Line, End, Refused}
use Rattle.lines.specs.ConfigLine.{config_of}
use Rattle.lines.specs.EventLine.{event_of}
use Rattle.commands.specs.Script.{script_config, script_events, bad_line, events_in, events_from, bad_in}
use Rattle.commands.specs.IsScript.{LacksFeed}
use Rattle.commands.specs.Found.{Found}
use Rattle.commands.specs.Reading.{IfBoth, TakesConfig, Continues, FailsFirst, FailsAt}
use Rattle.commands.proofs.LineLemmas.{lines_of-cut, tail_of-cut}
use Rattle.commands.proofs.BadLineLemmas.{is_bad, IsBad, events_in-bad, bad_in-bad, bad_line-bad, script_config-bad}

-- ---- a whole line

pub events_in-line : (text line more : List ℕ) (event : Event) → text ≡ line ++ 10 ∷ more → LacksFeed line → event_of line ≡ Some event → events_in text ≡ event ∷ events_in more
events_in-line text line more event e h a = ap events_from (lines_of-cut text line more e h) ∙ rw a refl

pub bad_in-line : (text line more : List ℕ) (event : Event) (k : ℕ) → text ≡ line ++ 10 ∷ more → LacksFeed line → event_of line ≡ Some event → bad_in k text ≡ bad_in (k + 1) more
bad_in-line text line more event k e h a = rw (lines_of-cut text line more e h, tail_of-cut text line more e, a) refl

pub script_config-line : (text line more : List ℕ) (config : Config) → text ≡ line ++ 10 ∷ more → LacksFeed line → config_of line ≡ Some config → script_config text ≡ Some config
script_config-line text line more config e h a = rw (lines_of-cut text line more e h) a

pub script_events-line : (text line more : List ℕ) (config : Config) → text ≡ line ++ 10 ∷ more → LacksFeed line → config_of line ≡ Some config → script_events text ≡ events_in more
script_events-line text line more config e h a = rw (lines_of-cut text line more e h, a) refl

pub bad_line-line : (text line more : List ℕ) (config : Config) → text ≡ line ++ 10 ∷ more → LacksFeed line → config_of line ≡ Some config → bad_line text ≡ bad_in 2 more
bad_line-line text line more config e h a = rw (lines_of-cut text line more e h, tail_of-cut text line more e, a) refl

events_in-none : (text line more : List ℕ) → text ≡ line ++ 10 ∷ more → LacksFeed line → event_of line ≡ None → events_in text ≡ []
events_in-none text line more e h a = ap events_from (lines_of-cut text line more e h) ∙ rw a refl

bad_in-none : (text line more : List ℕ) (k : ℕ) → text ≡ line ++ 10 ∷ more → LacksFeed line → event_of line ≡ None → bad_in k text ≡ Some k
bad_in-none text line more k e h a = rw (lines_of-cut text line more e h, a) refl

bad_line-none : (text line more : List ℕ) → text ≡ line ++ 10 ∷ more → LacksFeed line → config_of line ≡ None → bad_line text ≡ Some 1
bad_line-none text line more e h a = rw (lines_of-cut text line more e h, a) refl

script_config-none : (text line more : List ℕ) → text ≡ line ++ 10 ∷ more → LacksFeed line → config_of line ≡ None → script_config text ≡ None
script_config-none text line more e h a = rw (lines_of-cut text line more e h) a

-- ---- the same, where the text is what is held and then what the reader has left

line_of_known : (text held left : List ℕ) (at : ℕ) → held ++ left ≡ text → held ≡ take at held ++ 10 ∷ drop (at + 1) held → text ≡ take at held ++ 10 ∷ (drop (at + 1) held ++ left)
line_of_known text held left at p e = sym p ∙ ap (λ l. l ++ left) e ∙ append_assoc (take at held) (10 ∷ drop (at + 1) held) left

pub event_at : (old left : Option (List ℕ)) (held : List ℕ) (at : ℕ) (event : Event) → Keeps old (prepend_known held left) → Found (Line at) held left
    → event_of (take at held) ≡ Some event → IfBoth old (prepend_known (drop (at + 1) held) left) (Continues (Some event))
event_at None left held at event p f a = tt
event_at (Some x) None held at event p f a = absurd p
event_at (Some x) (Some y) held at event p f a =
    record { line = take at held; whole = line_of_known x held y at p f.1; says = (a, f.2) }

pub end_at : (old left : Option (List ℕ)) (held : List ℕ) → Keeps old (prepend_known held left) → Found End held left → IfBoth old (prepend_known held left) (Continues None)
end_at None left held p f = tt
end_at (Some x) None held p f = absurd p
end_at (Some x) (Some y) held p f = sym p ∙ ap (λ l. l ++ y) f.0 ∙ f.1

pub fails_at : (old left : Option (List ℕ)) (held : List ℕ) (at number : ℕ) → Keeps old (prepend_known held left) → Found (Line at) held left
    → event_of (take at held) ≡ None → IfSome old (FailsAt number (BadLine number))
fails_at None left held at number p f a = tt
fails_at (Some x) None held at number p f a = absurd p
fails_at (Some x) (Some y) held at number p f a =
    let e = line_of_known x held y at p f.1 in
    (refl, events_in-none x _ _ e f.2 a, bad_in-none x _ _ number e f.2 a)

-- the same of what was read there, whichever of both it is
pub event_read : (old left : Option (List ℕ)) (held : List ℕ) (at : ℕ) (read : Option Event) → Keeps old (prepend_known held left) → Found (Line at) held left
    → read ≡ event_of (take at held) → is_some read ≡ true → IfBoth old (prepend_known (drop (at + 1) held) left) (Continues read)
event_read old left held at None p f a some = absurd cc
event_read old left held at (Some event) p f a some = event_at old left held at event p f (sym a)

pub fails_read : (old left : Option (List ℕ)) (held : List ℕ) (at number : ℕ) (read : Option Event) → Keeps old (prepend_known held left) → Found (Line at) held left
    → read ≡ event_of (take at held) → is_some read ≡ false → IfSome old (FailsAt number (BadLine number))
fails_read old left held at number None p f a none = fails_at old left held at number p f (sym a)
fails_read old left held at number (Some event) p f a none = absurd cc

pub fails_refused : (old left : Option (List ℕ)) (held : List ℕ) (number : ℕ) → Keeps old (prepend_known held left) → Found Refused held left → IfSome old (FailsAt number (BadLine number))
fails_refused None left held number p f = tt
fails_refused (Some x) None held number p f = absurd p
fails_refused (Some x) (Some y) held number p f =
    let bad = subst IsBad p (is_bad held y f.0 f.1 f.2) in
    (refl, events_in-bad x bad, bad_in-bad x number bad)

pub config_at : (old left : Option (List ℕ)) (held : List ℕ) (at : ℕ) (config : Config) → Keeps old (prepend_known held left) → Found (Line at) held left
    → config_of (take at held) ≡ Some config → IfBoth old (prepend_known (drop (at + 1) held) left) (TakesConfig config)
config_at None left held at config p f a = tt
config_at (Some x) None held at config p f a = absurd p
config_at (Some x) (Some y) held at config p f a =
    record { line = take at held; whole = line_of_known x held y at p f.1; says = a; one_line = f.2 }

pub fails_first : (old left : Option (List ℕ)) (held : List ℕ) (at : ℕ) → Keeps old (prepend_known held left) → Found (Line at) held left
    → config_of (take at held) ≡ None → IfSome old (FailsFirst (BadLine 1))
fails_first None left held at p f a = tt
fails_first (Some x) None held at p f a = absurd p
fails_first (Some x) (Some y) held at p f a =
    let e = line_of_known x held y at p f.1 in
    (refl, bad_line-none x _ _ e f.2 a, script_config-none x _ _ e f.2 a)

pub fails_first_refused : (old left : Option (List ℕ)) (held : List ℕ) → Keeps old (prepend_known held left) → Found Refused held left → IfSome old (FailsFirst (BadLine 1))
fails_first_refused None left held p f = tt
fails_first_refused (Some x) None held p f = absurd p
fails_first_refused (Some x) (Some y) held p f =
    let bad = subst IsBad p (is_bad held y f.0 f.1 f.2) in
    (refl, bad_line-bad x bad, script_config-bad x bad)

pub fails_first_end : (old left : Option (List ℕ)) (held : List ℕ) → Keeps old (prepend_known held left) → Found End held left → IfSome old (FailsFirst (BadLine 1))
fails_first_end None left held p f = tt
fails_first_end (Some x) None held p f = absurd p
fails_first_end (Some x) (Some y) held p f =
    let empty : x ≡ [] = sym p ∙ ap (λ l. l ++ y) f.0 ∙ f.1 in
    rw empty (refl, refl, refl)
