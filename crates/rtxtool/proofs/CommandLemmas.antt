-- The command line of the program, and what `clap` says of it.
use Rattle.std.proofs.Common.{ℕ, [], ◌∷◌, nat_eq, ◌≡◌, ◌≢◌, ◌∙◌, ap, ap₂, sym, subst, refl, inl, inr, Bool, true, false, not, ◌&&◌, List, Option, Some, None, Result, Ok, Err, option_map, codes}
use Rattle.std.specs.Prelude.{IfErr}
use Rattle.std.proofs.lemmas.Bool.{ne_eqb}
use Rattle.std.proofs.lemmas.Option.{same_Some}
use Rattle.std.specs.Box.{box_value}
use Rattle.clap.proofs.OnLiterals.{clap_on_literals}
use Rattle.clap.specs.Words.{App, app_of, HasKind, HasMatchesOf, IsAmong, Row, Text, fault_of, is_simple, is_simple_and_free, kind_of, subcommand_name_of, subcommand_of, subcommand_rows, subcommand_rows_of, takes}
use Rattle.clap.specs.declared.builder.command.Command.{Command}
use Rattle.clap.specs.declared.builder.command.Command.TheViews.{out-Command}
use Rattle.clap.specs.Walk.{is_empty}
use Rattle.clap.specs.declared.error.Error.{Error}
use Rattle.clap.specs.declared.error.ErrorKind.TheVariants.{OutOfMemory}
use Rattle.clap.specs.declared.parser.matches.ArgMatches.{ArgMatches}
use Rattle.clap.specs.declared.parser.matches.ArgMatches.TheViews.{out-ArgMatches, out-SubCommand}
use Rattle.clap.specs.Takes.{walk_passes}
use Rattle.clap.specs.Walk.{walked}
use Rattle.rtxtool.specs.declared.command_line.Choice.{Choice}
use Rattle.rtxtool.specs.declared.command_line.ChooseFault.{ChooseFault}
use Rattle.rtxtool.specs.declared.command_line.ChooseFault.TheVariants.{Line, Value, OutOfMemory as NoMemory}
use Rattle.rtxtool.specs.CommandLine.{Asked, Misses, MissesIn, Shows, Sims, asked, asked_in, tool}

tool_is_simple : is_simple_and_free tool ≡ true
unfolding clap_on_literals
tool_is_simple = refl

is_false : (b : Bool) → (b ≡ true → ⊥) → b ≡ false
is_false true h = absurd (h refl)
is_false false h = refl

-- an error that is no want of memory has a kind that the words have, for which they are not taken
pub misses : (a : App) (words : List Text) (error : Error) → a ≡ tool → kind_of error ≢ OutOfMemory → (is_simple_and_free a ≡ true → HasKind (fault_of a words) error)
    → (takes a words ≡ true → kind_of error ≡ OutOfMemory) → IsAmong (kind_of error) (fault_of tool words) × (takes tool words ≡ false)
misses a words error is other kinds passes =
    let kind = subst (λ (b : App). is_simple_and_free b ≡ true → HasKind (fault_of b words) error) is kinds in
    let taken = subst (λ (b : App). takes b words ≡ true → kind_of error ≡ OutOfMemory) is passes in
    (elim (kind tool_is_simple) [ inl want ↦ absurd (other want) | inr among ↦ among ], is_false (takes tool words) (λ yes. other (taken yes)))

lacks : (words : List Text) (found : Option Asked) (fault : ChooseFault) → fault_of tool words ≡ [] → asked words ≡ found → MissesIn found fault → Misses words fault
lacks words found (Line error) taken same h = absurd h
lacks words found Value taken same h = (taken, same ∙ h)
lacks words found NoMemory taken same h = tt

lacks_value : (words : List Text) (found : Option Asked) (r : Result Choice ChooseFault) → fault_of tool words ≡ [] → asked words ≡ found → IfErr r (MissesIn found) → IfErr r (Misses words)
lacks_value words found (Ok choice) taken same h = tt
lacks_value words found (Err fault) taken same h = lacks words found fault taken same h

tool_is_plain : is_simple tool ≡ true
unfolding clap_on_literals
tool_is_plain = refl

-- of a line that is taken only a value can be missing
pub taken_lacks : (a : App) (words : List Text) (matches : ArgMatches) (r : Result Choice ChooseFault) → a ≡ tool → (is_simple_and_free a ≡ true → fault_of a words ≡ [])
    → HasMatchesOf a words matches → IfErr r (MissesIn (asked_in (subcommand_rows_of matches))) → IfErr r (Misses words)
taken_lacks a words matches r is kinds has h =
    let fault : fault_of tool words ≡ [] = subst (λ (b : App). is_simple_and_free b ≡ true → fault_of b words ≡ []) is kinds tool_is_simple in
    let met : subcommand_rows_of matches ≡ subcommand_of tool words = (subst (λ (b : App). HasMatchesOf b words matches) is has tool_is_plain).1 in
    lacks_value words (asked_in (subcommand_rows_of matches)) r fault (ap asked_in (sym met)) h

-- the rows of the subcommand that was met
rows_are : (m : ArgMatches) (name : Text) (rows : List Row) → Some name ≡ subcommand_name_of m → Some rows ≡ option_map (λ p. p.1) (subcommand_rows_of m)
    → subcommand_rows_of m ≡ Some (name, rows)
rows_are m name rows =
    elim (out-ArgMatches m).subcommand as (λ o. Some name ≡ option_map (λ b. (out-SubCommand (box_value b)).name.now) o → Some rows ≡ option_map (λ p. p.1) (subcommand_rows o)
    → subcommand_rows o ≡ Some (name, rows)) [
      | None ↦ λ named found. cc named
      | Some b ↦ λ named found. ap₂ (λ (n : Text) (r : List Row). Some (n, r)) (sym (same_Some _ _ named)) (sym (same_Some _ _ found))
    ]

-- ---- a subcommand and a FILE that is no flag

sims : (name : Text) (c : ℕ) (rest : Text) → nat_eq c 45 ≡ false → asked (name ∷ codes "sim" ∷ (c ∷ rest) ∷ []) ≡ Some (Sims (c ∷ rest))
unfolding clap_on_literals walked
sims name c rest h = rw (h, h) refl

sims_taken : (name : Text) (c : ℕ) (rest : Text) → nat_eq c 45 ≡ false → takes tool (name ∷ codes "sim" ∷ (c ∷ rest) ∷ []) ≡ true
unfolding clap_on_literals walked walk_passes
sims_taken name c rest h = rw (h, h) refl

shows : (name : Text) (c : ℕ) (rest : Text) → nat_eq c 45 ≡ false → asked (name ∷ codes "show" ∷ (c ∷ rest) ∷ []) ≡ Some (Shows (c ∷ rest))
unfolding clap_on_literals walked
shows name c rest h = rw (h, h) refl

shows_taken : (name : Text) (c : ℕ) (rest : Text) → nat_eq c 45 ≡ false → takes tool (name ∷ codes "show" ∷ (c ∷ rest) ∷ []) ≡ true
unfolding clap_on_literals walked walk_passes
shows_taken name c rest h = rw (h, h) refl

pub sim_asked : (name : Text) (c : ℕ) (rest : Text) → c ≢ 45 → asked (name ∷ codes "sim" ∷ (c ∷ rest) ∷ []) ≡ Some (Sims (c ∷ rest))
sim_asked name c rest h = sims name c rest (ne_eqb c 45 h)

pub sim_taken : (name : Text) (c : ℕ) (rest : Text) → c ≢ 45 → takes tool (name ∷ codes "sim" ∷ (c ∷ rest) ∷ []) ≡ true
sim_taken name c rest h = sims_taken name c rest (ne_eqb c 45 h)

pub show_asked : (name : Text) (c : ℕ) (rest : Text) → c ≢ 45 → asked (name ∷ codes "show" ∷ (c ∷ rest) ∷ []) ≡ Some (Shows (c ∷ rest))
show_asked name c rest h = shows name c rest (ne_eqb c 45 h)

pub show_taken : (name : Text) (c : ℕ) (rest : Text) → c ≢ 45 → takes tool (name ∷ codes "show" ∷ (c ∷ rest) ∷ []) ≡ true
show_taken name c rest h = shows_taken name c rest (ne_eqb c 45 h)

pub sim_hyphen_asked : (name : Text) → asked (name ∷ codes "sim" ∷ codes "-" ∷ []) ≡ Some (Sims (codes "-"))
unfolding clap_on_literals
sim_hyphen_asked name = refl

pub sim_hyphen_taken : (name : Text) → takes tool (name ∷ codes "sim" ∷ codes "-" ∷ []) ≡ true
unfolding clap_on_literals
sim_hyphen_taken name = refl

pub show_hyphen_asked : (name : Text) → asked (name ∷ codes "show" ∷ codes "-" ∷ []) ≡ Some (Shows (codes "-"))
unfolding clap_on_literals
show_hyphen_asked name = refl

pub show_hyphen_taken : (name : Text) → takes tool (name ∷ codes "show" ∷ codes "-" ∷ []) ≡ true
unfolding clap_on_literals
show_hyphen_taken name = refl

-- a plain command has no argument for its subcommands too
third : (a b c d : Bool) → (a && (not b && (not c && d))) ≡ true → c ≡ false
third false b c d h = cc h
third true true c d h = cc h
third true false true d h = cc h
third true false false d h = refl

pub no_globals : (c : Command) (a : App) → app_of c ≡ a → a.top.is_plain ≡ true → (out-Command c).has_globals ≡ false
no_globals c a is plain =
    third (is_empty (out-Command c).groups.items) (out-Command c).allow_external_subcommands (out-Command c).has_globals _
    (subst (λ (b : App). b.top.is_plain ≡ true) (sym is) plain)
