-- How far a simulation has come: what was read and written, and what the rest of the text says.
use Rattle.std.proofs.Common.{◌≡◌, ℕ, ◌+◌, List, [], ◌∷◌, ◌++◌, length, take, reverse, refl, sym, ap, ◌∙◌, subst, arith, Option, Some, None, Result, Ok, Err, IfErr, append_assoc, append-nil, length-append, inl, inr}
use Rattle.std.specs.List.{flat_map, AllZip}
use Rattle.std.specs.Option.{IfSome}
use Rattle.std.specs.Result.{IsErrAnd}
use Rattle.std.specs.Io.KnownBytes.{Appends, Keeps, append_known, prepend_known}
use Rattle.std.proofs.Math.Seq.{take-append_seam, take-append-add}
use Rattle.std.proofs.lemmas.List.{take_all}
use Rattle.world.specs.declared.event.Event.{Event}
use Rattle.world.specs.Config.{Config}
use Rattle.world.specs.Answers.{Answers, new_stand}
use Rattle.world.specs.World.{Recorded, stand_of, empty}
use Rattle.commands.specs.declared.fault.SimFault.{SimFault}
use Rattle.commands.specs.declared.fault.SimFault.TheVariants.{BadLine, Read, Write, OutOfMemory}
use Rattle.commands.specs.Script.{script_config, script_events, bad_line, events_in, bad_in}
use Rattle.commands.specs.IsScript.{IsScript, IsLineOf, ended}
use Rattle.lines.specs.LogText.{log_text}
use Rattle.commands.specs.Reading.{IfBoth, TakesConfig, Continues, EndsWith, FailsFirst, FailsAt, Leaves}
use Rattle.commands.specs.Sim.{Prints, PrintsAny, Advances, IsDone, IsStopped, WroteSome, WroteOfRead, AnswersRead}
use Rattle.commands.proofs.KnownLemmas.{Appends-trans, Appends-nil, Appends-kept}
use Rattle.commands.proofs.LogLemmas.{AreOnWire, log_text-step, answers_more}
use Rattle.commands.proofs.ScriptLemmas.{script_config-line, script_events-line, bad_line-line, events_in-line, bad_in-line}

-- What was read is the script of the events that the world did, and their log was written. Whatever follows
-- it, the text's events are these and then those of what follows.
pub record Progress (world : Recorded) (count : ℕ) (old new : Option (List ℕ)) (text rest : List ℕ) : Type 0 where
  pub events : List Event
  pub answers : Answers world.config (reverse events) (reverse world.log) (stand_of world)
  pub on_wire : AreOnWire world.log world.wire
  pub counted : length events ≡ count
  pub wrote : Appends old new (log_text world.log world.wire)
  pub read : List ℕ
  pub split : text ≡ read ++ rest
  pub script : IsScript read world.config events
  pub config : (more : List ℕ) → script_config (read ++ more) ≡ Some world.config
  pub then_events : (more : List ℕ) → script_events (read ++ more) ≡ events ++ events_in more
  pub then_bad : (more : List ℕ) → bad_line (read ++ more) ≡ bad_in (count + 2) more

-- ---- of texts

start : (config : Config) (v w : Option (List ℕ)) (x y : List ℕ) → TakesConfig config x y → Keeps v w → Progress (empty config) 0 v w x y
start config v w x y b k =
    record {
      events = [];
      answers = refl;
      on_wire = tt;
      counted = refl;
      wrote = Appends-kept v v w [] (Appends-nil v) k;
      read = b.line ++ 10 ∷ [];
      split = b.whole ∙ sym (append_assoc b.line (10 ∷ []) y);
      script = record { first = b.line; lines = []; whole = sym (append-nil (b.line ++ 10 ∷ [])); config_line = b.says; one_line = b.one_line; event_lines = tt };
      config = λ r. script_config-line _ b.line r config (append_assoc b.line (10 ∷ []) r) b.one_line b.says;
      then_events = λ r. script_events-line _ b.line r config (append_assoc b.line (10 ∷ []) r) b.one_line b.says;
      then_bad = λ r. bad_line-line _ b.line r config (append_assoc b.line (10 ∷ []) r) b.one_line b.says;
    }

-- what was written stays, as while it is brought out
kept : (world : Recorded) (count : ℕ) (u v w : Option (List ℕ)) (x y : List ℕ) → Progress world count u v x y → Keeps v w → Progress world count u w x y
kept world count u v w x y p k =
    record {
      events = p.events;
      answers = p.answers;
      on_wire = p.on_wire;
      counted = p.counted;
      wrote = Appends-kept u v w _ p.wrote k;
      read = p.read;
      split = p.split;
      script = p.script;
      config = p.config;
      then_events = p.then_events;
      then_bad = p.then_bad;
    }

-- the log of one more event
grown : (old new : Recorded) (event : Event) (line : List ℕ) → Advances old event new line → AreOnWire old.log old.wire →
    AreOnWire new.log new.wire × (log_text new.log new.wire ≡ log_text old.log old.wire ++ line)
grown old new event line a h =
    let g = log_text-step old.config old.log (stand_of old) event a.entry (stand_of new) h a.step in (
      rw a.log g.on,
      ap (λ l. log_text l new.wire) a.log ∙ g.text ∙ ap (λ t. log_text old.log old.wire ++ t) (sym a.is),
    )

-- lines that say events, and one more
says_more : (lines : List (List ℕ)) (events : List Event) (line : List ℕ) (event : Event) → AllZip IsLineOf lines events → IsLineOf line event → AllZip IsLineOf (lines ++ line ∷ []) (events ++ event ∷ [])
says_more [] [] line event h says = (says, tt)
says_more [] (e ∷ events) line event h says = absurd h
says_more (l ∷ lines) [] line event h says = absurd h
says_more (l ∷ lines) (e ∷ events) line event h says = (h.0, says_more lines events line event h.1 says)

ended_more : (lines : List (List ℕ)) (line : List ℕ) → flat_map ended (lines ++ line ∷ []) ≡ flat_map ended lines ++ (line ++ 10 ∷ [])
ended_more [] line = append-nil (line ++ 10 ∷ [])
ended_more (l ∷ lines) line = ap (λ t. ended l ++ t) (ended_more lines line) ∙ sym (append_assoc (ended l) (flat_map ended lines) (line ++ 10 ∷ []))

-- a script and one more line
script_more : (read line : List ℕ) (config : Config) (events : List Event) (event : Event) → IsScript read config events → IsLineOf line event →
    IsScript (read ++ (line ++ 10 ∷ [])) config (events ++ event ∷ [])
script_more read line config events event s says =
    record {
      first = s.first;
      lines = s.lines ++ line ∷ [];
      whole = ap (λ t. t ++ (line ++ 10 ∷ [])) s.whole ∙ append_assoc (ended s.first) (flat_map ended s.lines) (line ++ 10 ∷ []) ∙ ap (λ t. ended s.first ++ t) (sym (ended_more s.lines line));
      config_line = s.config_line;
      one_line = s.one_line;
      event_lines = says_more s.lines events line event s.event_lines says;
    }

-- the text that was read, one more line, and what follows that
one_more : (read line more : List ℕ) → (read ++ (line ++ 10 ∷ [])) ++ more ≡ read ++ (line ++ 10 ∷ more)
one_more read line more = append_assoc read (line ++ 10 ∷ []) more ∙ ap (λ t. read ++ t) (append_assoc line (10 ∷ []) more)

step : (old new : Recorded) (count : ℕ) (event : Event) (line : List ℕ) (u v w : Option (List ℕ)) (x y z : List ℕ) → Progress old count u v x y → Continues (Some event) y z
    → Advances old event new line → Appends v w line → Progress new (count + 1) u w x z
step old new count event line u v w x y z p more a q =
    let text = more.line in
    let log = grown old new event line a p.on_wire in
    record {
      events = p.events ++ event ∷ [];
      answers = rw (a.config, a.log) (answers_more old.config p.events old.log (stand_of old) (stand_of new) event a.entry p.answers a.step);
      on_wire = log.0;
      counted = length-append p.events (event ∷ []) ∙ ap (λ n. n + 1) p.counted;
      wrote = subst (Appends u w) (sym log.1) (Appends-trans u v w _ _ p.wrote q);
      read = p.read ++ (text ++ 10 ∷ []);
      split = p.split ∙ ap (λ t. p.read ++ t) more.whole ∙ sym (one_more p.read text z);
      script = rw a.config (script_more p.read text old.config p.events event p.script more.says);
      config = λ r. rw (one_more p.read text r, a.config) (p.config (text ++ 10 ∷ r));
      then_events = λ r. ap script_events (one_more p.read text r) ∙ p.then_events (text ++ 10 ∷ r)
          ∙ ap (λ events. p.events ++ events) (events_in-line (text ++ 10 ∷ r) text r event refl more.says.1 more.says.0) ∙ sym (append_assoc p.events (event ∷ []) (events_in r));
      then_bad = λ r. ap bad_line (one_more p.read text r) ∙ p.then_bad (text ++ 10 ∷ r)
          ∙ bad_in-line (text ++ 10 ∷ r) text r event (count + 2) refl more.says.1 more.says.0 ∙ ap (λ k. bad_in k r) (omega arith);
    }

prints : (world : Recorded) (count : ℕ) (u v : Option (List ℕ)) (x y : List ℕ) → (p : Progress world count u v x y) → Prints world.config p.events (log_text world.log world.wire)
prints world count u v x y p = record { log = world.log; end = stand_of world; answers = p.answers; is = refl }

done : (world : Recorded) (count : ℕ) (u v : Option (List ℕ)) (x y z : List ℕ) → Progress world count u v x y → Continues None y z → IsDone count x u v
done world count u v x y z p end =
    record {
      config = world.config;
      events = p.events;
      script = subst (λ t. IsScript t world.config p.events) (sym (p.split ∙ ap (λ t. p.read ++ t) end ∙ append-nil p.read)) p.script;
      counted = sym p.counted;
      printed = log_text world.log world.wire;
      prints = prints world count u v x y p;
      wrote = p.wrote;
    }

stopped : (world : Recorded) (count : ℕ) (fault : SimFault) (u v : Option (List ℕ)) (x y : List ℕ) → Progress world count u v x y → FailsAt (count + 2) fault y → IsStopped fault x u v
stopped world count (BadLine k) u v x y p bad = (
  ap bad_line p.split ∙ p.then_bad y ∙ bad.2 ∙ ap Some (sym bad.0),
  record {
    printed = log_text world.log world.wire;
    prints = rw (p.split, p.config y, p.then_events y, bad.1, append-nil p.events) (prints world count u v x y p);
    wrote = p.wrote;
  },
)
stopped world count Read u v x y p bad = tt
stopped world count Write u v x y p bad = tt
stopped world count OutOfMemory u v x y p bad = tt

stopped_first : (fault : SimFault) (u v : Option (List ℕ)) (x : List ℕ) → FailsFirst fault x → Keeps u v → IsStopped fault x u v
stopped_first (BadLine n) u v x bad k = (bad.1 ∙ ap Some (sym bad.0), record { printed = []; prints = rw bad.2 refl; wrote = Appends-kept u u v [] (Appends-nil u) k })
stopped_first Read u v x bad k = tt
stopped_first Write u v x bad k = tt
stopped_first OutOfMemory u v x bad k = tt

-- ---- what was written of what was read

-- whatever follows what was read, its first events print what was written
prints_first : (world : Recorded) (count : ℕ) (u v : Option (List ℕ)) (x y more : List ℕ) → (p : Progress world count u v x y) →
    PrintsAny (script_config (p.read ++ more)) (take (length p.events) (script_events (p.read ++ more))) (log_text world.log world.wire)
prints_first world count u v x y more p = rw (p.config more, p.then_events more, take-append_seam) (prints world count u v x y p)

wrote_some : (world : Recorded) (count : ℕ) (u v : Option (List ℕ)) (x y more : List ℕ) → (p : Progress world count u v x y) → WroteSome (p.read ++ more) u v
wrote_some world count u v x y more p =
    record {
      count = length p.events;
      printed = log_text world.log world.wire;
      prints = prints_first world count u v x y more p;
      size = length (log_text world.log world.wire);
      wrote = rw (take_all (length (log_text world.log world.wire)) (log_text world.log world.wire) (omega arith)) p.wrote;
    }

of_read : (world : Recorded) (count : ℕ) (u v : Option (List ℕ)) (x y left : List ℕ) → Progress world count u v x y → EndsWith y left → WroteOfRead u v x left
of_read world count u v x y left p end = (
  p.read ++ end.0,
  p.split ∙ ap (λ t. p.read ++ t) end.1 ∙ sym (append_assoc p.read end.0 left),
  wrote_some world count u v x y end.0 p,
)

appends_known : (v : Option (List ℕ)) (line : List ℕ) → Appends v (append_known v line) line
appends_known None line = tt
appends_known (Some x) line = refl

-- an event was done, and the front of its line was written
of_read_part : (old new : Recorded) (count n : ℕ) (event : Event) (line : List ℕ) (u v w : Option (List ℕ)) (x y z left : List ℕ) → Progress old count u v x y → Continues (Some event) y z
    → Advances old event new line → Appends v w (take n line) → EndsWith z left → WroteOfRead u w x left
of_read_part old new count n event line u v w x y z left p more a q end =
    let later = step old new count event line u v (append_known v line) x y z p more a (appends_known v line) in
    let before = log_text old.log old.wire in
    let part : take (length before + n) (log_text new.log new.wire) ≡ before ++ take n line =
    ap (take (length before + n)) (grown old new event line a p.on_wire).1 ∙ take-append-add before line n in (
      later.read ++ end.0,
      later.split ∙ ap (λ t. later.read ++ t) end.1 ∙ sym (append_assoc later.read end.0 left),
      record {
        count = length later.events;
        printed = log_text new.log new.wire;
        prints = prints_first new (count + 1) u (append_known v line) x z end.0 later;
        size = length before + n;
        wrote = subst (Appends u w) (sym part) (Appends-trans u v w _ _ p.wrote q);
      },
    )

-- before the first event nothing was written
prints_nothing : (o : Option Config) (events : List Event) → PrintsAny o (take 0 events) []
prints_nothing None events = refl
prints_nothing (Some c) events = record { log = []; end = new_stand c; answers = refl; is = refl }

nothing_of_read : (u v : Option (List ℕ)) (x left : List ℕ) → EndsWith x left → Keeps u v → WroteOfRead u v x left
nothing_of_read u v x left end k = (
  end.0,
  end.1,
  record { count = 0; printed = []; prints = prints_nothing (script_config end.0) (script_events end.0); size = 0; wrote = Appends-kept u u v [] (Appends-nil u) k },
)

-- ---- of what is known

pub known_start : (config : Config) (old left v w : Option (List ℕ)) → IfBoth (prepend_known [] old) left (TakesConfig config) → Keeps v w → IfBoth old left (Progress (empty config) 0 v w)
known_start config None left v w b k = tt
known_start config (Some x) None v w b k = absurd b
known_start config (Some x) (Some y) v w b k = start config v w x y b k

pub known_first : (fault : SimFault) (old u v : Option (List ℕ)) → IfSome (prepend_known [] old) (FailsFirst fault) → Keeps u v → IfSome old (λ text. IsStopped fault text u v)
known_first fault None u v bad k = tt
known_first fault (Some x) u v bad k = stopped_first fault u v x bad k

-- a fault of memory or of the writer says nothing of a line
pub known_memory : {T : Type 0} (r : Result T SimFault) (old u v : Option (List ℕ)) → IsErrAnd r (λ x. x ≡ OutOfMemory) → IfErr r (λ fault. IfSome old (λ text. IsStopped fault text u v))
known_memory (Ok x) old u v is = tt
known_memory (Err fault) None u v is = tt
known_memory (Err fault) (Some x) u v is = subst (λ (f : SimFault). IsStopped f x u v) (sym is) tt

pub known_unwritten : (fault : SimFault) (old u v : Option (List ℕ)) → fault ≡ Write → IfSome old (λ text. IsStopped fault text u v)
known_unwritten fault None u v is = tt
known_unwritten fault (Some x) u v is = subst (λ (f : SimFault). IsStopped f x u v) (sym is) tt

pub known_kept : (world : Recorded) (count : ℕ) (text left u v w : Option (List ℕ)) → IfBoth text left (Progress world count u v) → Keeps v w → IfBoth text left (Progress world count u w)
known_kept world count None left u v w p k = tt
known_kept world count (Some x) None u v w p k = absurd p
known_kept world count (Some x) (Some y) u v w p k = kept world count u v w x y p k

pub known_step : (old new : Recorded) (count : ℕ) (event : Event) (line : List ℕ) (text left more u v w : Option (List ℕ)) → IfBoth text left (Progress old count u v)
    → IfBoth left more (Continues (Some event)) → Advances old event new line → Appends v w line → IfBoth text more (Progress new (count + 1) u w)
known_step old new count event line None left more u v w p next a q = tt
known_step old new count event line (Some x) None more u v w p next a q = absurd p
known_step old new count event line (Some x) (Some y) None u v w p next a q = absurd next
known_step old new count event line (Some x) (Some y) (Some z) u v w p next a q = step old new count event line u v w x y z p next a q

pub known_done : (world : Recorded) (count : ℕ) (text left more u v : Option (List ℕ)) → IfBoth text left (Progress world count u v) → IfBoth left more (Continues None) → IfSome text (λ t. IsDone count t u v)
known_done world count None left more u v p end = tt
known_done world count (Some x) None more u v p end = absurd p
known_done world count (Some x) (Some y) None u v p end = absurd end
known_done world count (Some x) (Some y) (Some z) u v p end = done world count u v x y z p end

pub known_stopped : (world : Recorded) (count : ℕ) (fault : SimFault) (text left u v : Option (List ℕ)) → IfBoth text left (Progress world count u v) → IfSome left (FailsAt (count + 2) fault)
    → IfSome text (λ t. IsStopped fault t u v)
known_stopped world count fault None left u v p bad = tt
known_stopped world count fault (Some x) None u v p bad = absurd p
known_stopped world count fault (Some x) (Some y) u v p bad = stopped world count fault u v x y p bad

pub known_of_read : (world : Recorded) (count : ℕ) (text left more u v : Option (List ℕ)) → IfBoth text left (Progress world count u v) → IfBoth left more EndsWith → IfBoth text more (WroteOfRead u v)
known_of_read world count None left more u v p end = tt
known_of_read world count (Some x) None more u v p end = absurd p
known_of_read world count (Some x) (Some y) None u v p end = absurd end
known_of_read world count (Some x) (Some y) (Some z) u v p end = of_read world count u v x y z p end

-- what the reader has left stands behind what is held
pub held_ends : (left : Option (List ℕ)) (held : List ℕ) → IfBoth (prepend_known held left) left EndsWith
held_ends None held = tt
held_ends (Some y) held = (held, refl)

-- an event was read, which leaves so much
pub taken_ends : (event : Event) (left more : Option (List ℕ)) (held : List ℕ) → IfBoth left (prepend_known held more) (Continues (Some event)) → IfBoth left more EndsWith
taken_ends event None more held next = tt
taken_ends event (Some y) None held next = absurd next
taken_ends event (Some y) (Some z) held next = (next.line ++ 10 ∷ held, next.whole ∙ sym (append_assoc next.line (10 ∷ held) z))

pub known_of_read_part : (old new : Recorded) (count n : ℕ) (event : Event) (line : List ℕ) (text left more u v w : Option (List ℕ)) (held : List ℕ) → IfBoth text left (Progress old count u v)
    → IfBoth left (prepend_known held more) (Continues (Some event)) → Advances old event new line → Appends v w (take n line) → IfBoth text more (WroteOfRead u w)
known_of_read_part old new count n event line None left more u v w held p next a q = tt
known_of_read_part old new count n event line (Some x) None more u v w held p next a q = absurd p
known_of_read_part old new count n event line (Some x) (Some y) None u v w held p next a q = absurd next
known_of_read_part old new count n event line (Some x) (Some y) (Some z) u v w held p next a q = of_read_part old new count n event line u v w x y (held ++ z) z p next a q (held, refl)

pub known_nothing_of_read : (text left u v : Option (List ℕ)) → IfBoth (prepend_known [] text) left EndsWith → Keeps u v → IfBoth text left (WroteOfRead u v)
known_nothing_of_read None left u v end k = tt
known_nothing_of_read (Some x) None u v end k = absurd end
known_nothing_of_read (Some x) (Some y) u v end k = nothing_of_read u v x y end k

-- the configuration was read, which leaves so much
pub config_ends : (config : Config) (old left : Option (List ℕ)) (held : List ℕ) → IfBoth old (prepend_known held left) (TakesConfig config) → IfBoth old left EndsWith
config_ends config None left held b = tt
config_ends config (Some x) None held b = absurd b
config_ends config (Some x) (Some y) held b = (b.line ++ 10 ∷ held, b.whole ∙ sym (append_assoc b.line (10 ∷ held) y))

-- ---- what was answered of what was read

-- the reader failed behind whole lines
pub known_answered : (world : Recorded) (count : ℕ) (fault : SimFault) (text left more u v : Option (List ℕ)) → IfBoth text left (Progress world count u v) → Leaves fault left more → AnswersRead fault u v text more
known_answered world count (BadLine k) text left more u v p end = tt
known_answered world count Read None left more u v p end = tt
known_answered world count Read (Some x) None more u v p end = absurd p
known_answered world count Read (Some x) (Some y) None u v p end = absurd end
known_answered world count Read (Some x) (Some y) (Some z) u v p end = (
  p.read ++ end.0,
  p.split ∙ ap (λ t. p.read ++ t) end.1 ∙ sym (append_assoc p.read end.0 z),
  inr (record {
    config = world.config;
    events = p.events;
    script = p.read;
    front = end.0;
    split = refl;
    whole_lines = p.script;
    in_line = end.2;
    printed = log_text world.log world.wire;
    prints = prints world count u v x y p;
    wrote = p.wrote;
  }),
)
known_answered world count Write text left more u v p end = tt
known_answered world count OutOfMemory text left more u v p end = tt

-- and before the config line's end
pub known_answered_first : (fault : SimFault) (text left u v : Option (List ℕ)) → Leaves fault (prepend_known [] text) left → Keeps u v → AnswersRead fault u v text left
known_answered_first (BadLine k) text left u v end same = tt
known_answered_first Read None left u v end same = tt
known_answered_first Read (Some x) None u v end same = absurd end
known_answered_first Read (Some x) (Some y) u v end same = (end.0, end.1, inl (end.2, Appends-kept u u v [] (Appends-nil u) same))
known_answered_first Write text left u v end same = tt
known_answered_first OutOfMemory text left u v end same = tt
