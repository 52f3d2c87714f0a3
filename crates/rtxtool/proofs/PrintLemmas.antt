-- What came out of the buffer, by what was put into it.
use Rattle.std.proofs.Common.{◌≡◌, ℕ, List, [], ◌++◌, length, Option, Some, None, Result, Ok, Err, sym, ap, subst, ◌∙◌, append_assoc, append-nil, arith}
use Rattle.std.specs.Prelude.{IfOk, IfErr, OnErr}
use Rattle.std.specs.Option.{IfSome}
use Rattle.std.specs.List.{flat_map}
use Rattle.std.specs.Io.KnownBytes.{Appends, Keeps}
use Rattle.std.proofs.KnownBytes.{Appends-kept}
use Rattle.std.proofs.lemmas.List.{take_all}
use Rattle.rtpwire.specs.Framing.{frame}
use Rattle.rtpwire.specs.declared.fault.FrameFault.TheVariants.{Truncated, FrameTooLong}
use Rattle.world.specs.declared.event.Event.{Event}
use Rattle.world.specs.Config.{Config}
use Rattle.lines.specs.Sink.{AppendsFront, Pushes}
use Rattle.commands.specs.declared.fault.SimFault.{SimFault}
use Rattle.commands.specs.declared.show.ShowFault.{ShowFault}
use Rattle.commands.specs.declared.show.ShowFault.TheVariants as showing
use Rattle.commands.specs.IsScript.{IsScript}
use Rattle.commands.specs.Reading.{IfBoth}
use Rattle.commands.specs.Script.{script_config, script_events}
use Rattle.commands.specs.Show.{IsCut, IsShown, IsTooLong, StopsIn, Wrote, WroteAllRead, WroteFront, WroteSomeRead}
use Rattle.commands.specs.Showing.{ShowedSome}
use Rattle.commands.specs.Sim.{IsDone, PrintsAny, WroteBefore, WroteOfRead, WroteSome}
use Rattle.rtxtool.specs.Printing.{CameOut, ComesOut, PrintedSome, RefusesTrace}

-- ---- a beginning of a text

-- all of a text is a beginning of it
pub all_in_front : (a b : Option (List ℕ)) (text : List ℕ) → Appends a b text → AppendsFront a b text
all_in_front a b text p = record { front = text; rest = []; parts = sym (append-nil text); appended = p }

pub pushed_front : {U F : Type 0} (r : Result U F) (a b : Option (List ℕ)) (text : List ℕ) → Pushes r a b text → AppendsFront a b text
pushed_front (Ok x) a b text p = all_in_front a b text p
pushed_front (Err e) a b text p = p

-- ---- the log of a script

some_before : (text : List ℕ) (a b : Option (List ℕ)) → WroteBefore text a b → WroteSome text a b
some_before text a b w =
    record {
      count = length (script_events text);
      printed = w.printed;
      prints = subst (λ events. PrintsAny (script_config text) events w.printed) (sym (take_all (length (script_events text)) (script_events text) (omega arith))) w.prints;
      size = length w.printed;
      wrote = subst (Appends a b) (sym (take_all (length w.printed) w.printed (omega arith))) w.wrote;
    }

-- By the law on scripts, `scripts_are_read`.
module _
    (config_is : (text : List ℕ) (c : Config) (events : List Event) → IsScript text c events → script_config text ≡ Some c)
    (events_are : (text : List ℕ) (c : Config) (events : List Event) → IsScript text c events → script_events text ≡ events) where
  before_done : (count : ℕ) (text : List ℕ) (a b : Option (List ℕ)) → IsDone count text a b → WroteBefore text a b
  before_done count text a b d =
      record {
        printed = d.printed;
        prints = rw (config_is text d.config d.events d.script, events_are text d.config d.events d.script) d.prints;
        wrote = d.wrote;
      }

  some_done : (count : ℕ) (text : List ℕ) (a b : Option (List ℕ)) → IsDone count text a b → PrintedSome text a b
  some_done count text a b d = ([], (text, sym (append-nil text), some_before text a b (before_done count text a b d)))

  -- what was put in, whatever became of the script
  log_put : (r : Result ℕ SimFault) (text left : Option (List ℕ)) (old total : Option (List ℕ)) → IfOk r (λ count. IfSome text (λ text. IsDone count text old total))
      → OnErr r (IfBoth text left (WroteOfRead old total)) → IfSome text (λ text. PrintedSome text old total)
  log_put r None left old total done begun = tt
  log_put (Ok count) (Some x) left old total done begun = some_done count x old total done
  log_put (Err fault) (Some x) None old total done begun = absurd begun
  log_put (Err fault) (Some x) (Some y) old total done begun = (y, begun)

  -- it could not be brought out
  pub log_held : (r : Result ℕ SimFault) (text left : Option (List ℕ)) (old total new : Option (List ℕ)) → IfOk r (λ count. IfSome text (λ text. IsDone count text old total))
      → OnErr r (IfBoth text left (WroteOfRead old total)) → CameOut total new → IfSome text (λ text. ComesOut (λ total. PrintedSome text old total) new)
  log_held r None left old total new done begun came = tt
  log_held r (Some x) left old total new done begun came = (total, log_put r (Some x) left old total done begun, came)

-- ---- the lines of a trace

front_of : (datagrams : List (List ℕ)) (a b : Option (List ℕ)) → Wrote datagrams a b → WroteFront datagrams a b
front_of datagrams a b w = record { text = w.text; shows = w.shows; appended = all_in_front a b w.text w.appended }

some_shown : (count : ℕ) (trace : List ℕ) (a b : Option (List ℕ)) → IsShown count trace a b → ShowedSome trace a b
some_shown count trace a b s =
    record { datagrams = s.datagrams; after = []; each = s.frames.each; frames = s.frames.whole ∙ sym (append-nil (flat_map frame s.datagrams)); wrote = front_of s.datagrams a b s.wrote }

some_cut : (number : ℕ) (trace : List ℕ) (a b : Option (List ℕ)) → IsCut number trace a b → ShowedSome trace a b
some_cut number trace a b s =
    record { datagrams = s.datagrams; after = s.rest; each = s.splits.each; frames = s.splits.whole; wrote = front_of s.datagrams a b s.wrote }

some_too_long : (number : ℕ) (trace : List ℕ) (a b : Option (List ℕ)) → IsTooLong number trace a b → ShowedSome trace a b
some_too_long number trace a b s =
    record { datagrams = s.datagrams; after = s.breaks.after; each = s.breaks.each; frames = s.breaks.whole; wrote = front_of s.datagrams a b s.wrote }

-- frames in front of what was read are frames in front of the trace
further : (frames after left read trace : List ℕ) → trace ≡ read ++ left → read ≡ frames ++ after → trace ≡ frames ++ (after ++ left)
further frames after left read trace p q = p ∙ ap (λ l. l ++ left) q ∙ append_assoc frames after left

some_read : (trace left : List ℕ) (a b : Option (List ℕ)) → WroteAllRead trace left a b → ShowedSome trace a b
some_read trace left a b s =
    record {
      datagrams = s.datagrams;
      after = s.rest ++ left;
      each = s.splits.each;
      frames = further (flat_map frame s.datagrams) s.rest left s.read trace s.whole s.splits.whole;
      wrote = front_of s.datagrams a b s.wrote;
    }

some_begun : (trace left : List ℕ) (a b : Option (List ℕ)) → WroteSomeRead trace left a b → ShowedSome trace a b
some_begun trace left a b s =
    record { datagrams = s.datagrams; after = s.after ++ left; each = s.each; frames = further (flat_map frame s.datagrams) s.after left s.read trace s.whole s.frames; wrote = s.wrote }

some_stopped : (fault : ShowFault) (trace left : List ℕ) (a b : Option (List ℕ)) → StopsIn fault a b trace left → ShowedSome trace a b
some_stopped (showing.Frame Truncated number) trace left a b s = some_cut number trace a b s.0
some_stopped (showing.Frame FrameTooLong number) trace left a b s = some_too_long number trace a b s
some_stopped showing.Read trace left a b s = some_read trace left a b s
some_stopped showing.Write trace left a b s = some_begun trace left a b s

pub lines_held : (r : Result ℕ ShowFault) (trace left : Option (List ℕ)) (old total new : Option (List ℕ)) → IfOk r (λ count. IfSome trace (λ trace. IsShown count trace old total))
    → IfErr r (λ fault. IfBoth trace left (StopsIn fault old total)) → CameOut total new → IfSome trace (λ trace. ComesOut (λ total. ShowedSome trace old total) new)
lines_held r None left old total new shown stopped came = tt
lines_held (Ok count) (Some x) left old total new shown stopped came = (total, some_shown count x old total shown, came)
lines_held (Err fault) (Some x) None old total new shown stopped came = absurd stopped
lines_held (Err fault) (Some x) (Some y) old total new shown stopped came = (total, some_stopped fault x y old total stopped, came)

wrote_kept : (datagrams : List (List ℕ)) (a b d : Option (List ℕ)) → Wrote datagrams a b → Keeps b d → Wrote datagrams a d
wrote_kept datagrams a b d w k = record { text = w.text; shows = w.shows; appended = Appends-kept a b d w.text w.appended k }

pub lines_stopped : (fault : ShowFault) (trace left : Option (List ℕ)) (old total new : Option (List ℕ)) → IfBoth trace left (StopsIn fault old total)
    → Keeps total new → CameOut total new → IfSome trace (λ trace. RefusesTrace fault trace old new)
lines_stopped fault None left old total new s kept came = tt
lines_stopped fault (Some x) None old total new s kept came = absurd s
lines_stopped (showing.Frame Truncated number) (Some x) (Some y) old total new s kept came =
    record { datagrams = s.0.datagrams; rest = s.0.rest; splits = s.0.splits; begun = s.0.begun; numbered = s.0.numbered; wrote = wrote_kept s.0.datagrams old total new s.0.wrote kept }
lines_stopped (showing.Frame FrameTooLong number) (Some x) (Some y) old total new s kept came =
    record { datagrams = s.datagrams; breaks = s.breaks; numbered = s.numbered; wrote = wrote_kept s.datagrams old total new s.wrote kept }
lines_stopped showing.Read (Some x) (Some y) old total new s kept came = (total, some_read x y old total s, came)
lines_stopped showing.Write (Some x) (Some y) old total new s kept came = (total, some_begun x y old total s, came)

-- ---- the line of a tally

-- a beginning of a text was put in, and it could not be brought out
pub front_held : {U F : Type 0} (r : Result U F) (old total new : Option (List ℕ)) (text : List ℕ) → Pushes r old total text → CameOut total new
    → ComesOut (λ total. AppendsFront old total text) new
front_held r old total new text put came = (total, pushed_front r old total text put, came)
