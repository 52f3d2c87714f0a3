use Rattle.std.proofs.Common.{◌≡◌, ℕ, [], IfErr, OnErr, Result, Ok, Err, refl, sym, subst}
use Rattle.commands.specs.declared.fault.SimFault.TheVariants.{OutOfMemory}
use Rattle.std.specs.Result.{IsErrAnd}
use Rattle.commands.proofs.KnownLemmas.{Keeps-refl, leaves_end}
use Rattle.commands.proofs.ProgressLemmas.{known_start, known_first, known_kept, known_step, known_done, known_stopped, known_of_read, known_of_read_part, known_nothing_of_read, known_answered, known_answered_first, known_memory, known_unwritten, held_ends, taken_ends, config_ends}
use Rattle.commands.proofs.sim.sim_text.Goals as goal

on_err : {T E : Type 0} {P : Type 0} (r : Result T E) → P → OnErr r P
on_err (Ok x) p = tt
on_err (Err e) p = p

if_err : {T E : Type 0} (P : E → Type 0) (r : Result T E) (e : E) → IsErrAnd r (λ x. x ≡ e) → P e → IfErr r P
if_err P (Ok x) e is p = tt
if_err P (Err x) e is p = subst P (sym is) p

pub returns-in_err-pending-clause-a_beginning : goal.returns-in_err-pending-clause-a_beginning
returns-in_err-pending-clause-a_beginning g c = on_err _ (known_nothing_of_read _ _ _ _ (held_ends _ []) (Keeps-refl _))

pub returns-in_err-config-clause-a_beginning : goal.returns-in_err-config-clause-a_beginning
returns-in_err-config-clause-a_beginning g c =
    on_err _ (known_nothing_of_read _ _ _ _ (rw c.in_ok-pending.ensures at (leaves_end _ _ _ c.in_err-config.ensures.lost)) c.in_err-config.ensures.written)

pub returns-in_err-config-clause-first_bad_line : goal.returns-in_err-config-clause-first_bad_line
returns-in_err-config-clause-first_bad_line g c =
    if_err _ _ _ c.from_residual-in_err-config.ensures.1 (known_first _ _ _ _ (rw c.in_ok-pending.ensures at c.in_err-config.ensures.err) c.in_err-config.ensures.written)

pub returns-in_err-config-clause-all_answered : goal.returns-in_err-config-clause-all_answered
returns-in_err-config-clause-all_answered g c =
    if_err _ _ _ c.from_residual-in_err-config.ensures.1 (known_answered_first _ _ _ _ _ (rw c.in_ok-pending.ensures at c.in_err-config.ensures.lost) c.in_err-config.ensures.written)

pub returns-in_err-world-clause-a_beginning : goal.returns-in_err-world-clause-a_beginning
returns-in_err-world-clause-a_beginning g c =
    on_err _ (known_nothing_of_read _ _ _ _ (config_ends _ _ _ _ (rw c.in_ok-pending.ensures at c.in_ok-config.ensures.ok)) c.in_ok-config.ensures.written)

pub loop-count-init : goal.loop-count-init
loop-count-init g c = rw c.in_ok-world.ensures (known_start _ _ _ _ _ (rw c.in_ok-pending.ensures at c.in_ok-config.ensures.ok) c.in_ok-config.ensures.written)

pub returns-in_err-read_event-clause-first_bad_line : goal.returns-in_err-read_event-clause-first_bad_line
returns-in_err-read_event-clause-first_bad_line g c =
    let before = known_kept _ _ _ _ _ _ _ c.loop-count.invariant c.in_err-read_event.ensures.written in
    if_err _ _ _ c.from_residual-in_err-read_event.ensures.1 (known_stopped _ _ _ _ _ _ _ before c.in_err-read_event.ensures.err)

pub returns-in_err-read_event-clause-all_answered : goal.returns-in_err-read_event-clause-all_answered
returns-in_err-read_event-clause-all_answered g c =
    let before = known_kept _ _ _ _ _ _ _ c.loop-count.invariant c.in_err-read_event.ensures.written in
    if_err _ _ _ c.from_residual-in_err-read_event.ensures.1 (known_answered _ _ _ _ _ _ _ _ before c.in_err-read_event.ensures.lost)

pub returns-in_err-read_event-clause-a_beginning : goal.returns-in_err-read_event-clause-a_beginning
returns-in_err-read_event-clause-a_beginning g c =
    let before = known_kept _ _ _ _ _ _ _ c.loop-count.invariant c.in_err-read_event.ensures.written in
    on_err _ (known_of_read _ _ _ _ _ _ _ before (leaves_end _ _ _ c.in_err-read_event.ensures.lost))

pub returns-in_default-clause-whole_log : goal.returns-in_default-clause-whole_log
returns-in_default-clause-whole_log g c =
    let before = known_kept _ _ _ _ _ _ _ c.loop-count.invariant c.in_ok-read_event.ensures.written in
    known_done _ _ _ _ _ _ _ before (rw c.in_default.is at c.in_ok-read_event.ensures.ok)

pub returns-in_err-advance-clause-first_bad_line : goal.returns-in_err-advance-clause-first_bad_line
returns-in_err-advance-clause-first_bad_line g c = known_memory _ _ _ _ c.from_residual-in_err-advance.ensures.1

pub returns-in_err-write_text-clause-first_bad_line : goal.returns-in_err-write_text-clause-first_bad_line
returns-in_err-write_text-clause-first_bad_line g c = if_err _ _ _ c.from_residual-in_err-write_text.ensures.1 (known_unwritten _ _ _ _ c.in_err-write_text.ensures.fault)

pub returns-in_err-advance-clause-a_beginning : goal.returns-in_err-advance-clause-a_beginning
returns-in_err-advance-clause-a_beginning g c =
    let before = known_kept _ _ _ _ _ _ _ c.loop-count.invariant c.in_ok-read_event.ensures.written in
    let next = rw c.in-Some.is at c.in_ok-read_event.ensures.ok in
    on_err _ (known_of_read _ _ _ _ _ _ _ before (taken_ends c.in-Some.event _ _ _ next))

pub returns-in_err-write_text-clause-a_beginning : goal.returns-in_err-write_text-clause-a_beginning
returns-in_err-write_text-clause-a_beginning g c =
    let before = known_kept _ _ _ _ _ _ _ c.loop-count.invariant c.in_ok-read_event.ensures.written in
    let next = rw c.in-Some.is at c.in_ok-read_event.ensures.ok in
    let part = rw c.deref.ensures.value at c.in_err-write_text.ensures.err in
    on_err _ (known_of_read_part _ _ _ part.0 c.in-Some.event _ _ _ _ _ _ _ _ before next c.in_ok-advance.ensures part.2)

pub loop-count-preserved : goal.loop-count-preserved
loop-count-preserved g c =
    let before = known_kept _ _ _ _ _ _ _ c.loop-count.invariant c.in_ok-read_event.ensures.written in
    let next = rw c.in-Some.is at c.in_ok-read_event.ensures.ok in
    let whole = rw c.deref.ensures.value at c.in_ok-write_text.ensures.ok in
    known_step _ _ _ c.in-Some.event _ _ _ _ _ _ _ before next c.in_ok-advance.ensures whole

pub returns-clause-a_beginning : goal.returns-clause-a_beginning
returns-clause-a_beginning g c = known_of_read _ _ _ _ _ _ _ c.loop-count.invariant (held_ends _ c.loop-count.pending)

pub returns-clause-first_bad_line : goal.returns-clause-first_bad_line
returns-clause-first_bad_line g c = known_memory {T = ℕ} (Err OutOfMemory) (g.R.Read.remaining c.args.input.now) (g.W.Write.contents c.args.output.now) (g.W.Write.contents c.loop-count.output) refl
