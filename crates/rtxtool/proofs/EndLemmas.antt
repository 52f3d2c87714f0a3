-- What a fault says by its exit status.
use Rattle.std.proofs.Common.{◌≡◌, ℕ, List, Option, Some, None, refl, subst, ◌⊎◌, inl, inr, Bool, true, arith}
use Rattle.std.specs.Option.{IfSome}
use Rattle.clap.specs.Words.{Text}
use Rattle.rtpwire.specs.declared.fault.FrameFault.TheVariants.{Truncated, FrameTooLong}
use Rattle.commands.specs.declared.fault.SimFault.{SimFault}
use Rattle.commands.specs.declared.fault.SimFault.TheVariants.{BadLine, OutOfMemory}
use Rattle.commands.specs.declared.fault.SimFault.TheVariants as sim
use Rattle.commands.specs.declared.show.ShowFault.{ShowFault}
use Rattle.commands.specs.declared.show.ShowFault.TheVariants.{Frame, Read, Write}
use Rattle.commands.specs.Show.{IsCut, IsTooLong}
use Rattle.rtxtool.specs.declared.tell.ToolFault.TheVariants.{Sim, Show}
use Rattle.rtxtool.specs.CommandLine.{Asked, Shows, Sims, asked}
use Rattle.rtxtool.specs.Printing.{Known, PrintedBefore, RefusesTrace}
use Rattle.rtxtool.specs.Program.{Breaks, Ends, NoneOut, Refuses, Stops}
use Rattle.rtxtool.specs.Status.{status_of}

is_failure : (status : ℕ) → (status ≡ 1) ⊎ (status ≡ 3) ⊎ (status ≡ 4) → (status ≡ 0) ⊎ (status ≡ 1) ⊎ (status ≡ 2) ⊎ (status ≡ 3) ⊎ (status ≡ 4)
is_failure status h = elim h [ inl e ↦ inr (inl e) | inr more ↦ elim more [ inl e ↦ inr (inr (inr (inl e))) | inr e ↦ inr (inr (inr (inr e))) ] ]

is_no_other : (status : ℕ) → (status ≡ 1) ⊎ (status ≡ 3) ⊎ (status ≡ 4) → (status ≡ 0) ⊎ (status ≡ 2) → ⊥
is_no_other status h other = omega arith

-- what these words ask for was not done
pub ends_stopped : (status : ℕ) (said : Asked) (words : List Text) (known : Known) (old new : Option (List ℕ)) → asked words ≡ Some said → Stops status said known old new
    → Ends status known words old new
ends_stopped status said words known old new is s =
    record {
      done = λ e. absurd (is_no_other status s.others (inl e));
      refused = λ e. (said, is, s.refused e);
      command_line = λ e. absurd (is_no_other status s.others (inr e));
      device = λ e. inr (said, is, s.device e);
      memory = λ e. inr (said, is, s.memory e);
      others = is_failure status s.others;
    }

-- ---- the faults of a trace

refuses : (said : Asked) (known : Known) (old new : Option (List ℕ)) → Refuses said known old new → Stops 1 said known old new
refuses said known old new why = record { refused = λ e. why; device = λ e. absurd (omega arith); memory = λ e. absurd (omega arith); others = inl refl }

breaks : (said : Asked) (known : Known) (old new : Option (List ℕ)) → Breaks said known old new → Stops 3 said known old new
breaks said known old new why = record { refused = λ e. absurd (omega arith); device = λ e. why; memory = λ e. absurd (omega arith); others = inr (inl refl) }

-- at which frame it is refused
abbrev RefusedAt : (old new : Option (List ℕ)) → (trace : List ℕ) → Type 0
RefusedAt old new trace = (number : ℕ) × (IsCut number trace old new ⊎ IsTooLong number trace old new)

cut_known : (number : ℕ) (trace old new : Option (List ℕ)) → IfSome trace (λ trace. IsCut number trace old new) → IfSome trace (RefusedAt old new)
cut_known number None old new h = tt
cut_known number (Some trace) old new h = (number, inl h)

too_long_known : (number : ℕ) (trace old new : Option (List ℕ)) → IfSome trace (λ trace. IsTooLong number trace old new) → IfSome trace (RefusedAt old new)
too_long_known number None old new h = tt
too_long_known number (Some trace) old new h = (number, inr h)

-- a file that was opened can be
opened : (opens : Option Bool) (old new : Option (List ℕ)) → IfSome opens (λ there. true ≡ there) → NoneOut opens old new
opened None old new h = tt
opened (Some there) old new h = λ e. absurd (cc)

line_known : (line : ℕ) (text old new : Option (List ℕ)) → IfSome text (λ text. PrintedBefore (BadLine line) text old new)
    → IfSome text (λ text. (line : ℕ) × PrintedBefore (BadLine line) text old new)
line_known line None old new h = tt
line_known line (Some text) old new h = (line, h)

stops_script : (fault : SimFault) (file : Text) (known : Known) (old new : Option (List ℕ)) → NoneOut (known.opens file) old new
    → IfSome (known.files file) (λ text. PrintedBefore fault text old new) → Stops (status_of (Sim fault)) (Sims file) known old new
stops_script (BadLine line) file known old new out h = refuses (Sims file) known old new (line_known line (known.files file) old new h)
stops_script sim.Read file known old new out h = breaks (Sims file) known old new (out, h)
stops_script sim.Write file known old new out h = breaks (Sims file) known old new (out, h)
stops_script OutOfMemory file known old new out h =
    record { refused = λ e. absurd (omega arith); device = λ e. absurd (omega arith); memory = λ e. h; others = inr (inr refl) }

-- the script is what is known of its file
pub stops_sim : (fault : SimFault) (file : Text) (known : Known) (text old new : Option (List ℕ)) → text ≡ known.files file → IfSome (known.opens file) (λ there. true ≡ there)
    → IfSome text (λ text. PrintedBefore fault text old new) → Stops (status_of (Sim fault)) (Sims file) known old new
stops_sim fault file known text old new is there h =
    stops_script fault file known old new (opened (known.opens file) old new there) (subst (λ (text : Option (List ℕ)). IfSome text (λ text. PrintedBefore fault text old new)) is h)

stops_trace : (fault : ShowFault) (file : Text) (known : Known) (old new : Option (List ℕ)) → NoneOut (known.opens file) old new
    → IfSome (known.files file) (λ trace. RefusesTrace fault trace old new) → Stops (status_of (Show fault)) (Shows file) known old new
stops_trace (Frame Truncated number) file known old new out h = refuses (Shows file) known old new (cut_known number (known.files file) old new h)
stops_trace (Frame FrameTooLong number) file known old new out h = refuses (Shows file) known old new (too_long_known number (known.files file) old new h)
stops_trace Read file known old new out h = breaks (Shows file) known old new (out, h)
stops_trace Write file known old new out h = breaks (Shows file) known old new (out, h)

-- the trace is what is known of its file
pub stops_show : (fault : ShowFault) (file : Text) (known : Known) (trace old new : Option (List ℕ)) → trace ≡ known.files file
    → IfSome (known.opens file) (λ there. true ≡ there) → IfSome trace (λ trace. RefusesTrace fault trace old new) → Stops (status_of (Show fault)) (Shows file) known old new
stops_show fault file known trace old new is there h =
    stops_trace fault file known old new (opened (known.opens file) old new there) (subst (λ (trace : Option (List ℕ)). IfSome trace (λ trace. RefusesTrace fault trace old new)) is h)
