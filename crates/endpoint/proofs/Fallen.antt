-- When the SSRC of the retransmissions that was learnt falls.
use Rattle.std.specs.Prelude.{OnErr}
use Rattle.std.proofs.Common.{◌≡◌, ℕ, zero, suc, ◌&&◌, Bool, true, false, not, List, [], Option, Some, None, Result, Ok, Err, refl, sym, ap, subst, ◌∙◌, if◌then◌else◌}
use Rattle.std.proofs.lemmas.Option.{none-some, same_Some}
use Rattle.receiver.specs.declared.answer.Taken.{Taken}
use Rattle.receiver.specs.declared.fault.ReceiveFault.{ReceiveFault}
use Rattle.receiver.specs.declared.fault.ReceiveFault.TheVariants.{UnknownSource}
use Rattle.receiver.specs.Receiver.{Receiving, unlearnt}
use Rattle.endpoint.specs.declared.heard.Heard.{Heard}
use Rattle.endpoint.specs.declared.holding.Run.{Run}
use Rattle.endpoint.specs.declared.kind.Kind.{Kind}
use Rattle.endpoint.specs.declared.probation.Probation.{Probation}
use Rattle.endpoint.specs.declared.seen_packets.SeenPacket.{SeenPacket}
use Rattle.endpoint.specs.AskingRuns.{Asking, HearStep}
use Rattle.endpoint.specs.Receiving.{AfterHeld, Believes, Ends, HearsDatagram, HearsKind, HearsPacket, HearsStripped, HearsUnless, HearsWanted, HoldsBack, as_heard}
use Rattle.endpoint.specs.Kinds.{IsRepairOf}
use Rattle.endpoint.specs.Measuring.{IsOriginal}
use Rattle.endpoint.specs.Rivals.{Doubts, WouldRepair, was_asked}
use Rattle.endpoint.proofs.KindsTold.{One, OneNear, OneRepair, same_place}
use Rattle.stores.specs.Span.{highest_of}

-- what is refused leaves the receiver that has what is believed as it was
module _ (p : Probation) (old new : Ends) (now : ℕ) (fault : ReceiveFault) where
  not_refused : (number : Option ℕ) (taken : Taken) → Err fault ≡ as_heard number (Ok taken) → ⊥
  not_refused None taken is = absurd cc
  not_refused (Some seq) taken is = absurd cc

  by_taken : (number : Option ℕ) (taken : Result Taken ReceiveFault) (core : Receiving) → (OnErr taken (core ≡ old.core)) → Err fault ≡ as_heard number taken → core ≡ old.core
  by_taken number (Ok taken) core refused is = absurd (not_refused number taken is)
  by_taken number (Err why) core refused is = refused

  by_held : (mid : Receiving) (run : Run) (seq : ℕ) (taken : Result Taken ReceiveFault) → AfterHeld p old mid run seq now taken (Err fault) new → new.core ≡ old.core
  by_held mid run seq (Ok taken) after = absurd (never after.0)
    where
      never : {heard : Heard} → ◌≡◌ {A = Result Heard ReceiveFault} (Err fault) (Ok heard) → ⊥
      never is = absurd cc
  by_held mid run seq (Err why) after = ap (λ (e : Ends). e.core) after.1

  by_wanted : (wanted : ℕ) (number : Option ℕ) (octets : List ℕ) → HearsWanted p old wanted number octets now (Err fault) new → new.core ≡ old.core
  by_wanted wanted None octets hears = by_taken None hears.taken new.core hears.handed.refused hears.answered
  by_wanted zero (Some seq) octets hears = by_taken (Some seq) hears.taken new.core hears.handed.refused hears.answered
  by_wanted (suc more) (Some seq) octets hears = by_held hears.mid _ seq hears.taken hears.after

  by_repeat : (repeat : Bool) (wanted : ℕ) (number : Option ℕ) (octets : List ℕ) → HearsUnless repeat p old wanted number octets now (Err fault) new → new.core ≡ old.core
  by_repeat true wanted number octets hears = ap (λ (e : Ends). e.core) hears.1
  by_repeat false wanted number octets hears = by_wanted wanted number octets hears

  by_kind : (control : Bool) (seen : List (Option SeenPacket)) (plain : Option (List ℕ)) (octets : List ℕ) → HearsKind control p seen old plain octets now (Err fault) new → new.core ≡ old.core
  by_kind true seen plain octets hears = absurd (never hears.0)
    where
      never : {heard : Heard} → ◌≡◌ {A = Result Heard ReceiveFault} (Err fault) (Ok heard) → ⊥
      never is = absurd cc
  by_kind false seen None octets hears = by_repeat _ _ hears.1.number octets hears.1.heard
  by_kind false seen (Some plain) octets hears = by_repeat _ _ hears.1.number plain hears.1.heard

refused_core : (p : Probation) (octets : List ℕ) (fault : ReceiveFault) (kind : Kind) (old new : Asking) → (step : HearStep p octets (Err fault) kind old new) → step.hears.mid ≡ old.ends.core
refused_core p octets fault kind old new step = by_kind p old.ends (record new.ends { core = step.hears.mid }) step.now fault _ step.seen step.hears.hears.plain octets step.hears.hears.heard

-- the original of a retransmission is one
same_original : One → OneRepair → OneNear → (r : Receiving) (highest original : Option ℕ) (octets : List ℕ) → highest_of r.span ≡ highest → IsOriginal r.config.session highest octets original
    → (would : WouldRepair r octets) → original ≡ Some would.place
same_original packet repair near r None original octets at is would = absurd (none-some would.highest (sym at ∙ would.is_highest))
same_original packet repair near r (Some h) original octets at is would = by original is
  where
    here : IsRepairOf r.config.session h octets would.place
    here = subst (λ k. IsRepairOf r.config.session k octets would.place) (same_Some _ _ (sym would.is_highest ∙ at)) would.repairs

    by : (o : Option ℕ) → IsOriginal r.config.session (Some h) octets o → o ≡ Some would.place
    by None none = absurd (none would.place here)
    by (Some q) repairs = ap Some (same_place [] r.config.session octets packet repair near h q would.place repairs here)

-- what the first that would have repaired leaves, and the second
both : (a b : Bool) → a ≡ true → b ≡ true → (a && b) ≡ true
both a b x y = rw (x, y) refl

neither : (a b : Bool) → b ≡ false → (a && b) ≡ false
neither true b is = is
neither false b is = refl

module _ (packet : One) (repair : OneRepair) (near : OneNear) (p : Probation) (kind : Kind) (old new : Asking) (octets : List ℕ) (step : HearStep p octets (Err UnknownSource) kind old new) where
  weighed : Doubts old.doubted octets step.hears.mid new.doubted new.ends.core
  weighed = step.hears.weighs

  same : step.hears.mid ≡ old.ends.core
  same = refused_core p octets UnknownSource kind old new step

  rivals : WouldRepair old.ends.core octets → was_asked step.hears.mid.span weighed.original ≡ true
  rivals would =
      let here : WouldRepair step.hears.mid octets = subst (λ (r : Receiving). WouldRepair r octets) (sym same) would in
      ap (was_asked step.hears.mid.span) (same_original packet repair near step.hears.mid _ weighed.original octets refl weighed.is_original here) ∙ here.asked

  pub one : old.doubted ≡ false → new.ends.core ≡ old.ends.core
  one was = weighed.falls ∙ ap (λ (b : Bool). if b then unlearnt step.hears.mid else step.hears.mid) (neither (was_asked step.hears.mid.span weighed.original) old.doubted was) ∙ same

  doubts : old.doubted ≡ false → WouldRepair old.ends.core octets → new.doubted ≡ true
  doubts was would = weighed.kept ∙ ap (λ (b : Bool). if b then not old.doubted else old.doubted) (rivals would) ∙ ap not was

  falls : old.doubted ≡ true → WouldRepair old.ends.core octets → new.ends.core.learnt ≡ None
  falls was would =
      ap (λ (r : Receiving). r.learnt) (weighed.falls ∙ ap (λ (b : Bool). if b then unlearnt step.hears.mid else step.hears.mid) (both (was_asked step.hears.mid.span weighed.original) old.doubted (rivals would) was))

pub two : One → OneRepair → OneNear → (p : Probation) (a b : Kind) (old mid new : Asking) (first second : List ℕ) → HearStep p first (Err UnknownSource) a old mid → HearStep p second (Err UnknownSource) b mid new
    → old.doubted ≡ false → WouldRepair old.ends.core first → WouldRepair mid.ends.core second → new.ends.core.learnt ≡ None
two packet repair near p a b old mid new first second one_more another was would repairs =
    falls packet repair near p b mid new second another (doubts packet repair near p a old mid first one_more was would) repairs
