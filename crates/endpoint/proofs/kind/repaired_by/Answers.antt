use Rattle.std.proofs.Common.{rules, ◌≡◌, ℕ, ◌^◌, ◌<◌, MatchOption, Ok, Err, Result, subst}
use Rattle.places.specs.Place.{IsNear}
use Rattle.rtpwire.specs.Retransmission.{Repair}
use Rattle.rtpwire.specs.declared.fault.RtpFault.{RtpFault}
use Rattle.endpoint.proofs.RepairsFound.{of_repair}
use Rattle.endpoint.proofs.kind.repaired_by.Goals as goal

pub returns-in-Ok : goal.returns-in-Ok
returns-in-Ok c =
    of_repair c.args.session.now c.args.highest c.args.view.now (search rules) c.in-Ok.repair c.in-Ok.ensures.is
    (λ r is.
    let one : ◌≡◌ {A = Result Repair RtpFault} (Ok c.in-Ok.repair) (Ok r) = c.in-Ok.ensures.only r is in
    let same : c.in-Ok.repair ≡ r = cc in
    same)
    c.near_to.result
    (subst (λ (n : ℕ). MatchOption c.near_to.result ((q : ℕ) → q < 2 ^ 48 → IsNear c.args.highest n q → ⊥) (λ q. (q < 2 ^ 48) × IsNear c.args.highest n q)) c.original.ensures c.near_to.ensures)

pub returns-in-Err : goal.returns-in-Err
returns-in-Err c = λ q it. let none : ◌≡◌ {A = Result Repair RtpFault} (Err c.in-Err.field-0) (Ok it.repair) = c.in-Err.ensures.only it.repair it.is in absurd cc
