use Rattle.std.proofs.Common.{cond, subst, sym, ◌∙◌, arith, rules}
use Rattle.std.specs.Prelude.{◌||◌}
use Rattle.std.proofs.lemmas.Bool.{eqb-true, eqb-false}
use Rattle.fbwire.specs.declared.fault.FeedbackFault.TheVariants.{NotNack, NotRtpfb}
use Rattle.fbwire.specs.CompoundChecks.{is_feedback, IsRefused}
use Rattle.fbwire.proofs.Walks.{Walked, walked_none, walked_more, walk_found, walk_lacks, walk_fails, empty_fails}
use Rattle.fbwire.proofs.compound.walked.Goals as goal

pub returns-then-is_empty : goal.returns-then-is_empty
returns-then-is_empty c = empty_fails c.args.octets.now (eqb-true _ _ (sym c.is_empty.ensures ∙ c.if-is_empty.true))

pub loop-packet-init : goal.loop-packet-init
loop-packet-init c = walked_none c.args.octets.now

pub loop-packet-preserved : goal.loop-packet-preserved
loop-packet-preserved c =
    let gives = rw c.in_ok-packet.was at c.in-Some.ensures.steps in
    subst (λ b. Walked c.args.octets.now c.next.new.self.octets.now (c.loop-packet.has_nack || b) (c.loop-packet.has_feedback || is_feedback c.in_ok-packet.packet.now)) (sym c.is_nack-has_nack.ensures)
    (walked_more c.args.octets.now c.loop-packet.packets.octets.now c.in_ok-packet.packet.now c.next.new.self.octets.now c.loop-packet.has_nack c.loop-packet.has_feedback
    (λ i. omega (arith, c.type_inv.octets i)) c.loop-packet.invariant gives)

pub returns-in_err-packet : goal.returns-in_err-packet
returns-in_err-packet c =
    let gives = rw c.in_err-packet.was at c.in-Some.ensures.steps in
    let refused : IsRefused c.args.octets.now c.in_err-packet.field-0.0 =
    walk_fails c.args.octets.now c.loop-packet.packets.octets.now c.loop-packet.has_nack c.loop-packet.has_feedback c.in_err-packet.field-0.0 c.loop-packet.invariant gives.1 gives.0 in
    search rules

pub invariant_of-result : goal.invariant_of-result
invariant_of-result c =
    walk_found c.args.octets.now c.loop-packet.packets.octets.now c.loop-packet.has_nack c.loop-packet.has_feedback c.loop-packet.invariant c.in_default.ensures.steps c.if-has_nack.true

pub returns-then-has_nack : goal.returns-then-has_nack
returns-then-has_nack c =
    walk_found c.args.octets.now c.loop-packet.packets.octets.now c.loop-packet.has_nack c.loop-packet.has_feedback c.loop-packet.invariant c.in_default.ensures.steps c.if-has_nack.true

pub returns-then-has_feedback : goal.returns-then-has_feedback
returns-then-has_feedback c =
    let some = eqb-false _ _ (sym c.is_empty.ensures ∙ c.if-is_empty.false) in
    subst (λ b. IsRefused c.args.octets.now (cond b NotNack NotRtpfb)) c.if-has_feedback.true
    (walk_lacks c.args.octets.now c.loop-packet.packets.octets.now c.loop-packet.has_nack c.loop-packet.has_feedback c.loop-packet.invariant c.in_default.ensures.steps (omega arith) c.if-has_nack.false)

pub returns-else-has_feedback : goal.returns-else-has_feedback
returns-else-has_feedback c =
    let some = eqb-false _ _ (sym c.is_empty.ensures ∙ c.if-is_empty.false) in
    subst (λ b. IsRefused c.args.octets.now (cond b NotNack NotRtpfb)) c.if-has_feedback.false
    (walk_lacks c.args.octets.now c.loop-packet.packets.octets.now c.loop-packet.has_nack c.loop-packet.has_feedback c.loop-packet.invariant c.in_default.ensures.steps (omega arith) c.if-has_nack.false)
