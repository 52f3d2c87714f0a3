use Rattle.std.proofs.Common.{◌∙◌, ℕ, List, subst, sym}
use Rattle.rtpwire.specs.Rtp.{RtpPacket, RtpSpells}
use Rattle.payload_types.proofs.Plain.{itself_is_plain, stripped_is_plain}
use Rattle.payload_types.proofs.types.PayloadTypes.into_session.Goals as goal

pub returns-in-Some-clause-other : goal.returns-in-Some-clause-other
returns-in-Some-clause-other c = λ plain is none.
    let same = stripped_is_plain c.args.octets.now plain c.in-Some.plain.items c.in-Some.ensures is ∙ sym c.as_slice.ensures.value in
    c.enter.ensures.other (subst (λ (o : List ℕ). (p : RtpPacket) → RtpSpells p o → ⊥) same none)

pub returns-in-Some-clause-strange : goal.returns-in-Some-clause-strange
returns-in-Some-clause-strange c = λ plain p is spelled none.
    let same = stripped_is_plain c.args.octets.now plain c.in-Some.plain.items c.in-Some.ensures is ∙ sym c.as_slice.ensures.value in
    c.enter.ensures.strange p (subst (RtpSpells p) same spelled) none

pub returns-in-Some-clause-kept : goal.returns-in-Some-clause-kept
returns-in-Some-clause-kept c = λ plain p q is spelled e.
    let same = stripped_is_plain c.args.octets.now plain c.in-Some.plain.items c.in-Some.ensures is ∙ sym c.as_slice.ensures.value in
    c.enter.ensures.kept p q (subst (RtpSpells p) same spelled) e

pub returns-in-None-clause-other : goal.returns-in-None-clause-other
returns-in-None-clause-other c = λ plain is none.
    let same = itself_is_plain c.args.octets.now plain c.in-None.ensures is in
    c.enter-in-None.ensures.other (subst (λ (o : List ℕ). (p : RtpPacket) → RtpSpells p o → ⊥) same none)

pub returns-in-None-clause-strange : goal.returns-in-None-clause-strange
returns-in-None-clause-strange c = λ plain p is spelled none.
    let same = itself_is_plain c.args.octets.now plain c.in-None.ensures is in
    c.enter-in-None.ensures.strange p (subst (RtpSpells p) same spelled) none

pub returns-in-None-clause-kept : goal.returns-in-None-clause-kept
returns-in-None-clause-kept c = λ plain p q is spelled e.
    let same = itself_is_plain c.args.octets.now plain c.in-None.ensures is in
    c.enter-in-None.ensures.kept p q (subst (RtpSpells p) same spelled) e
