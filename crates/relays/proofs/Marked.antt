-- Where a packet is to be retransmitted next, one is marked; and where none is retransmitted, all that was marked is passed over.
use Rattle.std.proofs.Common.{◌≡◌, ◌≢◌, ◌+◌, ◌==◌, ℕ, Bool, true, false, nat_lt, List, Option, None, Ok, ap, refl, subst, sym, ◌∙◌, arith}
use Rattle.std.proofs.lemmas.Bool.Decides.{nat_tests}
use Rattle.rtpwire.specs.declared.content.Content.{Content}
use Rattle.rtpwire.specs.Session.{Streams}
use Rattle.stores.specs.declared.entry.HistoryEntry.{HistoryEntry}
use Rattle.stores.specs.PastByPlace.{is_marked}
use Rattle.sender.specs.History.{SenderState, NoneMarked, Sends}
use Rattle.sender.specs.Passing.{IsNext}
use Rattle.sender.specs.Repairing.{RepairsInto}
use Rattle.endpoint.specs.declared.resend_counts.ResendCounts.{ResendCounts}
use Rattle.endpoint.specs.declared.resend_rule.ResendRule.{ResendRule}
use Rattle.endpoint.specs.declared.resend_rule.Times.{Times}
use Rattle.endpoint.specs.Passing.{PassesWhatMayNot, Retransmits}

pub next_is_marked : (s : SenderState) (place : ℕ) → IsNext s place → NoneMarked s → ⊥
next_is_marked s place next none =
    let not : next.entry.marked ≡ false = subst (λ (e : Option HistoryEntry). is_marked e ≡ false) next.least.was (none place) in
    absurd (cc)

pub passes_all : (rule : ResendRule) (cells : List Times) (s : Streams) (now : ℕ) (old : SenderState) (passed : ResendCounts) (out : List ℕ) (answer : Option (ℕ × ℕ)) (out' : List ℕ) (new : SenderState) (passed' : ResendCounts)
    → answer ≡ None → Retransmits rule cells s now old passed out (Ok answer) out' new passed' → PassesWhatMayNot rule cells now old passed new passed' × NoneMarked new
passes_all rule cells s now old passed out answer out' new passed' none retransmits =
    let repairs : RepairsInto s retransmits.between out (Ok None) out' new = subst (λ (a : Option (ℕ × ℕ)). RepairsInto s retransmits.between out (Ok a) out' new) none retransmits.repairs in (
      subst (λ (state : SenderState). PassesWhatMayNot rule cells now old passed state passed') (sym repairs.0.1) retransmits.passes,
      subst NoneMarked (sym repairs.0.1) repairs.0.0,
    )

-- What is sent is not marked, and what stays is as it was.
pub sends_mark_none : (room : ℕ) (old : SenderState) (content : Content) (new : SenderState) → Sends room old content new → NoneMarked old → NoneMarked new
sends_mark_none room old content new sends none q = own (q == old.next) refl
  where
    kept : (b : Bool) → nat_lt (q + room) new.next ≡ b → q ≢ old.next → is_marked (new.entries q) ≡ false
    kept true is other = ap is_marked (sends.gone q (grind (arith, nat_tests, is)))
    kept false is other = ap is_marked (sends.others q other (grind (arith, nat_tests, is))) ∙ none q

    own : (b : Bool) → (q == old.next) ≡ b → is_marked (new.entries q) ≡ false
    own true is = let same : q ≡ old.next = grind (arith, nat_tests, is) in ap (λ (p : ℕ). is_marked (new.entries p)) same ∙ ap is_marked sends.sent
    own false is = kept (nat_lt (q + room) new.next) refl (λ same. absurd (grind (arith, nat_tests, is, same)))
