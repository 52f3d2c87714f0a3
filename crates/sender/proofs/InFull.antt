-- The counts of shared feedback are in full where it has few octets.
use Rattle.std.proofs.Common.{◌≡◌, ◌↔◌, ℕ, ◌^◌, ◌<◌, ◌⊎◌, ◌==◌, ◌&&◌, ◌||◌, not, Bool, true, false, List, length, Result, Ok, Err, refl, sym, subst, ◌∙◌, arith, eq-eqb, inl, inr}
use Rattle.std.specs.Prelude.{IsTrue}
use Rattle.std.specs.List.{count_by}
use Rattle.std.proofs.lemmas.Bool.{eqb-true}
use Rattle.std.proofs.lemmas.List.Sums.{length-filter, count_by-le-length}
use Rattle.std.proofs.lemmas.List.Filters.{length-filter_both}
use Rattle.fbwire.specs.declared.fault.FeedbackFault.{FeedbackFault}
use Rattle.fbwire.specs.Nack.{Nack}
use Rattle.fbwire.specs.Compound.{CompoundSpells}
use Rattle.sender.specs.declared.answer.Shared.{Shared}
use Rattle.sender.specs.Config.{Config}
use Rattle.sender.specs.History.{SenderState}
use Rattle.sender.specs.Feedback.{is_receiver, is_ours, ReadsFeedback}
use Rattle.sender.specs.Shared.{ours, theirs, our_numbers, count_in_32, CountsThose, CountsShared, SharesSaid, HearsShared}
use Rattle.sender.specs.InFull.{ListsThose, CountsInFull}
use Rattle.sender.proofs.Named.{or_cases}
use Rattle.sender.proofs.SameMarks.{Laws}

full : (n : ℕ) → n < 2 ^ 32 → count_in_32 n ≡ n
full n few = omega arith

-- a conjunction and its parts

both : (a b : Bool) → (a && b) ≡ true → (a ≡ true) × (b ≡ true)
both true b is = (refl, is)
both false b is = absurd (cc)

joined : (a b : Bool) → a ≡ true → b ≡ true → (a && b) ≡ true
joined true b is also = also
joined false b is also = absurd (cc)

either : (a b : Bool) → (a ≡ true) ⊎ (b ≡ true) → (a || b) ≡ true
either true b some = refl
either false b (inl never) = absurd (cc)
either false b (inr is) = is

tells_ours : (c : Config) (nack : Nack) → IsTrue (is_ours c nack) ↔ ((nack.media ≡ c.session.media_ssrc) × ((c.any_reporter ≡ true) ⊎ (nack.reporter ≡ c.session.receiver_ssrc)))
tells_ours c nack = (
  λ is.
      let parts = both (nack.media == c.session.media_ssrc) (is_receiver c nack) is in (
        eqb-true _ _ parts.0,
        elim (or_cases c.any_reporter (nack.reporter == c.session.receiver_ssrc) parts.1) [ inl any ↦ inl any | inr one ↦ inr (eqb-true _ _ one) ],
      ),
  λ (media, reporter). joined (nack.media == c.session.media_ssrc) (is_receiver c nack) (eq-eqb _ _ media)
      (either c.any_reporter (nack.reporter == c.session.receiver_ssrc) (elim reporter [ inl any ↦ inl any | inr one ↦ inr (eq-eqb _ _ one) ])),
)

lists_those : (Has : ℕ → Type 0) (numbers : List ℕ) (count : ℕ) → length numbers < 2 ^ 32 → CountsThose Has numbers count → ListsThose Has numbers count
lists_those Has numbers count few a =
    let some = count_by-le-length a.test numbers in
    record {
      test = a.test;
      tells = a.tells;
      counted = a.counted ∙ full (count_by a.test numbers) (omega arith) ∙ sym (length-filter a.test numbers);
    }

counts_in_full : (c : Config) (old : SenderState) (spelled : List Nack) (shared : Shared) → length spelled < 2 ^ 32 → length (our_numbers c spelled) < 2 ^ 32 → CountsShared c old spelled shared → CountsInFull c old spelled shared
counts_in_full c old spelled shared few few_named a =
    let parts = length-filter_both (is_ours c) (λ (nack : Nack). not (is_ours c nack)) (λ nack. refl) spelled in
    let nacks : shared.nacks ≡ length (ours c spelled) = a.nacks ∙ full (length (ours c spelled)) (omega arith) in
    let others : shared.others ≡ length (theirs c spelled) = a.others ∙ full (length (theirs c spelled)) (omega arith) in
    record {
      mine = is_ours c;
      tells = tells_ours c;
      nacks = nacks;
      others = omega arith;
      named = our_numbers c spelled;
      each = refl;
      numbers = a.numbers ∙ full (length (our_numbers c spelled)) few_named;
      unknown = lists_those _ _ _ few_named a.unknown;
      exhausted = lists_those _ _ _ few_named a.exhausted;
    }

pub in_full : Laws → (c : Config) (old : SenderState) (octets : List ℕ) (spelled : List Nack) (shared : Shared) (new : SenderState) → CompoundSpells spelled octets →
    length spelled < 2 ^ 32 → length (our_numbers c spelled) < 2 ^ 32 → HearsShared c old octets (Ok shared) new → CountsInFull c old spelled shared
in_full laws c old octets spelled shared new spells few few_named hears = by hears.said hears.says hears.heard
  where
    by : (said : Result (List Nack) FeedbackFault) → ReadsFeedback octets said → SharesSaid c old said (Ok shared) new → CountsInFull c old spelled shared
    by (Ok list) says heard =
        counts_in_full c old spelled shared few few_named (subst (λ (n : List Nack). CountsShared c old n shared) (laws.one_list octets list spelled says spells) heard.counts)
    by (Err fault) says heard = absurd (laws.not_both octets spelled fault spells says)
