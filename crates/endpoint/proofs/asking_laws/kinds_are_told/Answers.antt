use Rattle.std.proofs.Common.{◌≡◌, ℕ, Result, Err, ap, subst, ◌∙◌, arith}
use Rattle.rtpwire.specs.Rtp.{RtpPacket}
use Rattle.stores.specs.Span.{highest_of}
use Rattle.receiver.specs.declared.fault.ReceiveFault.{ReceiveFault}
use Rattle.receiver.specs.declared.fault.ReceiveFault.TheVariants as refused
use Rattle.endpoint.specs.declared.heard.Heard.{Heard}
use Rattle.endpoint.specs.declared.kind.Kind.{Kind}
use Rattle.endpoint.specs.declared.kind_counts.KindCounts.{KindCounts}
use Rattle.endpoint.specs.Counts.{count_in_64, IsInFull}
use Rattle.endpoint.specs.Kinds.{IsKind, count_kind}
use Rattle.endpoint.proofs.AskingRun.{forgets, keeps}
use Rattle.endpoint.proofs.KindsTallied.{kinds_counted}
use Rattle.endpoint.proofs.KindsTold.{told_media, told_padding, told_unasked, told_usual}
use Rattle.endpoint.proofs.PaddingTold.{padding_short}
use Rattle.endpoint.proofs.asking_laws.kinds_are_told.Goals as goal

in_full : (count total : ℕ) → count ≡ count_in_64 total → IsInFull count total
in_full count total is = record { below = λ l. omega (arith, is, l); above = λ l. omega (arith, is, l) }

pub returns : goal.returns
returns g =
    record {
      unasked = λ c capacity p some before old runs octets fault kind new steps h q at repairs not.
          let told = told_unasked old.cells old.ends.core.config.session octets (highest_of old.ends.core.span) fault kind steps.kind_is h q at repairs (forgets capacity some c p before old runs q not) in
          (told, steps.kinds ∙ ap (λ (k : Kind). count_kind k (Err (refused.Put fault)) old.kinds) told);
      answers = λ c capacity p some before old runs octets fault kind new steps h q at repairs first.
          told_usual old.cells old.ends.core.config.session octets g.spelling_is_determined.ensures.one g.repair_is_determined.ensures.one_packet g.near_is_determined.ensures.one
          (highest_of old.ends.core.span) fault kind steps.kind_is h q at repairs (keeps capacity some c p before old runs q first);
      media = λ p octets fault kind old new steps packet spelled other.
          told_media old.cells old.ends.core.config.session octets g.spelling_is_determined.ensures.one (highest_of old.ends.core.span) fault kind steps.kind_is packet spelled other;
      padding = λ p octets plain answer kind old new steps rtp_not stripped packet spelled is.
          let empty = ap (λ (q : RtpPacket). q.payload) (g.spelling_is_determined.ensures.one packet stripped.empty.packet plain spelled stripped.empty.spelled) ∙ stripped.empty.empty in
          let short = padding_short g.spelling_is_determined.ensures.one g.spelling_is_determined.ensures.refused g.repair_is_determined.ensures.long plain packet spelled empty
          p steps.seen old.ends (record new.ends { core = steps.hears.mid }) steps.now answer is octets stripped rtp_not steps.hears.hears in
          let told = told_padding old.cells old.ends.core.config.session octets (highest_of old.ends.core.span) kind
          (subst (λ (a : Result Heard ReceiveFault). IsKind old.cells old.ends.core.config.session (highest_of old.ends.core.span) octets a kind) short steps.kind_is) (plain, stripped) in
          (short, told, steps.kinds ∙ ap (λ (k : Kind). count_kind k answer old.kinds) told);
      counted = λ c capacity p events a runs.
          let is = kinds_counted c capacity p events a runs in (
            in_full _ _ (ap (λ (n : KindCounts). n.padding) is),
            in_full _ _ (ap (λ (n : KindCounts). n.unasked) is),
            in_full _ _ (ap (λ (n : KindCounts). n.late) is),
            in_full _ _ (ap (λ (n : KindCounts). n.duplicate) is),
            in_full _ _ (ap (λ (n : KindCounts). n.refused) is),
          );
    }
