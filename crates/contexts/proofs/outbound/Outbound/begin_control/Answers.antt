use Rattle.std.proofs.Common.{List, ℕ, refl, sym, subst, ◌<◌, length, arith}
use Rattle.srtp.specs.Derivation.{AreKeys, rtcp_keys}
use Rattle.srtp.specs.Rtcp.{IsSending}
use Rattle.contexts.specs.Outbound.{IsSealedWith, first_sending}
use Rattle.contexts.proofs.Opens.{on_ok}
use Rattle.contexts.proofs.Remembered.{keeping_remembers}
use Rattle.srtp.specs.declared.keys.Profile.{Profile}
use Rattle.contexts.specs.Own.{IsOwnSender}
use Rattle.contexts.proofs.Owned.{kept_own}
use Rattle.contexts.proofs.outbound.Outbound.begin_control.Goals as goal

fresh : (c : goal.After-keep) (profile : Profile) (key salt : List ℕ) → IsSealedWith c.args.self.now profile key salt
    → IsSending c.new-sender.result (first_sending (rtcp_keys profile key salt) c.args.ssrc)
fresh c profile key salt keyed =
    let keys : AreKeys c.of_rtcp-keys.result (rtcp_keys profile key salt) =
    subst (λ p. AreKeys c.of_rtcp-keys.result (rtcp_keys p key salt)) keyed.profile_is (c.of_rtcp-keys.ensures key salt keyed.master) in
    c.new-sender.ensures (rtcp_keys profile key salt) keys

pub returns-clause-begun : goal.returns-clause-begun
returns-clause-begun c = λ profile key salt keyed.
    let context = first_sending (rtcp_keys profile key salt) c.args.ssrc in
    on_ok c.keep.result c.keep.ensures.ok (λ kept. record {
      sender = kept.own;
      fresh = subst (λ s. IsSending s context) (sym kept.is) (fresh c profile key salt keyed);
      kept = kept.kept;
    })

pub returns-clause-remembers : goal.returns-clause-remembers
returns-clause-remembers c =
    let room : length c.args.self.now.controls.entries < c.args.self.now.controls.cap =
    omega (arith, c.len.ensures.len, c.cap.ensures, c.get.ensures.value, c.if-len-get.false) in
    keeping_remembers c.args.ssrc c.new-sender.result c.args.self.now.controls c.keep.new.contexts c.keep.result c.requires room c.keep.ensures.ok c.keep.ensures.err

pub returns-clause-keyed : goal.returns-clause-keyed
returns-clause-keyed c = λ profile key salt keyed.
    let IsOwn = IsOwnSender (rtcp_keys profile key salt) in
    let own : IsOwnSender (rtcp_keys profile key salt) c.args.ssrc c.new-sender.result = record {
      sending = first_sending (rtcp_keys profile key salt) c.args.ssrc;
      is = fresh c profile key salt keyed;
      source = refl;
      keyed = refl;
    } in
    record {
      profile_is = keyed.profile_is;
      master = keyed.master;
      streams = keyed.streams;
      controls = kept_own IsOwn c.args.ssrc c.new-sender.result c.args.self.now.controls c.keep.new.contexts c.keep.result keyed.controls own
          c.keep.ensures.ok c.keep.ensures.err;
    }
