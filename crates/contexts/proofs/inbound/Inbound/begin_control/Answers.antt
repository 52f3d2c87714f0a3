use Rattle.std.proofs.Common.{List, ℕ, refl, sym, subst}
use Rattle.srtp.specs.Derivation.{AreKeys, rtcp_keys}
use Rattle.srtp.specs.Rtcp.{IsReceiving}
use Rattle.contexts.specs.Controls.{new_receiving}
use Rattle.contexts.specs.declared.inbound.TheConstants.{RTCP_INDICES}
use Rattle.contexts.proofs.Opens.{on_ok}
use Rattle.srtp.specs.declared.keys.Profile.{Profile}
use Rattle.contexts.specs.Keyed.{IsKeyed}
use Rattle.contexts.specs.Own.{IsOwnReceiver}
use Rattle.contexts.proofs.Owned.{kept_own}
use Rattle.contexts.proofs.inbound.Inbound.begin_control.Goals as goal

fresh : (c : goal.After-keep) (profile : Profile) (key salt : List ℕ) → IsKeyed c.args.self.now profile key salt
    → IsReceiving RTCP_INDICES c.new-receiver.result (new_receiving (rtcp_keys profile key salt) c.args.ssrc)
fresh c profile key salt keyed =
    let keys : AreKeys c.of_rtcp-keys.result (rtcp_keys profile key salt) =
    subst (λ p. AreKeys c.of_rtcp-keys.result (rtcp_keys p key salt)) keyed.profile_is (c.of_rtcp-keys.ensures key salt keyed.master) in
    c.new-receiver.ensures (rtcp_keys profile key salt) keys

pub returns-clause-begun : goal.returns-clause-begun
returns-clause-begun c = λ profile key salt keyed.
    let receiving = new_receiving (rtcp_keys profile key salt) c.args.ssrc in
    on_ok c.keep.result c.keep.ensures.ok (λ kept. record {
      receiver = kept.own;
      fresh = subst (λ s. IsReceiving RTCP_INDICES s receiving) (sym kept.is) (fresh c profile key salt keyed);
      kept = kept.kept;
    })

pub returns-clause-keyed : goal.returns-clause-keyed
returns-clause-keyed c = λ profile key salt keyed.
    let IsOwn = IsOwnReceiver (rtcp_keys profile key salt) in
    let own : IsOwnReceiver (rtcp_keys profile key salt) c.args.ssrc c.new-receiver.result = record {
      receiving = new_receiving (rtcp_keys profile key salt) c.args.ssrc;
      is = fresh c profile key salt keyed;
      source = refl;
      keyed = refl;
    } in
    record {
      profile_is = keyed.profile_is;
      master = keyed.master;
      rtp = keyed.rtp;
      rtcp = keyed.rtcp;
      streams = keyed.streams;
      controls = kept_own IsOwn c.args.ssrc c.new-receiver.result c.args.self.now.controls c.keep.new.contexts c.keep.result keyed.controls own
          c.keep.ensures.ok c.keep.ensures.err;
    }
