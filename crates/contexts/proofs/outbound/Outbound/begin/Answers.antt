use Rattle.std.proofs.Common.{List, ℕ, refl, sym, subst, ◌<◌, length, arith}
use Rattle.srtp.specs.Derivation.{AreKeys, rtp_keys}
use Rattle.srtp.specs.Stream.{IsStream}
use Rattle.contexts.specs.Outbound.{IsSealedWith, first_context}
use Rattle.contexts.specs.declared.outbound.TheConstants.{SENT}
use Rattle.contexts.proofs.Opens.{on_ok}
use Rattle.contexts.proofs.Remembered.{keeping_remembers}
use Rattle.srtp.specs.declared.keys.Profile.{Profile}
use Rattle.contexts.specs.Own.{IsOwnStream}
use Rattle.contexts.proofs.Owned.{kept_own}
use Rattle.contexts.proofs.outbound.Outbound.begin.Goals as goal

fresh : (c : goal.After-keep) (profile : Profile) (key salt : List ℕ) → IsSealedWith c.args.self.now profile key salt
    → IsStream SENT c.new-stream.result (first_context (rtp_keys profile key salt) c.args.ssrc)
fresh c profile key salt keyed =
    let keys : AreKeys c.of_rtp-keys.result (rtp_keys profile key salt) =
    subst (λ p. AreKeys c.of_rtp-keys.result (rtp_keys p key salt)) keyed.profile_is (c.of_rtp-keys.ensures key salt keyed.master) in
    c.new-stream.ensures (rtp_keys profile key salt) keys

pub returns-clause-begun : goal.returns-clause-begun
returns-clause-begun c = λ profile key salt keyed.
    let context = first_context (rtp_keys profile key salt) c.args.ssrc in
    on_ok c.keep.result c.keep.ensures.ok (λ kept. record {
      stream = kept.own;
      fresh = subst (λ s. IsStream SENT s context) (sym kept.is) (fresh c profile key salt keyed);
      kept = kept.kept;
    })

pub returns-clause-remembers : goal.returns-clause-remembers
returns-clause-remembers c =
    let room : length c.args.self.now.streams.entries < c.args.self.now.streams.cap =
    omega (arith, c.len.ensures.len, c.cap.ensures, c.get.ensures.value, c.if-len-get.false) in
    keeping_remembers c.args.ssrc c.new-stream.result c.args.self.now.streams c.keep.new.contexts c.keep.result c.requires room c.keep.ensures.ok c.keep.ensures.err

pub returns-clause-keyed : goal.returns-clause-keyed
returns-clause-keyed c = λ profile key salt keyed.
    let IsOwn = IsOwnStream SENT (rtp_keys profile key salt) in
    let own : IsOwnStream SENT (rtp_keys profile key salt) c.args.ssrc c.new-stream.result = record {
      context = first_context (rtp_keys profile key salt) c.args.ssrc;
      is = fresh c profile key salt keyed;
      source = refl;
      keyed = refl;
    } in
    record {
      profile_is = keyed.profile_is;
      master = keyed.master;
      streams = kept_own IsOwn c.args.ssrc c.new-stream.result c.args.self.now.streams c.keep.new.contexts c.keep.result keyed.streams own
          c.keep.ensures.ok c.keep.ensures.err;
      controls = keyed.controls;
    }
