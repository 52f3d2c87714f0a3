use Rattle.std.proofs.Common.{List, ℕ, refl, sym, subst, ap, ◌∙◌}
use Rattle.std.proofs.lemmas.Option.{same_Some}
use Rattle.srtp.specs.Derivation.{AreKeys, rtp_keys}
use Rattle.srtp.specs.Stream.{IsStream}
use Rattle.srtp.specs.declared.keys.Profile.{Profile}
use Rattle.contexts.specs.Inbound.{BeginsAt, Keeps, begun, new_context}
use Rattle.contexts.specs.Keyed.{IsKeyed}
use Rattle.contexts.specs.declared.inbound.TheConstants.{INDICES}
use Rattle.contexts.proofs.Opens.{on_ok, ok_or_err}
use Rattle.contexts.specs.Own.{IsOwnStream}
use Rattle.contexts.proofs.Owned.{kept_own}
use Rattle.contexts.proofs.inbound.Inbound.begin.Goals as goal

-- Nothing but the search is changed before it is kept,
searched : (c : goal.After-keep) (profile : Profile) (key salt : List ℕ) → IsKeyed c.args.self.now profile key salt → IsKeyed c.first_rollover.new.self profile key salt
searched c profile key salt keyed = subst (λ s. IsKeyed s profile key salt) (sym c.first_rollover.ensures.same) (record {
  profile_is = keyed.profile_is;
  master = keyed.master;
  rtp = keyed.rtp;
  rtcp = keyed.rtcp;
  streams = keyed.streams;
  controls = keyed.controls;
})

-- and it is new.
fresh : (c : goal.After-keep) (profile : Profile) (key salt : List ℕ) → IsKeyed c.args.self.now profile key salt
    → IsStream INDICES c.new-stream.result (new_context (rtp_keys profile key salt) c.args.ssrc c.in-Some.rollover)
fresh c profile key salt keyed =
    let same = searched c profile key salt keyed in
    let keys : AreKeys c.of_rtp-keys.result (rtp_keys profile key salt) =
    subst (λ p. AreKeys c.of_rtp-keys.result (rtp_keys p key salt)) same.profile_is (c.of_rtp-keys.ensures key salt same.master) in
    c.new-stream.ensures (rtp_keys profile key salt) keys

-- under the rollover counter that was found
at : (c : goal.After-keep) (profile : Profile) (key salt : List ℕ) → IsKeyed c.args.self.now profile key salt
    → Keeps c.args.ssrc c.new-stream.result c.first_rollover.new.self.streams c.keep.new.contexts
    → BeginsAt c.in-Some.rollover (rtp_keys profile key salt) c.args.ssrc c.args.self.now.streams c.keep.new.contexts
at c profile key salt keyed kept =
    let context = new_context (rtp_keys profile key salt) c.args.ssrc c.in-Some.rollover in
    record {
      stream = kept.own;
      fresh = subst (λ s. IsStream INDICES s context) (sym kept.is) (fresh c profile key salt keyed);
      kept = kept.kept ∙ ap (λ s. begun c.args.ssrc kept.own s.streams) c.first_rollover.ensures.same;
    }

pub returns-clause-begun : goal.returns-clause-begun
returns-clause-begun c = λ profile key salt keyed.
    on_ok c.keep.result c.keep.ensures.ok (λ kept. record { rollover = c.in-Some.rollover; at = at c profile key salt keyed kept })

pub returns-clause-first : goal.returns-clause-first
returns-clause-first c = λ profile key salt keyed session.
    let zero = c.first_rollover.ensures.first (rtp_keys profile key salt) keyed.rtp session.tag in
    let is = same_Some c.in-Some.rollover 0 (sym c.in-Some.is ∙ zero) in
    ok_or_err c.keep.result (BeginsAt 0 (rtp_keys profile key salt) c.args.ssrc c.args.self.now.streams c.keep.new.contexts) _
    (on_ok c.keep.result c.keep.ensures.ok (λ kept.
    subst (λ r. BeginsAt r (rtp_keys profile key salt) c.args.ssrc c.args.self.now.streams c.keep.new.contexts) is (at c profile key salt keyed kept)))
    c.keep.ensures.fault

pub returns-clause-keyed : goal.returns-clause-keyed
returns-clause-keyed c = λ profile key salt keyed.
    let IsOwn = IsOwnStream INDICES (rtp_keys profile key salt) in
    let before = searched c profile key salt keyed in
    let own : IsOwnStream INDICES (rtp_keys profile key salt) c.args.ssrc c.new-stream.result = record {
      context = new_context (rtp_keys profile key salt) c.args.ssrc c.in-Some.rollover;
      is = fresh c profile key salt keyed;
      source = refl;
      keyed = refl;
    } in
    record {
      profile_is = before.profile_is;
      master = before.master;
      rtp = before.rtp;
      rtcp = before.rtcp;
      streams = kept_own IsOwn c.args.ssrc c.new-stream.result c.first_rollover.new.self.streams c.keep.new.contexts c.keep.result before.streams own
          c.keep.ensures.ok c.keep.ensures.err;
      controls = before.controls;
    }
