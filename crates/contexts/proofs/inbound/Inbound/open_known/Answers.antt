use Rattle.std.proofs.Common.{◌≡◌, ℕ, List, sym, subst, ap, ◌∙◌, Some}
use Rattle.std.proofs.lemmas.Map.Steps.{set_value_same}
use Rattle.std.proofs.lemmas.Option.{same_Some}
use Rattle.std.specs.Box.{with_value}
use Rattle.std.specs.Map.{lookup}
use Rattle.std.specs.Prelude.{nat_eq}
use Rattle.lru.specs.LruCache.{lru_cache}
use Rattle.contexts.specs.declared.inbound.TheConstants.{INDICES}
use Rattle.srtp.specs.Derivation.{rtp_keys}
use Rattle.srtp.specs.Stream.{IsStream, body_of, index_at, with_taken}
use Rattle.srtp.specs.declared.keys.Profile.{Profile}
use Rattle.contexts.specs.Keyed.{IsKeyed}
use Rattle.contexts.specs.Own.{EachOwn, IsOwnStream}
use Rattle.contexts.proofs.Hearing.{hears_of}
use Rattle.contexts.proofs.Owned.{found_own, used_own, written_own}
use Rattle.contexts.proofs.inbound.Inbound.open_known.Goals as goal

pub returns-in-Ok-clause-known : goal.returns-in-Ok-clause-known
returns-in-Ok-clause-known c = λ stream context found held.
    let same = c.deref_mut.ensures.value ∙ ap (λ b. b.value) (same_Some c.in-Some.stream.now stream (c.in-Some.ensures.value ∙ found)) in
    record {
      after = with_value c.in-Some.stream.now c.open_in.new.stream;
      opens = c.in-Ok.ensures.ok context (subst (λ s. IsStream INDICES s context) (sym same) held);
      kept = c.promote.ensures.entries;
    }

pub returns-in-Err-clause-err : goal.returns-in-Err-clause-err
returns-in-Err-clause-err c =
    let found : lookup (nat_eq c.args.ssrc) c.args.self.now.streams.entries ≡ Some (with_value c.in-Some.stream.now c.open_in.new.stream) =
    sym c.in-Some.ensures.value ∙ ap (λ s. Some (with_value c.in-Some.stream.now s)) (sym (c.in-Err.ensures.err.0 ∙ c.deref_mut.ensures.value)) in
    (c.in-Err.ensures.err.1, ap (λ es. lru_cache es c.args.self.now.streams.cap) (set_value_same _ _ _ found))

-- the context that was found is its own
own : (c : goal.After-promote) (profile : Profile) (key salt : List ℕ) → IsKeyed c.args.self.now profile key salt
    → IsOwnStream INDICES (rtp_keys profile key salt) c.args.ssrc c.deref_mut.result.now
own c profile key salt keyed =
    let IsOwn = IsOwnStream INDICES (rtp_keys profile key salt) in
    subst (λ s. IsOwn c.args.ssrc s) (sym c.deref_mut.ensures.value)
    (found_own IsOwn c.args.ssrc c.args.self.now.streams c.in-Some.stream.now keyed.streams (sym c.in-Some.ensures.value))

pub returns-in-Ok-clause-heard : goal.returns-in-Ok-clause-heard
returns-in-Ok-clause-heard c = λ profile key salt keyed.
    let mine = own c profile key salt keyed in
    hears_of (rtp_keys profile key salt) mine.context c.args.packet.now _ _ mine.keyed (c.in-Ok.ensures.ok mine.context mine.is)

pub returns-in-Ok-clause-keyed : goal.returns-in-Ok-clause-keyed
returns-in-Ok-clause-keyed c = λ profile key salt keyed.
    let IsOwn = IsOwnStream INDICES (rtp_keys profile key salt) in
    let mine = own c profile key salt keyed in
    let opens = c.in-Ok.ensures.ok mine.context mine.is in
    let after : IsOwnStream INDICES (rtp_keys profile key salt) c.args.ssrc c.open_in.new.stream = record {
      context = with_taken mine.context (index_at opens.rollover (body_of c.args.packet.now));
      is = opens.taken;
      source = mine.source;
      keyed = mine.keyed;
    } in
    record {
      profile_is = keyed.profile_is;
      master = keyed.master;
      rtp = keyed.rtp;
      rtcp = keyed.rtcp;
      streams = subst (EachOwn IsOwn) (sym c.promote.ensures.entries)
          (used_own IsOwn c.args.ssrc (with_value c.in-Some.stream.now c.open_in.new.stream) c.args.self.now.streams keyed.streams after);
      controls = keyed.controls;
    }

pub returns-in-Err-clause-keyed : goal.returns-in-Err-clause-keyed
returns-in-Err-clause-keyed c = λ profile key salt keyed.
    let IsOwn = IsOwnStream INDICES (rtp_keys profile key salt) in
    let mine = found_own IsOwn c.args.ssrc c.args.self.now.streams c.in-Some.stream.now keyed.streams (sym c.in-Some.ensures.value) in
    let same = subst (λ s. IsOwn c.args.ssrc s) (sym (c.in-Err.ensures.err.0 ∙ c.deref_mut.ensures.value)) mine in
    record {
      profile_is = keyed.profile_is;
      master = keyed.master;
      rtp = keyed.rtp;
      rtcp = keyed.rtcp;
      streams = written_own IsOwn c.args.ssrc (with_value c.in-Some.stream.now c.open_in.new.stream) c.args.self.now.streams keyed.streams same;
      controls = keyed.controls;
    }
