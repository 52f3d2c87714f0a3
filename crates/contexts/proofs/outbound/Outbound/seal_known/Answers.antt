use Rattle.std.proofs.Common.{refl, sym, subst, ap, ◌∙◌}
use Rattle.std.proofs.lemmas.Option.{same_Some}
use Rattle.std.specs.Box.{with_value}
use Rattle.contexts.specs.declared.outbound.TheConstants.{SENT}
use Rattle.contexts.proofs.Remembered.{written_remembers}
use Rattle.srtp.specs.Derivation.{rtp_keys}
use Rattle.srtp.specs.Stream.{IsStream, body_of, index_in, with_taken}
use Rattle.contexts.specs.Own.{IsOwnStream}
use Rattle.contexts.proofs.Hearing.{leaves_of}
use Rattle.contexts.proofs.Opens.{packet_has_header}
use Rattle.contexts.proofs.Owned.{found_own, written_own}
use Rattle.contexts.proofs.outbound.Outbound.seal_known.Goals as goal

pub returns-in-Ok-clause-known : goal.returns-in-Ok-clause-known
returns-in-Ok-clause-known c = λ stream context found held.
    let same = c.deref_mut.ensures.value ∙ ap (λ b. b.value) (same_Some c.in-Some.stream.now stream (c.in-Some.ensures.value ∙ found)) in
    let ok = c.in-Ok.ensures.ok context (subst (λ s. IsStream SENT s context) (sym same) held) in
    record {
      after = with_value c.in-Some.stream.now c.protect.new.self;
      is = ok.0;
      taken = ok.1;
      kept = refl;
    }

pub returns-in-Ok-clause-remembers : goal.returns-in-Ok-clause-remembers
returns-in-Ok-clause-remembers c = written_remembers c.args.ssrc (with_value c.in-Some.stream.now c.protect.new.self) c.args.self.now.streams

pub returns-in-Err-clause-remembers : goal.returns-in-Err-clause-remembers
returns-in-Err-clause-remembers c = written_remembers c.args.ssrc (with_value c.in-Some.stream.now c.protect.new.self) c.args.self.now.streams

pub returns-in-Ok-clause-sealed : goal.returns-in-Ok-clause-sealed
returns-in-Ok-clause-sealed c = λ profile key salt keyed.
    let IsOwn = IsOwnStream SENT (rtp_keys profile key salt) in
    let mine = subst (λ s. IsOwn c.args.ssrc s) (sym c.deref_mut.ensures.value)
    (found_own IsOwn c.args.ssrc c.args.self.now.streams c.in-Some.stream.now keyed.streams (sym c.in-Some.ensures.value)) in
    let passed = sym (c.in-Ok.ensures.fault mine.context mine.is) in
    leaves_of (rtp_keys profile key salt) mine.context (body_of c.args.packet.now) _ mine.keyed passed (c.in-Ok.ensures.ok mine.context mine.is).0
    (sym (packet_has_header mine.context c.args.packet.now passed))

pub returns-in-Ok-clause-keyed : goal.returns-in-Ok-clause-keyed
returns-in-Ok-clause-keyed c = λ profile key salt keyed.
    let IsOwn = IsOwnStream SENT (rtp_keys profile key salt) in
    let mine = subst (λ s. IsOwn c.args.ssrc s) (sym c.deref_mut.ensures.value)
    (found_own IsOwn c.args.ssrc c.args.self.now.streams c.in-Some.stream.now keyed.streams (sym c.in-Some.ensures.value)) in
    let after : IsOwnStream SENT (rtp_keys profile key salt) c.args.ssrc c.protect.new.self = record {
      context = with_taken mine.context (index_in mine.context (body_of c.args.packet.now));
      is = (c.in-Ok.ensures.ok mine.context mine.is).1;
      source = mine.source;
      keyed = mine.keyed;
    } in
    record {
      profile_is = keyed.profile_is;
      master = keyed.master;
      streams = written_own IsOwn c.args.ssrc (with_value c.in-Some.stream.now c.protect.new.self) c.args.self.now.streams keyed.streams after;
      controls = keyed.controls;
    }

pub returns-in-Err-clause-keyed : goal.returns-in-Err-clause-keyed
returns-in-Err-clause-keyed c = λ profile key salt keyed.
    let IsOwn = IsOwnStream SENT (rtp_keys profile key salt) in
    let mine = found_own IsOwn c.args.ssrc c.args.self.now.streams c.in-Some.stream.now keyed.streams (sym c.in-Some.ensures.value) in
    let same = subst (λ s. IsOwn c.args.ssrc s) (sym (c.in-Err.ensures.err.0 ∙ c.deref_mut.ensures.value)) mine in
    record {
      profile_is = keyed.profile_is;
      master = keyed.master;
      streams = written_own IsOwn c.args.ssrc (with_value c.in-Some.stream.now c.protect.new.self) c.args.self.now.streams keyed.streams same;
      controls = keyed.controls;
    }
