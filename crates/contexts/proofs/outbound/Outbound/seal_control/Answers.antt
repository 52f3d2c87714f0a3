use Rattle.std.proofs.Common.{◌+◌, refl, sym, subst, ap, ◌∙◌}
use Rattle.std.proofs.lemmas.Option.{same_Some}
use Rattle.std.specs.Box.{with_value}
use Rattle.srtp.specs.Rtcp.{IsSending, before_trailer}
use Rattle.contexts.proofs.Remembered.{written_remembers}
use Rattle.srtp.specs.Derivation.{rtcp_keys}
use Rattle.srtp.specs.Stream.{body_of}
use Rattle.contexts.specs.Own.{IsOwnSender}
use Rattle.contexts.proofs.Hearing.{leaves_control_of}
use Rattle.contexts.proofs.Owned.{found_own, written_own}
use Rattle.contexts.proofs.outbound.Outbound.seal_control.Goals as goal

pub returns-in-Ok-clause-known : goal.returns-in-Ok-clause-known
returns-in-Ok-clause-known c = λ sender sending found held.
    let same = c.deref_mut.ensures.value ∙ ap (λ b. b.value) (same_Some c.in-Some.sender.now sender (c.in-Some.ensures.value ∙ found)) in
    let ok = c.in-Ok.ensures.ok sending (subst (λ s. IsSending s sending) (sym same) held) in
    record {
      after = with_value c.in-Some.sender.now c.protect.new.self;
      is = ok.0;
      taken = ok.1;
      kept = refl;
    }

pub returns-in-Ok-clause-remembers : goal.returns-in-Ok-clause-remembers
returns-in-Ok-clause-remembers c = written_remembers c.args.ssrc (with_value c.in-Some.sender.now c.protect.new.self) c.args.self.now.controls

pub returns-in-Err-clause-remembers : goal.returns-in-Err-clause-remembers
returns-in-Err-clause-remembers c = written_remembers c.args.ssrc (with_value c.in-Some.sender.now c.protect.new.self) c.args.self.now.controls

pub returns-in-Ok-clause-sealed : goal.returns-in-Ok-clause-sealed
returns-in-Ok-clause-sealed c = λ profile key salt keyed.
    let IsOwn = IsOwnSender (rtcp_keys profile key salt) in
    let mine = subst (λ s. IsOwn c.args.ssrc s) (sym c.deref_mut.ensures.value)
    (found_own IsOwn c.args.ssrc c.args.self.now.controls c.in-Some.sender.now keyed.controls (sym c.in-Some.ensures.value)) in
    leaves_control_of (rtcp_keys profile key salt) mine.sending (before_trailer (body_of c.args.packet.now)) _ mine.keyed
    (sym (c.in-Ok.ensures.fault mine.sending mine.is)) (c.in-Ok.ensures.ok mine.sending mine.is).0

pub returns-in-Ok-clause-keyed : goal.returns-in-Ok-clause-keyed
returns-in-Ok-clause-keyed c = λ profile key salt keyed.
    let IsOwn = IsOwnSender (rtcp_keys profile key salt) in
    let mine = subst (λ s. IsOwn c.args.ssrc s) (sym c.deref_mut.ensures.value)
    (found_own IsOwn c.args.ssrc c.args.self.now.controls c.in-Some.sender.now keyed.controls (sym c.in-Some.ensures.value)) in
    let after : IsOwnSender (rtcp_keys profile key salt) c.args.ssrc c.protect.new.self = record {
      sending = record mine.sending { next = mine.sending.next + 1 };
      is = (c.in-Ok.ensures.ok mine.sending mine.is).1;
      source = mine.source;
      keyed = mine.keyed;
    } in
    record {
      profile_is = keyed.profile_is;
      master = keyed.master;
      streams = keyed.streams;
      controls = written_own IsOwn c.args.ssrc (with_value c.in-Some.sender.now c.protect.new.self) c.args.self.now.controls keyed.controls after;
    }

pub returns-in-Err-clause-keyed : goal.returns-in-Err-clause-keyed
returns-in-Err-clause-keyed c = λ profile key salt keyed.
    let IsOwn = IsOwnSender (rtcp_keys profile key salt) in
    let mine = found_own IsOwn c.args.ssrc c.args.self.now.controls c.in-Some.sender.now keyed.controls (sym c.in-Some.ensures.value) in
    let same = subst (λ s. IsOwn c.args.ssrc s) (sym (c.in-Err.ensures.err.0 ∙ c.deref_mut.ensures.value)) mine in
    record {
      profile_is = keyed.profile_is;
      master = keyed.master;
      streams = keyed.streams;
      controls = written_own IsOwn c.args.ssrc (with_value c.in-Some.sender.now c.protect.new.self) c.args.self.now.controls keyed.controls same;
    }
