use Rattle.std.proofs.Common.{◌≡◌, ℕ, List, ◌∷◌, sym, subst, ap, ◌∙◌, Some, nat_eq}
use Rattle.std.proofs.lemmas.Map.Steps.{set_value_same}
use Rattle.std.proofs.lemmas.Option.{same_Some}
use Rattle.std.specs.Box.{with_value}
use Rattle.std.specs.Map.{lookup}
use Rattle.lru.specs.LruCache.{lru_cache}
use Rattle.srtp.specs.Rtcp.{IsReceiving}
use Rattle.contexts.specs.declared.inbound.TheConstants.{RTCP_INDICES}
use Rattle.contexts.proofs.ControlOpens.{opens_control}
use Rattle.srtp.specs.Derivation.{rtcp_keys}
use Rattle.srtp.specs.declared.keys.Profile.{Profile}
use Rattle.contexts.specs.Controls.{control_index}
use Rattle.contexts.specs.Keyed.{IsKeyed}
use Rattle.contexts.specs.Own.{EachOwn, IsOwnReceiver}
use Rattle.contexts.proofs.Hearing.{hears_control_of}
use Rattle.contexts.proofs.Owned.{found_own, used_own, written_own}
use Rattle.contexts.proofs.inbound.Inbound.open_control.Goals as goal

pub returns-in-Ok-clause-known : goal.returns-in-Ok-clause-known
returns-in-Ok-clause-known c = λ receiver receiving found held.
    let same = c.deref_mut.ensures.value ∙ ap (λ b. b.value) (same_Some c.in-Some.receiver.now receiver (c.in-Some.ensures.value ∙ found)) in
    let before = subst (λ s. IsReceiving RTCP_INDICES s receiving) (sym same) held in
    let ok = c.in-Ok.ensures.ok receiving before in
    record {
      after = with_value c.in-Some.receiver.now c.unprotect.new.self;
      opens = opens_control receiving c.args.packet.now _ _ (c.in-Ok.ensures.fault receiving before) ok.0 ok.1;
      kept = c.promote.ensures.entries;
    }

pub returns-in-Err-clause-err : goal.returns-in-Err-clause-err
returns-in-Err-clause-err c =
    let found : lookup (nat_eq c.args.ssrc) c.args.self.now.controls.entries ≡ Some (with_value c.in-Some.receiver.now c.unprotect.new.self) =
    sym c.in-Some.ensures.value ∙ ap (λ s. Some (with_value c.in-Some.receiver.now s)) (sym (c.in-Err.ensures.err.0 ∙ c.deref_mut.ensures.value)) in
    (c.in-Err.ensures.err.1, ap (λ es. lru_cache es c.args.self.now.controls.cap) (set_value_same _ _ _ found))

-- the context that was found is its own
own : (c : goal.After-promote) (profile : Profile) (key salt : List ℕ) → IsKeyed c.args.self.now profile key salt
    → IsOwnReceiver (rtcp_keys profile key salt) c.args.ssrc c.deref_mut.result.now
own c profile key salt keyed =
    let IsOwn = IsOwnReceiver (rtcp_keys profile key salt) in
    subst (λ s. IsOwn c.args.ssrc s) (sym c.deref_mut.ensures.value)
    (found_own IsOwn c.args.ssrc c.args.self.now.controls c.in-Some.receiver.now keyed.controls (sym c.in-Some.ensures.value))

pub returns-in-Ok-clause-heard : goal.returns-in-Ok-clause-heard
returns-in-Ok-clause-heard c = λ profile key salt keyed.
    let mine = own c profile key salt keyed in
    let ok = c.in-Ok.ensures.ok mine.receiving mine.is in
    hears_control_of (rtcp_keys profile key salt) mine.receiving c.args.packet.now _ _ mine.keyed
    (opens_control mine.receiving c.args.packet.now _ _ (c.in-Ok.ensures.fault mine.receiving mine.is) ok.0 ok.1)

pub returns-in-Ok-clause-keyed : goal.returns-in-Ok-clause-keyed
returns-in-Ok-clause-keyed c = λ profile key salt keyed.
    let IsOwn = IsOwnReceiver (rtcp_keys profile key salt) in
    let mine = own c profile key salt keyed in
    let after : IsOwnReceiver (rtcp_keys profile key salt) c.args.ssrc c.unprotect.new.self = record {
      receiving = record mine.receiving { taken = control_index c.args.packet.now ∷ mine.receiving.taken };
      is = (c.in-Ok.ensures.ok mine.receiving mine.is).1;
      source = mine.source;
      keyed = mine.keyed;
    } in
    record {
      profile_is = keyed.profile_is;
      master = keyed.master;
      rtp = keyed.rtp;
      rtcp = keyed.rtcp;
      streams = keyed.streams;
      controls = subst (EachOwn IsOwn) (sym c.promote.ensures.entries)
          (used_own IsOwn c.args.ssrc (with_value c.in-Some.receiver.now c.unprotect.new.self) c.args.self.now.controls keyed.controls after);
    }

pub returns-in-Err-clause-keyed : goal.returns-in-Err-clause-keyed
returns-in-Err-clause-keyed c = λ profile key salt keyed.
    let IsOwn = IsOwnReceiver (rtcp_keys profile key salt) in
    let mine = found_own IsOwn c.args.ssrc c.args.self.now.controls c.in-Some.receiver.now keyed.controls (sym c.in-Some.ensures.value) in
    let same = subst (λ s. IsOwn c.args.ssrc s) (sym (c.in-Err.ensures.err.0 ∙ c.deref_mut.ensures.value)) mine in
    record {
      profile_is = keyed.profile_is;
      master = keyed.master;
      rtp = keyed.rtp;
      rtcp = keyed.rtcp;
      streams = keyed.streams;
      controls = written_own IsOwn c.args.ssrc (with_value c.in-Some.receiver.now c.unprotect.new.self) c.args.self.now.controls keyed.controls same;
    }
