-- A packet that no check of SRTP refuses is opened.
use Rattle.std.proofs.Common.{◌≡◌, ℕ, ◌+◌, ◌-◌, ◌*◌, ◌/◌, ◌%◌, ◌==◌, not, Bool, true, false, List, ◌++◌, Option, Some, None, if◌then◌else◌, Result, Ok, Err, MatchResult, OnOk, IsOk, IfErr, [], refl, sym, subst, arith}
use Rattle.std.specs.Option.{option_map}
use Rattle.std.proofs.lemmas.Bool.{eq-eqb, le-ltb}
use Rattle.srtp.specs.Derivation.{Keys}
use Rattle.std.specs.Result.{result_err}
use Rattle.srtp.specs.Fault.{of_replay, or_else, fault_if}
use Rattle.srtp.specs.Header.{header_fault, sequence_of, ssrc_of}
use Rattle.srtp.specs.Index.{guessed_rollover, guessed_index}
use Rattle.srtp.specs.Replay.{next_of, replay_fault}
use Rattle.srtp.specs.Stream.{Context, IsStream, index_of, index_in, index_at, guess_fault, packet_fault, packet_fault_at, with_taken, turned, body_of, tag_in, is_tagged, tag_fault, unprotect_fault, unprotect_fault_at}
use Rattle.srtp.specs.declared.fault.SrtpFault.{SrtpFault}
use Rattle.srtp.specs.declared.fault.SrtpFault.TheVariants.{WrongSource, WrongTag}
use Rattle.srtp.specs.declared.replay.ReplayFault.{ReplayFault}
use Rattle.srtp.specs.declared.stream.Stream.{Stream}
use Rattle.contexts.specs.Inbound.{Opens, BeginsSession, new_context, source_in}
use Rattle.contexts.specs.Outbound.{first_context}
use Rattle.contexts.specs.declared.inbound.TheConstants.{INDICES}
use Rattle.contexts.specs.declared.outbound.TheConstants.{SENT}

pub none_first : (a b : Option SrtpFault) → None ≡ or_else a b → None ≡ a
none_first None b e = refl
none_first (Some x) b e = cc

pub none_second : (a b : Option SrtpFault) → None ≡ or_else a b → None ≡ b
none_second None b e = e
none_second (Some x) b e = cc

pub tag_from : (t : Bool) → None ≡ fault_if (not t) WrongTag → t ≡ true
tag_from true e = refl
tag_from false e = cc

pub free_from : (o : Option ReplayFault) → None ≡ option_map of_replay o → o ≡ None
free_from None e = refl
free_from (Some fault) e = cc

-- the rollover counter that is guessed
pub guess_of : Context → List ℕ → ℕ
guess_of context octets =
    let highest = next_of context.taken - 1 in
    if next_of context.taken == 0 then context.rollover else guessed_rollover (highest / 65536) (highest % 65536) (sequence_of octets)

pub guess_is : (context : Context) (octets : List ℕ) → index_in context octets ≡ index_at (guess_of context octets) octets
unfolding index_of guess_of
guess_is context octets = told (next_of context.taken == 0)
  where
    highest : ℕ
    highest = next_of context.taken - 1

    told : (b : Bool) → (if b then 65536 * context.rollover + sequence_of octets else guessed_index highest (sequence_of octets))
        ≡ 65536 * (if b then context.rollover else guessed_rollover (highest / 65536) (highest % 65536) (sequence_of octets)) + sequence_of octets
    told true = refl
    told false = refl

-- under an index that has this rollover counter
opens_at : (context : Context) (packet opened : List ℕ) (after : Stream INDICES) (rollover index : ℕ) → index ≡ index_at rollover (body_of packet)
    → None ≡ option_map of_replay (replay_fault context.len context.taken index) → None ≡ tag_fault context index packet
    → opened ≡ turned context index (body_of packet) ++ tag_in packet → IsStream INDICES after (with_taken context index)
    → Opens context packet opened after
opens_at context packet opened after rollover index at free tagged is taken =
    let right : is_tagged context.keys index packet ≡ true = tag_from _ tagged in
    let new : replay_fault context.len context.taken index ≡ None = free_from _ free in
    record {
      rollover = rollover;
      tag = subst (λ n. is_tagged context.keys n packet ≡ true) at right;
      fresh = subst (λ n. replay_fault context.len context.taken n ≡ None) at new;
      is = subst (λ n. opened ≡ turned context n (body_of packet) ++ tag_in packet) at is;
      taken = subst (λ n. IsStream INDICES after (with_taken context n)) at taken;
    }

pub opens_guessed : (context : Context) (packet opened : List ℕ) (after : Stream INDICES) → None ≡ unprotect_fault context packet
    → opened ≡ turned context (index_in context (body_of packet)) (body_of packet) ++ tag_in packet
    → IsStream INDICES after (with_taken context (index_in context (body_of packet))) → Opens context packet opened after
unfolding unprotect_fault packet_fault
opens_guessed context packet opened after none is taken =
    let body : List ℕ = body_of packet in
    let index : ℕ = index_in context body in
    let source : Option SrtpFault = fault_if (not (ssrc_of body == context.ssrc)) WrongSource in
    let guess : Option SrtpFault = guess_fault context.taken index in
    let replay : Option SrtpFault = option_map of_replay (replay_fault context.len context.taken index) in
    let checks = none_first (packet_fault context body) (tag_fault context index packet) none in
    let tagged = none_second (packet_fault context body) (tag_fault context index packet) none in
    let behind_header = none_second (header_fault body) (or_else source (or_else guess replay)) checks in
    let free = none_second guess replay (none_second source (or_else guess replay) behind_header) in
    opens_at context packet opened after (guess_of context body) index (guess_is context body) free tagged is taken

opens_said : (context : Context) (packet opened : List ℕ) (after : Stream INDICES) (rollover : ℕ)
    → None ≡ unprotect_fault_at context (index_at rollover (body_of packet)) packet
    → opened ≡ turned context (index_at rollover (body_of packet)) (body_of packet) ++ tag_in packet
    → IsStream INDICES after (with_taken context (index_at rollover (body_of packet))) → Opens context packet opened after
unfolding unprotect_fault_at packet_fault_at
opens_said context packet opened after rollover none is taken =
    let body : List ℕ = body_of packet in
    let index : ℕ = index_at rollover body in
    let source : Option SrtpFault = fault_if (not (ssrc_of body == context.ssrc)) WrongSource in
    let replay : Option SrtpFault = option_map of_replay (replay_fault context.len context.taken index) in
    let checks = none_first (packet_fault_at context index body) (tag_fault context index packet) none in
    let tagged = none_second (packet_fault_at context index body) (tag_fault context index packet) none in
    let free = none_second source replay (none_second (header_fault body) (or_else source replay) checks) in
    opens_at context packet opened after rollover index refl free tagged is taken

answered : (context : Context) (packet opened : List ℕ) (after : Stream INDICES) (rollover : ℕ) (answer : Result ℕ SrtpFault)
    → OnOk answer ((opened ≡ turned context (index_at rollover (body_of packet)) (body_of packet) ++ tag_in packet)
    × IsStream INDICES after (with_taken context (index_at rollover (body_of packet))))
    → result_err answer ≡ unprotect_fault_at context (index_at rollover (body_of packet)) packet → OnOk answer (Opens context packet opened after)
answered context packet opened after rollover (Ok len) ok fault = opens_said context packet opened after rollover fault ok.0 ok.1
answered context packet opened after rollover (Err refusal) ok fault = tt

-- an answer for a rollover counter that is said, to the packet as it came
pub opens_or_refuses : (context : Context) (packet tried opened : List ℕ) (after : Stream INDICES) (rollover : ℕ) (answer : Result ℕ SrtpFault)
    → tried ≡ packet → OnOk answer ((opened ≡ turned context (index_at rollover (body_of tried)) (body_of tried) ++ tag_in tried)
    × IsStream INDICES after (with_taken context (index_at rollover (body_of tried))))
    → result_err answer ≡ unprotect_fault_at context (index_at rollover (body_of tried)) tried → OnOk answer (Opens context packet opened after)
opens_or_refuses context packet tried opened after rollover answer same ok fault =
    subst (λ p. OnOk answer (Opens context p opened after)) same (answered context tried opened after rollover answer ok fault)

-- what SRTP takes has a header
pub packet_has_header : (context : Context) (packet : List ℕ) → packet_fault context (body_of packet) ≡ None → None ≡ header_fault (body_of packet)
unfolding packet_fault
packet_has_header context packet taken =
    let body : List ℕ = body_of packet in
    let index : ℕ = index_in context body in
    let source : Option SrtpFault = fault_if (not (ssrc_of body == context.ssrc)) WrongSource in
    let rest : Option SrtpFault = or_else (guess_fault context.taken index) (option_map of_replay (replay_fault context.len context.taken index)) in
    none_first (header_fault body) (or_else source rest) (sym taken)

pub has_header : (context : Context) (packet : List ℕ) → unprotect_fault context packet ≡ None → None ≡ header_fault (body_of packet)
unfolding unprotect_fault
has_header context packet taken =
    packet_has_header context packet
    (sym (none_first (packet_fault context (body_of packet)) (tag_fault context (index_in context (body_of packet)) packet) (sym taken)))

pub on_ok : {T E A B : Type 0} (answer : Result T E) → OnOk answer A → (A → B) → OnOk answer B
on_ok (Ok len) a f = f a
on_ok (Err refusal) a f = tt

pub none_taken : (len index : ℕ) → replay_fault len [] index ≡ None
none_taken len index = rw (le-ltb (index + len) 0 (omega arith)) refl

-- The first packet of a session may be protected in a new context,
pub seals_first : (keys : Keys) (ssrc : ℕ) (packet : List ℕ) → ssrc ≡ source_in packet → header_fault (body_of packet) ≡ None
    → packet_fault (first_context keys ssrc) (body_of packet) ≡ None
unfolding packet_fault guess_fault index_of
seals_first keys ssrc packet source header =
    rw (header, eq-eqb (ssrc_of (body_of packet)) ssrc (sym source), none_taken SENT (index_at 0 (body_of packet))) refl

-- and is taken in one.
pub takes_first : (keys : Keys) (ssrc : ℕ) (packet : List ℕ) → ssrc ≡ source_in packet → BeginsSession keys packet
    → unprotect_fault (new_context keys ssrc 0) packet ≡ None
unfolding unprotect_fault packet_fault guess_fault index_of
takes_first keys ssrc packet source session =
    rw (session.header, eq-eqb (ssrc_of (body_of packet)) ssrc (sym source), session.tag, none_taken INDICES (index_at 0 (body_of packet))) refl

pub no_refusal : {T E : Type 0} (answer : Result T E) (P : E → Type 0) → IsOk answer → IfErr answer P
no_refusal (Ok len) P ok = tt
no_refusal (Err refusal) P ok = cc

-- an answer of which both sides are told
pub ok_or_err : {T E : Type 0} (answer : Result T E) (A : Type 0) (P : E → Type 0) → OnOk answer A → IfErr answer P → MatchResult answer (λ _. A) P
ok_or_err (Ok len) A P a err = a
ok_or_err (Err refusal) A P a err = err
