-- The checks of a packet, one after another.
use Rattle.std.proofs.Common.{◌≡◌, ℕ, ◌+◌, ◌*◌, not, Bool, List, Option, Some, None, refl, sym, ap, subst, ◌∙◌}
use Rattle.std.specs.Option.{option_map}
use Rattle.std.proofs.lemmas.Bool.{eq-eqb, ne_eqb}
use Rattle.srtp.specs.Fault.{of_replay, or_else, fault_if}
use Rattle.srtp.specs.Header.{header_fault, sequence_of, ssrc_of}
use Rattle.srtp.specs.Replay.{replay_fault, Remembers}
use Rattle.srtp.specs.Stream.{Context, IsStream, index_of, index_in, index_at, guess_fault, packet_fault, packet_fault_at, body_of, tag_fault, unprotect_fault, unprotect_fault_at}
use Rattle.srtp.specs.declared.stream.Stream.{Stream}
use Rattle.srtp.specs.declared.fault.SrtpFault.{SrtpFault}
use Rattle.srtp.specs.declared.fault.SrtpFault.TheVariants.{WrongSource}
use Rattle.srtp.specs.declared.replay.ReplayFault.{ReplayFault}

pub by_header : (context : Context) (octets : List ℕ) (fault : SrtpFault) → Some fault ≡ header_fault octets → Some fault ≡ packet_fault context octets
unfolding packet_fault
by_header context octets fault e = rw (← e) refl

pub by_source : (context : Context) (octets : List ℕ) → None ≡ header_fault octets → (ssrc_of octets ≡ context.ssrc → ⊥)
    → Some WrongSource ≡ packet_fault context octets
unfolding packet_fault
by_source context octets e other = rw (← e, ne_eqb (ssrc_of octets) context.ssrc other) refl

pub by_guess : (context : Context) (octets : List ℕ) (fault : SrtpFault) → None ≡ header_fault octets → ssrc_of octets ≡ context.ssrc
    → Some fault ≡ guess_fault context.taken (index_in context octets) → Some fault ≡ packet_fault context octets
unfolding packet_fault
by_guess context octets fault e same guess = rw (← e, eq-eqb (ssrc_of octets) context.ssrc same, ← guess) refl

pub by_replay : (context : Context) (octets : List ℕ) (answer : Option ReplayFault) → None ≡ header_fault octets → ssrc_of octets ≡ context.ssrc
    → None ≡ guess_fault context.taken (index_in context octets) → answer ≡ replay_fault context.len context.taken (index_in context octets)
    → option_map of_replay answer ≡ packet_fault context octets
unfolding packet_fault
by_replay context octets answer e same guess replay = rw (← e, eq-eqb (ssrc_of octets) context.ssrc same, ← guess, replay) refl

-- what a stream knows, and an answer of its list, in its context's words
pub remembered : (len : ℕ) (stream : Stream len) (context : Context) → IsStream len stream context
    → Remembers len stream.replay.next stream.replay.places context.taken
remembered len stream context held =
    subst (λ n. Remembers n stream.replay.next stream.replay.places context.taken) held.len_is held.taken

pub answered : (len index : ℕ) (context : Context) (octets : List ℕ) (seq : ℕ) (answer : Option ReplayFault) → context.len ≡ len → seq ≡ sequence_of octets
    → index ≡ index_of context.rollover context.taken seq → answer ≡ replay_fault len context.taken index
    → answer ≡ replay_fault context.len context.taken (index_in context octets)
answered len index context octets seq answer same number is e =
    e ∙ (λ i. replay_fault (sym same i) context.taken ((is ∙ ap (index_of context.rollover context.taken) number) i))

pub by_packet : (context : Context) (packet body : List ℕ) (fault : SrtpFault) → body ≡ body_of packet → Some fault ≡ packet_fault context body
    → Some fault ≡ unprotect_fault context packet
unfolding unprotect_fault
by_packet context packet body fault b e =
    let first : packet_fault context (body_of packet) ≡ Some fault = sym (e ∙ ap (packet_fault context) b) in
    rw first refl

pub by_tag : (context : Context) (packet body : List ℕ) (index : ℕ) (answer : Option SrtpFault) → body ≡ body_of packet → None ≡ packet_fault context body
    → index ≡ index_in context body → answer ≡ tag_fault context index packet → answer ≡ unprotect_fault context packet
unfolding unprotect_fault
by_tag context packet body index answer b none at is =
    let passed : None ≡ packet_fault context (body_of packet) = none ∙ ap (packet_fault context) b in
    let place : index ≡ index_in context (body_of packet) = at ∙ ap (index_in context) b in
    rw (← passed, ← place) is

-- the same where the packet has an index that is said

pub by_header_at : (context : Context) (index : ℕ) (octets : List ℕ) (fault : SrtpFault) → Some fault ≡ header_fault octets
    → Some fault ≡ packet_fault_at context index octets
unfolding packet_fault_at
by_header_at context index octets fault e = rw (← e) refl

pub by_source_at : (context : Context) (index : ℕ) (octets : List ℕ) → None ≡ header_fault octets → (ssrc_of octets ≡ context.ssrc → ⊥)
    → Some WrongSource ≡ packet_fault_at context index octets
unfolding packet_fault_at
by_source_at context index octets e other = rw (← e, ne_eqb (ssrc_of octets) context.ssrc other) refl

pub by_replay_at : (len index : ℕ) (context : Context) (octets : List ℕ) (rollover seq : ℕ) (answer : Option ReplayFault) → context.len ≡ len
    → seq ≡ sequence_of octets → index ≡ 65536 * rollover + seq → None ≡ header_fault octets → ssrc_of octets ≡ context.ssrc
    → answer ≡ replay_fault len context.taken index → option_map of_replay answer ≡ packet_fault_at context (index_at rollover octets) octets
unfolding packet_fault_at
by_replay_at len index context octets rollover seq answer same number is e source replay =
    let told : answer ≡ replay_fault context.len context.taken (index_at rollover octets) =
    replay ∙ (λ i. replay_fault (sym same i) context.taken ((is ∙ ap (λ n. 65536 * rollover + n) number) i)) in
    rw (← e, eq-eqb (ssrc_of octets) context.ssrc source, told) refl

pub by_packet_at : (context : Context) (packet body : List ℕ) (rollover : ℕ) (fault : SrtpFault) → body ≡ body_of packet
    → Some fault ≡ packet_fault_at context (index_at rollover body) body → Some fault ≡ unprotect_fault_at context (index_at rollover (body_of packet)) packet
unfolding unprotect_fault_at
by_packet_at context packet body rollover fault b e =
    let first : Some fault ≡ packet_fault_at context (index_at rollover (body_of packet)) (body_of packet) =
    e ∙ ap (λ o. packet_fault_at context (index_at rollover o) o) b in
    rw (← first) refl

pub by_tag_at : (context : Context) (packet body : List ℕ) (rollover index : ℕ) (answer : Option SrtpFault) → body ≡ body_of packet
    → None ≡ packet_fault_at context (index_at rollover body) body → index ≡ index_at rollover body → answer ≡ tag_fault context index packet
    → answer ≡ unprotect_fault_at context (index_at rollover (body_of packet)) packet
unfolding unprotect_fault_at
by_tag_at context packet body rollover index answer b none at is =
    let passed : None ≡ packet_fault_at context (index_at rollover (body_of packet)) (body_of packet) =
    none ∙ ap (λ o. packet_fault_at context (index_at rollover o) o) b in
    let place : index ≡ index_at rollover (body_of packet) = at ∙ ap (index_at rollover) b in
    rw (← passed, ← place) is
