-- What stands before the room for a tag, where a packet was copied to the front of both.
use Rattle.std.proofs.Common.{Bool, ◌≡◌, ℕ, ◌+◌, ◌-◌, List, ◌++◌, length, take, drop, ap, sym, refl, subst, arith, ◌∙◌}
use Rattle.std.proofs.lemmas.List.{length-append, length-drop, length-take-le, take-take, take_at}
use Rattle.srtp.specs.Rtcp.{before_trailer}
use Rattle.srtp.specs.Stream.{body_of}
use Rattle.srtp.specs.declared.keys.Profile.{Profile}
use Rattle.gozdrit_relay.specs.Guard.{LeavesAs}

copied_len : (packet room : List ℕ) (growth : ℕ) → length room ≡ length packet + growth
    → length (packet ++ drop (length packet) room) ≡ length packet + growth
copied_len packet room growth len =
    length-append packet (drop (length packet) room) ∙ ap (λ n. length packet + n) (length-drop (length packet) room)
    ∙ omega (arith, len)

body_is : (packet room : List ℕ) → length room ≡ length packet + 10 → body_of (packet ++ drop (length packet) room) ≡ packet
body_is packet room len =
    take_at packet (drop (length packet) room) _ (omega (arith, copied_len packet room 10 len))

pub body_of_copy : (copied packet room : List ℕ) → copied ≡ packet → length room ≡ length packet + 10
    → body_of (copied ++ drop (length packet) room) ≡ packet
body_of_copy copied packet room same len =
    subst (λ p. body_of (p ++ drop (length packet) room) ≡ packet) (sym same) (body_is packet room len)

control_is : (packet room : List ℕ) → length room ≡ length packet + 14 → before_trailer (body_of (packet ++ drop (length packet) room)) ≡ packet
control_is packet room len =
    let all : List ℕ = packet ++ drop (length packet) room in
    let total : length all ≡ length packet + 14 = copied_len packet room 14 len in
    let body : length (body_of all) ≡ length packet + 4 = length-take-le (length all - 10) all (omega arith) ∙ omega (arith, total) in
    let cut : length (body_of all) - 4 ≡ length packet = omega (arith, body) in
    subst (λ n. take n (body_of all) ≡ packet) (sym cut)
    (take-take (length packet) (length all - 10) all (omega (arith, total)) ∙ take_at packet (drop (length packet) room) (length packet) refl)

pub control_of_copy : (copied packet room : List ℕ) → copied ≡ packet → length room ≡ length packet + 14
    → before_trailer (body_of (copied ++ drop (length packet) room)) ≡ packet
control_of_copy copied packet room same len =
    subst (λ p. before_trailer (body_of (p ++ drop (length packet) room)) ≡ packet) (sym same) (control_is packet room len)

-- what was made in front of a rest, of a datagram of this kind
pub leaves_as : (control kind : Bool) (profile : Profile) (key salt packet sealed rest : List ℕ) (len : ℕ) → kind ≡ control → length sealed ≡ len
    → LeavesAs control profile key salt packet sealed → LeavesAs kind profile key salt packet (take len (sealed ++ rest))
leaves_as control kind profile key salt packet sealed rest len is fits leaves =
    subst (λ k. LeavesAs k profile key salt packet (take len (sealed ++ rest))) (sym is)
    (subst (λ d. LeavesAs control profile key salt packet d) (sym (take_at sealed rest len fits)) leaves)
