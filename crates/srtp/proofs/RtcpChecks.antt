-- The checks of a packet of RTCP, one after another.
use Rattle.std.proofs.Common.{◌≡◌, ℕ, ◌/◌, ◌%◌, ◌^◌, ◌-◌, ◌==◌, not, Bool, true, false, List, length, take, drop, Option, Some, None, refl, sym, ap, subst, ◌∙◌}
use Rattle.std.specs.Int.{from_bool}
use Rattle.std.specs.Option.{option_map}
use Rattle.std.proofs.lemmas.Bool.{eq-eqb, ne_eqb}
use Rattle.byteorder.specs.Endian.{big_number}
use Rattle.srtp.specs.Fault.{of_replay, or_else, fault_if}
use Rattle.srtp.specs.Replay.{replay_fault, Remembers}
use Rattle.srtp.specs.Seal.{tag_of, same_octets}
use Rattle.srtp.specs.Stream.{body_of, tag_in}
use Rattle.srtp.specs.Rtcp.{Receiving, IsReceiving, rtcp_fault, flag_of, before_trailer, trailer_in, index_said, trailer_fault, receiving_fault}
use Rattle.srtp.specs.declared.rtcp.RtcpReceiver.{RtcpReceiver}
use Rattle.srtp.specs.declared.fault.SrtpFault.{SrtpFault}
use Rattle.srtp.specs.declared.fault.SrtpFault.TheVariants.{WrongFlag, WrongTag}
use Rattle.srtp.specs.declared.replay.ReplayFault.{ReplayFault}

flag_is : (b : Bool) → from_bool b ≡ flag_of b
flag_is true = refl
flag_is false = refl

pub flag_from : (receiving : Receiving) (encrypts : Bool) (flag : ℕ) → encrypts ≡ receiving.keys.encrypts → flag ≡ from_bool encrypts
    → flag ≡ flag_of receiving.keys.encrypts
flag_from receiving encrypts flag e is = is ∙ flag_is encrypts ∙ ap flag_of e

pub by_flag : (receiving : Receiving) (octets : List ℕ) (word flag : ℕ) → word ≡ big_number 4 octets → flag ≡ flag_of receiving.keys.encrypts
    → (word / 2 ^ 31 ≡ flag → ⊥) → Some WrongFlag ≡ trailer_fault receiving octets
unfolding trailer_fault
by_flag receiving octets word flag w f other =
    let wrong : (big_number 4 octets / 2 ^ 31 == flag_of receiving.keys.encrypts) ≡ false =
    ne_eqb (big_number 4 octets / 2 ^ 31) (flag_of receiving.keys.encrypts) (λ e. other (ap (λ n. n / 2 ^ 31) w ∙ e ∙ sym f)) in
    λ i. or_else (fault_if (not (sym wrong i)) WrongFlag) (option_map of_replay (replay_fault receiving.len receiving.taken (index_said octets)))

pub by_list : (len : ℕ) (receiving : Receiving) (octets : List ℕ) (word flag index : ℕ) (answer : Option ReplayFault) → word ≡ big_number 4 octets
    → flag ≡ flag_of receiving.keys.encrypts → word / 2 ^ 31 ≡ flag → index ≡ word % 2 ^ 31 → receiving.len ≡ len
    → answer ≡ replay_fault len receiving.taken index → option_map of_replay answer ≡ trailer_fault receiving octets
unfolding trailer_fault
by_list len receiving octets word flag index answer w f right at same is =
    let flagged : (big_number 4 octets / 2 ^ 31 == flag_of receiving.keys.encrypts) ≡ true =
    eq-eqb (big_number 4 octets / 2 ^ 31) (flag_of receiving.keys.encrypts) (sym (ap (λ n. n / 2 ^ 31) w) ∙ right ∙ f) in
    let said : index ≡ index_said octets = at ∙ ap (λ n. n % 2 ^ 31) w in
    let told : answer ≡ replay_fault receiving.len receiving.taken (index_said octets) =
    is ∙ (λ i. replay_fault (sym same i) receiving.taken (said i)) in
    λ i. or_else (fault_if (not (sym flagged i)) WrongFlag) (option_map of_replay (told i))

pub remembered : (len : ℕ) (receiver : RtcpReceiver len) (receiving : Receiving) → IsReceiving len receiver receiving
    → Remembers len receiver.replay.next receiver.replay.places receiving.taken
remembered len receiver receiving held =
    subst (λ n. Remembers n receiver.replay.next receiver.replay.places receiving.taken) held.len_is held.taken

-- what stands where in a protected packet
pub record Parts (packet front body behind tag : List ℕ) : Type 0 where
  pub front_is : front ≡ body_of packet
  pub tag_is : tag ≡ tag_in packet
  pub body_is : body ≡ before_trailer front
  pub behind_is : behind ≡ trailer_in front

pub by_packet : (receiving : Receiving) (ssrc : ℕ) (packet front body behind tag : List ℕ) (fault : SrtpFault) → Parts packet front body behind tag
    → ssrc ≡ receiving.ssrc → Some fault ≡ rtcp_fault ssrc body → Some fault ≡ receiving_fault receiving packet
unfolding receiving_fault
by_packet receiving ssrc packet front body behind tag fault parts s e =
    let body : body ≡ before_trailer (body_of packet) = parts.body_is ∙ ap before_trailer parts.front_is in
    let first : rtcp_fault receiving.ssrc (before_trailer (body_of packet)) ≡ Some fault = sym (e ∙ (λ i. rtcp_fault (s i) (body i))) in
    rw first refl

pub by_trailer : (receiving : Receiving) (ssrc : ℕ) (packet front body behind tag : List ℕ) (fault : SrtpFault) → Parts packet front body behind tag
    → ssrc ≡ receiving.ssrc → None ≡ rtcp_fault ssrc body → Some fault ≡ trailer_fault receiving behind → Some fault ≡ receiving_fault receiving packet
unfolding receiving_fault
by_trailer receiving ssrc packet front body behind tag fault parts s none e =
    let body : body ≡ before_trailer (body_of packet) = parts.body_is ∙ ap before_trailer parts.front_is in
    let first : rtcp_fault receiving.ssrc (before_trailer (body_of packet)) ≡ None = sym (none ∙ (λ i. rtcp_fault (s i) (body i))) in
    let second : trailer_fault receiving (trailer_in (body_of packet)) ≡ Some fault =
    sym (e ∙ ap (trailer_fault receiving) (parts.behind_is ∙ ap trailer_in parts.front_is)) in
    rw (first, second) refl

pub by_tag : (receiving : Receiving) (ssrc : ℕ) (packet front body behind tag expected : List ℕ) (same : Bool) → Parts packet front body behind tag
    → ssrc ≡ receiving.ssrc → None ≡ rtcp_fault ssrc body → None ≡ trailer_fault receiving behind
    → expected ≡ tag_of receiving.keys body behind → same ≡ same_octets expected tag → fault_if (not same) WrongTag ≡ receiving_fault receiving packet
unfolding receiving_fault
by_tag receiving ssrc packet front body behind tag expected same parts s none fits made is =
    let body : body ≡ before_trailer (body_of packet) = parts.body_is ∙ ap before_trailer parts.front_is in
    let behind : behind ≡ trailer_in (body_of packet) = parts.behind_is ∙ ap trailer_in parts.front_is in
    let first : None ≡ rtcp_fault receiving.ssrc (before_trailer (body_of packet)) = none ∙ (λ i. rtcp_fault (s i) (body i)) in
    let second : None ≡ trailer_fault receiving (trailer_in (body_of packet)) = fits ∙ ap (trailer_fault receiving) behind in
    let right : expected ≡ tag_of receiving.keys (before_trailer (body_of packet)) (trailer_in (body_of packet)) =
    made ∙ (λ i. tag_of receiving.keys (body i) (behind i)) in
    let told : same ≡ same_octets (tag_of receiving.keys (before_trailer (body_of packet)) (trailer_in (body_of packet))) (tag_in packet) =
    is ∙ (λ i. same_octets (right i) (parts.tag_is i)) in
    λ i. or_else (first i) (or_else (second i) (fault_if (not (told i)) WrongTag))

pub parts_are : (packet front tag body behind : List ℕ) (n m : ℕ) → n ≡ length packet - 10 → front ≡ take n packet → tag ≡ drop n packet
    → m ≡ length front - 4 → body ≡ take m front → behind ≡ drop m front → Parts packet front body behind tag
parts_are packet front tag body behind n m e a b f d h = record {
  front_is = a ∙ ap (λ k. take k packet) e;
  tag_is = b ∙ ap (λ k. drop k packet) e;
  body_is = d ∙ ap (λ k. take k front) f;
  behind_is = h ∙ ap (λ k. drop k front) f;
}
