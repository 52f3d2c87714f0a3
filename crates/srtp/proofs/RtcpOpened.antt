-- What is protected as RTCP can be opened again.
use Rattle.std.proofs.Common.{◌≡◌, ℕ, ◌+◌, ◌-◌, ◌*◌, ◌/◌, ◌%◌, ◌^◌, ◌<◌, ◌≤◌, ◌==◌, not, nat_lt, Bool, true, false, List, ◌++◌, length, take, Option, Some, None, refl, sym, ap, ◌∙◌, length-append, arith}
use Rattle.std.specs.Option.{option_map}
use Rattle.std.proofs.lemmas.Bool.{eq-eqb, cond_both, ltb-false}
use Rattle.std.proofs.lemmas.List.{take_at, drop_at}
use Rattle.byteorder.specs.Endian.{big_number, big_bytes}
use Rattle.srtp.specs.Derivation.{Keys}
use Rattle.srtp.specs.Fault.{of_replay, or_else, fault_if}
use Rattle.srtp.specs.Replay.{replay_fault}
use Rattle.srtp.specs.Seal.{enciphered, tag_of}
use Rattle.srtp.specs.Stream.{body_of}
use Rattle.srtp.specs.Rtcp.{Receiving, rtcp_fault, sender_of, flag_of, trailer, before_trailer, trailer_in, index_said, rtcp_turned, rtcp_protected, trailer_fault}
use Rattle.srtp.specs.Rtcp.{IsRtcpOpened}
use Rattle.srtp.specs.declared.fault.SrtpFault.{SrtpFault}
use Rattle.srtp.specs.declared.fault.SrtpFault.TheVariants.{Short, Version, WrongSource, WrongFlag}
use Rattle.srtp.proofs.SameOctets.{same_itself}
use Rattle.srtp.proofs.RtcpChecks.{Parts, by_tag}
use Rattle.srtp.proofs.Opened.{agree, number_from, length-tag, length-enciphered, take-enciphered, enciphered_twice}

number_is : (w : ℕ) → w < 2 ^ 32 → big_number 4 (big_bytes 4 w) ≡ w
number_is w fits = omega arith

flag_fits : (b : Bool) → flag_of b ≤ 1
flag_fits true = omega arith
flag_fits false = omega arith

-- a trailer is read as it was written
trailer_is : (keys : Keys) (index : ℕ) → index < 2 ^ 31 → big_number 4 (trailer keys index) ≡ flag_of keys.encrypts * 2 ^ 31 + index
trailer_is keys index fits = let flag = flag_fits keys.encrypts in number_is (flag_of keys.encrypts * 2 ^ 31 + index) (omega arith)

said : (keys : Keys) (index : ℕ) → index < 2 ^ 31 → index_said (trailer keys index) ≡ index
said keys index fits = ap (λ w. w % 2 ^ 31) (trailer_is keys index fits) ∙ omega arith

flagged : (keys : Keys) (index : ℕ) → index < 2 ^ 31 → big_number 4 (trailer keys index) / 2 ^ 31 ≡ flag_of keys.encrypts
flagged keys index fits = ap (λ w. w / 2 ^ 31) (trailer_is keys index fits) ∙ omega arith

trailer_passes : (keys : Keys) (receiving : Receiving) (index : ℕ) → keys ≡ receiving.keys → index < 2 ^ 31
    → replay_fault receiving.len receiving.taken index ≡ None → None ≡ trailer_fault receiving (trailer keys index)
unfolding trailer_fault
trailer_passes keys receiving index same fits new =
    let right : (big_number 4 (trailer keys index) / 2 ^ 31 == flag_of receiving.keys.encrypts) ≡ true =
    eq-eqb (big_number 4 (trailer keys index) / 2 ^ 31) (flag_of receiving.keys.encrypts) (flagged keys index fits ∙ ap (λ (k : Keys). flag_of k.encrypts) same) in
    let free : replay_fault receiving.len receiving.taken (index_said (trailer keys index)) ≡ None =
    ap (replay_fault receiving.len receiving.taken) (said keys index fits) ∙ new in
    λ i. or_else (fault_if (not (sym right i)) WrongFlag) (option_map of_replay (sym free i))

none_first : (a b : Option SrtpFault) → None ≡ or_else a b → None ≡ a
none_first None b e = refl
none_first (Some x) b e = cc

long_from : (n : ℕ) → None ≡ fault_if (nat_lt n 8) Short → 8 ≤ n
long_from n = cond_both (nat_lt n 8) _ _ (λ (o : Option SrtpFault). None ≡ o → 8 ≤ n) (λ t e. cc) (λ f e. ltb-false n 8 f)

long : (ssrc : ℕ) (octets : List ℕ) → None ≡ rtcp_fault ssrc octets → 8 ≤ length octets
unfolding rtcp_fault
long ssrc octets e = long_from (length octets) (none_first _ _ e)

same_sender : (xs ys : List ℕ) → take 8 xs ≡ take 8 ys → sender_of xs ≡ sender_of ys
same_sender xs ys same = number_from 8 xs ys same 4 4 0 (omega arith)

same_fault : (ssrc : ℕ) (xs ys : List ℕ) → length xs ≡ length ys → take 8 xs ≡ take 8 ys → rtcp_fault ssrc xs ≡ rtcp_fault ssrc ys
unfolding rtcp_fault
same_fault ssrc xs ys count same =
    let first = agree 8 xs ys same 0 (omega arith) in
    let sender = same_sender xs ys same in
    λ i. or_else (fault_if (nat_lt (count i) 8) Short)
    (or_else (fault_if (not (first i / 64 == 2)) Version) (fault_if (not (sender i == ssrc)) WrongSource))

parts_of : (body behind tag : List ℕ) → length behind ≡ 4 → length tag ≡ 10 → Parts (body ++ behind ++ tag) (body ++ behind) body behind tag
parts_of body behind tag four ten =
    let front : List ℕ = body ++ behind in
    let e = length-append front tag in
    let d = length-append body behind in
    let at : length front ≡ length (front ++ tag) - 10 = omega arith in
    let here : length body ≡ length front - 4 = omega arith in
    record {
      front_is = sym (take_at front tag _ at);
      tag_is = sym (drop_at front tag _ at);
      body_is = sym (take_at body behind _ here);
      behind_is = sym (drop_at body behind _ here);
    }

pub opens : (keys : Keys) (receiving : Receiving) (index : ℕ) (packet : List ℕ) → keys ≡ receiving.keys → index < 2 ^ 31
    → rtcp_fault receiving.ssrc packet ≡ None → replay_fault receiving.len receiving.taken index ≡ None
    → IsRtcpOpened receiving packet (rtcp_protected keys index packet)
opens keys receiving index packet same fits passed new =
    let ssrc : ℕ = sender_of packet in
    let eight : 8 ≤ length packet = long receiving.ssrc packet (sym passed) in
    let body : List ℕ = enciphered keys 8 ssrc index packet in
    let behind : List ℕ = trailer keys index in
    let tag : List ℕ = tag_of keys body behind in
    let front : take 8 body ≡ take 8 packet = take-enciphered keys 8 ssrc index packet eight in
    let parts = parts_of body behind tag refl (length-tag keys body behind) in
    let before : before_trailer (body_of (body ++ behind ++ tag)) ≡ body = sym (parts.body_is ∙ ap before_trailer parts.front_is) in
    let after : trailer_in (body_of (body ++ behind ++ tag)) ≡ behind = sym (parts.behind_is ∙ ap trailer_in parts.front_is) in
    record {
      taken = sym (by_tag receiving receiving.ssrc (body ++ behind ++ tag) (body ++ behind) body behind tag tag true parts refl
          (sym passed ∙ sym (same_fault receiving.ssrc body packet (length-enciphered keys 8 ssrc index packet eight) front))
          (trailer_passes keys receiving index same fits new) (ap (λ k. tag_of k body behind) same) (sym (same_itself tag)));
      same = (λ i. rtcp_turned (sym same i) (index_said (after i)) (before i))
          ∙ (λ i. enciphered keys 8 (same_sender body packet front i) (said keys index fits i) body)
          ∙ enciphered_twice keys 8 ssrc index packet eight;
    }
