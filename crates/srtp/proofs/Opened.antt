-- What is protected can be opened again: its header stands as it was, and what is behind it comes back.
use Rattle.std.proofs.Common.{◌≡◌, ℕ, zero, suc, ◌+◌, ◌-◌, ◌*◌, ◌/◌, ◌%◌, ◌<◌, ◌≤◌, ◌==◌, not, nat_lt, Bool, true, false, if◌then◌else◌, List, ◌++◌, length, take, drop, slice_index, Option, Some, None, refl, sym, ap, ◌∙◌, length-append, length-drop, arith}
use Rattle.std.proofs.lemmas.List.{take_at, drop_at, take-append-drop, length-take-le, get_or-take, get_or-drop}
use Rattle.std.proofs.lemmas.Bool.{cond_both, ltb-false}
use Rattle.sha1.specs.Sha1.{sha1, digest_bytes}
use Rattle.byteorder.specs.Endian.{big_number, big_from}
use Rattle.srtp.specs.Hmac.{hmac_sha1, inner_key, outer_key}
use Rattle.srtp.specs.Counter.{encrypted, counter_base}
use Rattle.srtp.specs.Derivation.{Keys}
use Rattle.srtp.specs.Seal.{enciphered, tag_of, rollover_octets}
use Rattle.srtp.specs.Fault.{or_else, fault_if}
use Rattle.srtp.specs.Header.{is_extended, sources_end, header_len, header_fault, sequence_of, ssrc_of}
use Rattle.srtp.specs.Stream.{Context, index_of, index_in, guess_fault, packet_fault, turned, protected, body_of, tag_in, tag_fault, IsOpened}
use Rattle.srtp.specs.declared.fault.SrtpFault.{SrtpFault}
use Rattle.srtp.specs.declared.fault.SrtpFault.TheVariants.{Short, Version, Header, WrongSource}
use Rattle.srtp.specs.Replay.{replay_fault}
use Rattle.srtp.specs.Fault.{of_replay}
use Rattle.std.specs.Option.{option_map}
use Rattle.srtp.proofs.SameOctets.{same_itself}
use Rattle.srtp.proofs.Checks.{by_tag}
use Rattle.srtp.proofs.Keystream.{encrypted_twice, length-encrypted}

length-sha1 : (m : List ℕ) → length (sha1 m) ≡ 20
unfolding sha1 digest_bytes
length-sha1 m = refl

pub length-tag : (keys : Keys) (octets behind : List ℕ) → length (tag_of keys octets behind) ≡ 10
unfolding tag_of hmac_sha1
length-tag keys octets behind =
    let m : List ℕ = outer_key keys.auth ++ sha1 (inner_key keys.auth ++ (octets ++ behind)) in
    length-take-le 10 (sha1 m) (omega (arith, length-sha1 m))

-- where it is encrypted, and where it is not
pub length-enciphered : (keys : Keys) (clear ssrc index : ℕ) (octets : List ℕ) → clear ≤ length octets
    → length (enciphered keys clear ssrc index octets) ≡ length octets
unfolding enciphered
length-enciphered keys clear ssrc index octets fits = told keys.encrypts
  where
    told : (b : Bool) → length (if b then take clear octets ++ encrypted keys.cipher (counter_base keys.salt ssrc index) (drop clear octets) else octets) ≡ length octets
    told true =
        let front : length (take clear octets) ≡ clear = length-take-le clear octets fits in
        let e = length-append (take clear octets) (encrypted keys.cipher (counter_base keys.salt ssrc index) (drop clear octets)) in
        let d = length-encrypted keys.cipher (counter_base keys.salt ssrc index) (drop clear octets) in
        let f = length-drop clear octets in
        omega arith
    told false = refl

-- what is clear stays
pub take-enciphered : (keys : Keys) (clear ssrc index : ℕ) (octets : List ℕ) → clear ≤ length octets
    → take clear (enciphered keys clear ssrc index octets) ≡ take clear octets
unfolding enciphered
take-enciphered keys clear ssrc index octets fits = told keys.encrypts
  where
    told : (b : Bool) → take clear (if b then take clear octets ++ encrypted keys.cipher (counter_base keys.salt ssrc index) (drop clear octets) else octets) ≡ take clear octets
    told true = take_at (take clear octets) _ clear (length-take-le clear octets fits)
    told false = refl

-- twice the same changes nothing
pub enciphered_twice : (keys : Keys) (clear ssrc index : ℕ) (octets : List ℕ) → clear ≤ length octets
    → enciphered keys clear ssrc index (enciphered keys clear ssrc index octets) ≡ octets
unfolding enciphered
enciphered_twice keys clear ssrc index octets fits = told keys.encrypts
  where
    base : List ℕ
    base = counter_base keys.salt ssrc index

    once : Bool → List ℕ → List ℕ
    once b xs = if b then take clear xs ++ encrypted keys.cipher base (drop clear xs) else xs

    told : (b : Bool) → once b (once b octets) ≡ octets
    told true =
        let front : List ℕ = take clear octets in
        let behind : List ℕ = encrypted keys.cipher base (drop clear octets) in
        let size : length front ≡ clear = length-take-le clear octets fits in
        rw (take_at front behind clear size, drop_at front behind clear size, encrypted_twice keys.cipher base (drop clear octets))
        (take-append-drop clear octets)
    told false = refl

-- ---- the header of octets that begin alike

pub agree : (n : ℕ) (xs ys : List ℕ) → take n xs ≡ take n ys → (i : ℕ) → i < n → slice_index xs i ≡ slice_index ys i
agree n xs ys same i lt = sym (get_or-take n xs i 0 lt) ∙ ap (λ (zs : List ℕ). slice_index zs i) same ∙ get_or-take n ys i 0 lt

pub number_from : (n : ℕ) (xs ys : List ℕ) → take n xs ≡ take n ys → (k w i : ℕ) → k + i + w ≤ n → big_from i w (drop k xs) ≡ big_from i w (drop k ys)
number_from n xs ys same k zero i fits = refl
number_from n xs ys same k (suc w) i fits =
    let here : slice_index (drop k xs) i ≡ slice_index (drop k ys) i =
    get_or-drop k xs i 0 ∙ agree n xs ys same (k + i) (omega arith) ∙ sym (get_or-drop k ys i 0) in
    let rest : big_from (suc i) w (drop k xs) ≡ big_from (suc i) w (drop k ys) = number_from n xs ys same k w (suc i) (omega arith) in
    rw (here, rest) refl

-- a header's length by its first octet
len_with : ℕ → List ℕ → ℕ
unfolding header_len
len_with first octets =
    if first / 16 % 2 == 1
    then (12 + 4 * (first % 16)) + 4 + 4 * big_number 2 (drop ((12 + 4 * (first % 16)) + 2) octets)
    else 12 + 4 * (first % 16)

len_is : (octets : List ℕ) → header_len octets ≡ len_with (slice_index octets 0) octets
unfolding header_len len_with
len_is octets = refl

at_least : (b : Bool) (n w : ℕ) → 12 ≤ n → 12 ≤ (if b then n + 4 + w else n)
at_least true n w le = omega arith
at_least false n w le = le

pub twelve : (octets : List ℕ) → 12 ≤ header_len octets
unfolding header_len
twelve octets =
    at_least (is_extended octets) (sources_end octets) (4 * big_number 2 (drop (sources_end octets + 2) octets)) (omega arith)

same_len_with : (first n : ℕ) (xs ys : List ℕ) → n ≡ len_with first ys → take n xs ≡ take n ys → len_with first xs ≡ len_with first ys
unfolding len_with
same_len_with first n xs ys e same = told (first / 16 % 2 == 1) e
  where
    sources : ℕ
    sources = 12 + 4 * (first % 16)

    told : (b : Bool) → n ≡ (if b then sources + 4 + 4 * big_number 2 (drop (sources + 2) ys) else sources)
        → (if b then sources + 4 + 4 * big_number 2 (drop (sources + 2) xs) else sources)
        ≡ (if b then sources + 4 + 4 * big_number 2 (drop (sources + 2) ys) else sources)
    told true is = ap (λ k. sources + 4 + 4 * k) (number_from n xs ys same (sources + 2) 2 0 (omega arith))
    told false is = refl

pub same_len : (xs ys : List ℕ) → take (header_len ys) xs ≡ take (header_len ys) ys → header_len xs ≡ header_len ys
same_len xs ys same =
    let first : slice_index xs 0 ≡ slice_index ys 0 = agree (header_len ys) xs ys same 0 (omega (arith, twelve ys)) in
    len_is xs ∙ ap (λ k. len_with k xs) first ∙ same_len_with (slice_index ys 0) (header_len ys) xs ys (len_is ys) same ∙ sym (len_is ys)

-- what SRTP reads of octets that begin alike and are as many
pub record SameHeader (xs ys : List ℕ) : Type 0 where
  pub len : header_len xs ≡ header_len ys
  pub fault : header_fault xs ≡ header_fault ys
  pub sequence : sequence_of xs ≡ sequence_of ys
  pub ssrc : ssrc_of xs ≡ ssrc_of ys

pub same_header : (xs ys : List ℕ) → length xs ≡ length ys → take (header_len ys) xs ≡ take (header_len ys) ys → SameHeader xs ys
unfolding header_fault
same_header xs ys count same =
    let len = same_len xs ys same in
    let first : slice_index xs 0 ≡ slice_index ys 0 = agree (header_len ys) xs ys same 0 (omega (arith, twelve ys)) in
    record {
      len = len;
      fault = λ i. or_else (fault_if (nat_lt (count i) 12) Short)
          (or_else (fault_if (not (first i / 64 == 2)) Version) (fault_if (nat_lt (count i) (len i)) Header));
      sequence = number_from (header_len ys) xs ys same 2 2 0 (omega (arith, twelve ys));
      ssrc = number_from (header_len ys) xs ys same 8 4 0 (omega (arith, twelve ys));
    }

same_index : (context : Context) (xs ys : List ℕ) → SameHeader xs ys → index_in context xs ≡ index_in context ys
same_index context xs ys same = ap (index_of context.rollover context.taken) same.sequence

same_fault : (context : Context) (xs ys : List ℕ) → SameHeader xs ys → packet_fault context xs ≡ packet_fault context ys
unfolding packet_fault
same_fault context xs ys same =
    let index = same_index context xs ys same in
    λ i. or_else (same.fault i)
    (or_else (fault_if (not (same.ssrc i == context.ssrc)) WrongSource)
    (or_else (guess_fault context.taken (index i)) (option_map of_replay (replay_fault context.len context.taken (index i)))))

-- ---- a packet that is sent, and comes

none_first : (a b : Option SrtpFault) → None ≡ or_else a b → None ≡ a
none_first None b e = refl
none_first (Some x) b e = cc

none_second : (a b : Option SrtpFault) → None ≡ or_else a b → None ≡ b
none_second None b e = e
none_second (Some x) b e = cc

fits_from : (m n : ℕ) → None ≡ fault_if (nat_lt m n) Header → n ≤ m
fits_from m n = cond_both (nat_lt m n) _ _ (λ (o : Option SrtpFault). None ≡ o → n ≤ m) (λ t e. cc) (λ f e. ltb-false m n f)

pub whole_header : (context : Context) (octets : List ℕ) → None ≡ packet_fault context octets → header_len octets ≤ length octets
unfolding packet_fault header_fault
whole_header context octets e =
    fits_from (length octets) (header_len octets) (none_second _ _ (none_second _ _ (none_first _ _ e)))

cut : (front tag : List ℕ) → length tag ≡ 10 → (front ≡ body_of (front ++ tag)) × (tag ≡ tag_in (front ++ tag))
cut front tag ten =
    let e = length-append front tag in
    let at : length front ≡ length (front ++ tag) - 10 = omega arith in
    (sym (take_at front tag _ at), sym (drop_at front tag _ at))

-- a tag that is that of these keys passes
tagged : (context : Context) (packet body tag : List ℕ) (index : ℕ) → body ≡ body_of packet → tag ≡ tag_in packet
    → tag ≡ tag_of context.keys body (rollover_octets index) → None ≡ tag_fault context index packet
tagged context packet body tag index b t made =
    let right : tag_in packet ≡ tag_of context.keys (body_of packet) (rollover_octets index) =
    sym t ∙ made ∙ ap (λ o. tag_of context.keys o (rollover_octets index)) b in
    rw (right, same_itself (tag_of context.keys (body_of packet) (rollover_octets index))) refl

-- what comes is what was sent, where both find one index for it
pub opens : (sending receiving : Context) (packet : List ℕ) → sending.keys ≡ receiving.keys
    → index_in sending packet ≡ index_in receiving packet → packet_fault receiving packet ≡ None
    → IsOpened receiving packet (protected sending (index_in sending packet) packet)
opens sending receiving packet keys at passed =
    let index : ℕ = index_in sending packet in
    let clear : ℕ = header_len packet in
    let ssrc : ℕ = ssrc_of packet in
    let fits : clear ≤ length packet = whole_header receiving packet (sym passed) in
    let body : List ℕ = enciphered sending.keys clear ssrc index packet in
    let tag : List ℕ = tag_of sending.keys body (rollover_octets index) in
    let parts = cut body tag (length-tag sending.keys body (rollover_octets index)) in
    let head : SameHeader body packet =
    same_header body packet (length-enciphered sending.keys clear ssrc index packet fits) (take-enciphered sending.keys clear ssrc index packet fits) in
    let found : index ≡ index_in receiving body = at ∙ sym (same_index receiving body packet head) in
    record {
      taken = sym (by_tag receiving (body ++ tag) body index None parts.0 (sym passed ∙ sym (same_fault receiving body packet head)) found
          (tagged receiving (body ++ tag) body tag index parts.0 parts.1 (ap (λ k. tag_of k body (rollover_octets index)) keys)));
      same = ap (λ (b : List ℕ). turned receiving (index_in receiving b) b) (sym parts.0)
          ∙ (λ i. enciphered (sym keys i) (head.len i) (head.ssrc i) (sym found i) body)
          ∙ enciphered_twice sending.keys clear ssrc index packet fits;
    }
