-- What was protected is heard as it was.
use Rattle.std.proofs.Common.{◌≡◌, ℕ, ◌^◌, not, nat_lt, Bool, true, false, ◌⊎◌, List, [], ◌∷◌, ◌++◌, Contains, Option, None, refl, sym, ap, subst, ◌∙◌, inl, inr, append_assoc, true≢false}
use Rattle.std.proofs.lemmas.Bool.{eq-eqb, ltb-true}
use Rattle.std.proofs.lemmas.Bool.Decides.{eqb_tells}
use Rattle.std.specs.Prelude.{Decides}
use Rattle.std.proofs.lemmas.Slice.Eq.{bytes_eq-Decides}
use Rattle.lru.proofs.Splits.{Contains-cons, Contains-head, Contains-nil, Contains-tail}
use Rattle.srtp.specs.Derivation.{Keys}
use Rattle.srtp.specs.Fault.{fault_if}
use Rattle.srtp.specs.Header.{header_fault, header_len, ssrc_of}
use Rattle.srtp.specs.Rtcp.{Receiving, Sending, IsRtcpOpened, before_trailer, is_rtcp_tagged, rtcp_fault, rtcp_protected, rtcp_turned, sending_fault, trailer_in}
use Rattle.srtp.specs.Seal.{enciphered}
use Rattle.srtp.specs.Stream.{Context, IsOpened, body_of, guess_fault, index_at, index_in, index_of, is_tagged, packet_fault, protected, tag_in, turned}
use Rattle.srtp.specs.declared.fault.SrtpFault.{SrtpFault}
use Rattle.srtp.specs.declared.fault.SrtpFault.TheVariants.{KeyEnd}
use Rattle.srtp.specs.declared.rtcp.RtcpReceiver.{RtcpReceiver}
use Rattle.srtp.specs.declared.stream.Stream.{Stream}
use Rattle.contexts.specs.Controls.{OpensControl, control_index, new_receiving}
use Rattle.contexts.specs.Heard.{Hears, HearsControl, IsSealed, IsSealedControl, LeavesSealed, LeavesSealedControl, Sealed}
use Rattle.contexts.specs.Inbound.{Opens, new_context}
use Rattle.contexts.specs.declared.inbound.TheConstants.{INDICES, RTCP_INDICES}
use Rattle.contexts.proofs.Opens.{guess_is, guess_of, none_first, none_second, none_taken}

-- ---- what is opened in a context of these keys

pub hears_of : (keys : Keys) (context : Context) (came opened : List ℕ) (after : Stream INDICES) → context.keys ≡ keys → Opens context came opened after
    → Hears keys came opened
hears_of keys context came opened after same opens =
    let body : List ℕ = body_of came in
    let index : ℕ = index_at opens.rollover body in
    record {
      rollover = opens.rollover;
      tag = subst (λ k. is_tagged k index came ≡ true) same opens.tag;
      is = subst (λ k. opened ≡ enciphered k (header_len body) (ssrc_of body) index body ++ tag_in came) same opens.is;
    }

pub hears_control_of : (keys : Keys) (receiving : Receiving) (came opened : List ℕ) (after : RtcpReceiver RTCP_INDICES) → receiving.keys ≡ keys
    → OpensControl receiving came opened after → HearsControl keys came opened
hears_control_of keys receiving came opened after same opens =
    let body : List ℕ = before_trailer (body_of came) in
    record {
      tag = subst (λ k. is_rtcp_tagged k came ≡ true) same opens.tag;
      is = subst (λ k. opened ≡ (rtcp_turned k (control_index came) body ++ trailer_in (body_of came)) ++ tag_in came) same opens.is;
    }

-- ---- and what is protected in one

pub leaves_of : (keys : Keys) (context : Context) (packet datagram : List ℕ) → context.keys ≡ keys → packet_fault context packet ≡ None
    → datagram ≡ protected context (index_in context packet) packet → header_fault packet ≡ None → LeavesSealed keys packet datagram
leaves_of keys context packet datagram same passed is header =
    let rollover : ℕ = guess_of context packet in
    let at : datagram ≡ protected context (index_at rollover packet) packet =
    subst (λ i. datagram ≡ protected context i packet) (guess_is context packet) is in (
      rollover,
      record {
        header = header;
        is = subst (λ k. datagram ≡ protected (new_context k (ssrc_of packet) rollover) (index_at rollover packet) packet) same at;
      },
    )

below_from : (t : Bool) → None ≡ fault_if (not t) KeyEnd → t ≡ true
below_from true e = refl
below_from false e = cc

pub leaves_control_of : (keys : Keys) (sending : Sending) (packet datagram : List ℕ) → sending.keys ≡ keys → sending_fault sending packet ≡ None
    → datagram ≡ rtcp_protected sending.keys sending.next packet → LeavesSealedControl keys packet datagram
leaves_control_of keys sending packet datagram same passed is =
    let source : Option SrtpFault = rtcp_fault sending.ssrc packet in
    let end : Option SrtpFault = fault_if (not (nat_lt sending.next (2 ^ 31))) KeyEnd in (
      sending.next,
      record {
        ssrc = sending.ssrc;
        source = sym (none_first source end (sym passed));
        index = ltb-true sending.next (2 ^ 31) (below_from _ (none_second source end (sym passed)));
        is = subst (λ k. datagram ≡ rtcp_protected k sending.next packet) same is;
      },
    )

-- ---- a packet that was protected comes out of its datagram

index_new : (keys : Keys) (ssrc rollover : ℕ) (octets : List ℕ) → index_in (new_context keys ssrc rollover) octets ≡ index_at rollover octets
unfolding index_of
index_new keys ssrc rollover octets = refl

pub passes_anew : (keys : Keys) (packet : List ℕ) (rollover : ℕ) → header_fault packet ≡ None → packet_fault (new_context keys (ssrc_of packet) rollover) packet ≡ None
unfolding packet_fault guess_fault index_of
passes_anew keys packet rollover header =
    rw (header, eq-eqb (ssrc_of packet) (ssrc_of packet) refl, none_taken INDICES (index_at rollover packet)) refl

pub comes_out : (keys : Keys) (s : Sealed) (came opened : List ℕ) → IsSealed keys s → s.datagram ≡ came → (hears : Hears keys came opened)
    → s.number ≡ hears.rollover
    → (let context = new_context keys (ssrc_of s.packet) s.number in IsOpened context s.packet (protected context (index_in context s.packet) s.packet))
    → opened ≡ s.packet ++ tag_in came
comes_out keys s came opened sealed is hears number opens =
    let context : Context = new_context keys (ssrc_of s.packet) s.number in
    let body : List ℕ = body_of came in
    let at : IsOpened context s.packet (protected context (index_at s.number s.packet) s.packet) =
    subst (λ i. IsOpened context s.packet (protected context i s.packet)) (index_new keys (ssrc_of s.packet) s.number s.packet) opens in
    let of : IsOpened context s.packet came = subst (λ d. IsOpened context s.packet d) (sym sealed.is ∙ is) at in
    let same : turned context (index_at s.number body) body ≡ s.packet =
    subst (λ i. turned context i body ≡ s.packet) (index_new keys (ssrc_of s.packet) s.number body) of.same in
    let heard : turned context (index_at hears.rollover body) body ≡ s.packet = subst (λ r. turned context (index_at r body) body ≡ s.packet) number same in
    hears.is ∙ ap (λ xs. xs ++ tag_in came) heard

pub comes_out_control : (keys : Keys) (s : Sealed) (came opened : List ℕ) → (sealed : IsSealedControl keys s) → s.datagram ≡ came → HearsControl keys came opened
    → IsRtcpOpened (new_receiving keys sealed.ssrc) s.packet (rtcp_protected keys s.number s.packet)
    → opened ≡ s.packet ++ (trailer_in (body_of came) ++ tag_in came)
comes_out_control keys s came opened sealed is hears opens =
    let of : IsRtcpOpened (new_receiving keys sealed.ssrc) s.packet came =
    subst (λ d. IsRtcpOpened (new_receiving keys sealed.ssrc) s.packet d) (sym sealed.is ∙ is) opens in
    (hears.is ∙ ap (λ xs. (xs ++ trailer_in (body_of came)) ++ tag_in came) of.same) ∙ append_assoc s.packet (trailer_in (body_of came)) (tag_in came)

-- ---- it is among those that were protected, or none of these is it

pub find : (P : Sealed → Type 0) → ((s : Sealed) → P s ⊎ (P s → ⊥)) → (made : List Sealed)
    → ((s : Sealed) × Contains made s × P s) ⊎ ((s : Sealed) → Contains made s → P s → ⊥)
find P decide [] = inr (λ s among. absurd (Contains-nil s among))
find P decide (s ∷ made) = elim (decide s) [
  | inl p ↦ inl (s, Contains-head s made, p)
  | inr differs ↦ elim (find P decide made) [
    | inl f ↦ inl (f.0, Contains-tail s made f.0 f.1, f.2)
    | inr none ↦ inr (λ t among p. elim (Contains-cons s made t among) [
      | inl same ↦ differs (subst P (sym same) p)
      | inr behind ↦ none t behind p
    ])
  ]
]

pub same_list : (xs ys : List ℕ) → (xs ≡ ys) ⊎ (xs ≡ ys → ⊥)
same_list xs ys = told _ (bytes_eq-Decides xs ys)
  where
    told : (b : Bool) → Decides b (xs ≡ ys) → (xs ≡ ys) ⊎ (xs ≡ ys → ⊥)
    told true d = inl (d.0 refl)
    told false d = inr (λ same. absurd (true≢false (sym (d.1 same))))

pub same_sealed : (number : ℕ) (came : List ℕ) (s : Sealed) → ((s.number ≡ number) × (s.datagram ≡ came)) ⊎ ((s.number ≡ number) × (s.datagram ≡ came) → ⊥)
same_sealed number came s = elim (eqb_tells s.number number) [
  | inl n ↦ elim (same_list s.datagram came) [
    | inl d ↦ inl (n.1, d)
    | inr differs ↦ inr (λ both. differs both.1)
  ]
  | inr n ↦ inr (λ both. n.1 both.0)
]
