use Rattle.std.proofs.Common.{◌≡◌, refl, inl, inr}
use Rattle.srtp.specs.Header.{ssrc_of}
use Rattle.contexts.specs.Controls.{new_receiving}
use Rattle.contexts.specs.Heard.{IsSealed, IsSealedControl, Sealed}
use Rattle.contexts.specs.Inbound.{new_context}
use Rattle.contexts.specs.declared.inbound.TheConstants.{RTCP_INDICES}
use Rattle.contexts.proofs.Hearing.{comes_out, comes_out_control, find, passes_anew, same_list, same_sealed}
use Rattle.contexts.proofs.Opens.{none_taken}
use Rattle.contexts.proofs.laws.what_is_heard_was_sealed.Goals as goal

pub returns-clause-heard : goal.returns-clause-heard
returns-clause-heard c = λ keys made came opened each hears.
    elim (find (λ s. (s.number ≡ hears.rollover) × (s.datagram ≡ came)) (same_sealed hears.rollover came) made) [
      | inl found ↦ let s : Sealed = found.0 in let sealed : IsSealed keys s = each s found.1 in let context = new_context keys (ssrc_of s.packet) s.number in inl (record {
        sealed = s;
        among = found.1;
        is = found.2.1;
        same = comes_out keys s came opened sealed found.2.1 hears found.2.0
            (c.packets_are_opened.ensures.opened context context s.packet refl refl (passes_anew keys s.packet s.number sealed.header));
      })
      | inr strange ↦ inr (record { rollover = hears.rollover; tag = hears.tag; strange = λ s among number is. strange s among (number, is) })
    ]

pub returns-clause-heard_control : goal.returns-clause-heard_control
returns-clause-heard_control c = λ keys made came opened each hears.
    elim (find (λ s. s.datagram ≡ came) (λ s. same_list s.datagram came) made) [
      | inl found ↦ let s : Sealed = found.0 in let sealed : IsSealedControl keys s = each s found.1 in inl (record {
        sealed = s;
        among = found.1;
        is = found.2;
        same = comes_out_control keys s came opened sealed found.2 hears
            (c.packets_are_opened.ensures.opened_rtcp keys (new_receiving keys sealed.ssrc) s.number s.packet refl sealed.index sealed.source (none_taken RTCP_INDICES s.number));
      })
      | inr strange ↦ inr (record { tag = hears.tag; strange = strange })
    ]
