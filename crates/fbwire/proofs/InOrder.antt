-- The packets of a datagram, and the NACKs among them, taken apart one after another.
use Rattle.std.proofs.Common.{◌≡◌, ◌⊎◌, ℕ, true, false, List, [], ◌∷◌, drop, map, filter, get_or, refl, ap, sym, ◌∙◌, inl, inr}
use Rattle.std.proofs.lemmas.Bool.{cases_Bool, cond-true, cond-false}
use Rattle.std.proofs.lemmas.List.Elements.{All-head, All-tail, All-nil, All-cons}
use Rattle.fbwire.specs.Header.{is_nack}
use Rattle.fbwire.specs.Nack.{Nack, IsNack, NackSpells, nack_octets}
use Rattle.fbwire.specs.Compound.{IsWhole, SpellInOrder}
use Rattle.fbwire.proofs.WholePackets.{IsOther, nack_packet, nack_headed}

-- Of the packets, the NACKs are spelled for these NACKs, in their order, and the others are skipped.
abbrev pub Ordered : List Nack → List (List ℕ) → Type 0
Ordered [] [] = Unit {0}
Ordered (n ∷ nacks) [] = ⊥
Ordered [] (packet ∷ packets) = IsOther packet × Ordered [] packets
Ordered (n ∷ nacks) (packet ∷ packets) =
    (IsOther packet × Ordered (n ∷ nacks) packets) ⊎ (NackSpells n packet × Ordered nacks packets)

after_other : (nacks : List Nack) (p : List ℕ) (packets : List (List ℕ)) → IsOther p → SpellInOrder nacks packets → SpellInOrder nacks (p ∷ packets)
after_other nacks p packets is s =
    record {
      whole = All-cons IsWhole p packets (record { version = is.version; whole = is.whole }) s.whole;
      each = s.each;
      spelled = cond-false (is_nack p) (p ∷ filter is_nack packets) (filter is_nack packets) is.other ∙ s.spelled;
    }

after_nack : (n : Nack) (nacks : List Nack) (p : List ℕ) (packets : List (List ℕ)) → NackSpells n p → SpellInOrder nacks packets → SpellInOrder (n ∷ nacks) (p ∷ packets)
after_nack n nacks p packets is s =
    let packet = nack_packet n p is in
    let first = is.spelled in
    let rest = s.spelled in
    record {
      whole = All-cons IsWhole p packets (record { version = packet.sound.version; whole = packet.whole }) s.whole;
      each = All-cons IsNack n nacks is.nack s.each;
      spelled = cond-true (is_nack p) (p ∷ filter is_nack packets) (filter is_nack packets) (nack_headed n p is) ∙ (λ i. first i ∷ rest i);
    }

pub in_order : (nacks : List Nack) (packets : List (List ℕ)) → Ordered nacks packets → SpellInOrder nacks packets
in_order [] [] o = record { whole = All-nil IsWhole; each = All-nil IsNack; spelled = refl }
in_order (n ∷ nacks) [] o = absurd o
in_order [] (p ∷ packets) (other, rest) = after_other [] p packets other (in_order [] packets rest)
in_order (n ∷ nacks) (p ∷ packets) (inl (other, rest)) = after_other (n ∷ nacks) p packets other (in_order (n ∷ nacks) packets rest)
in_order (n ∷ nacks) (p ∷ packets) (inr (nack, rest)) = after_nack n nacks p packets nack (in_order nacks packets rest)

-- what a packet that is skipped leaves
skipped : (nacks : List Nack) (p : List ℕ) (packets : List (List ℕ)) → SpellInOrder nacks (p ∷ packets) → is_nack p ≡ false → IsOther p × SpellInOrder nacks packets
skipped nacks p packets s other =
    let whole = All-head IsWhole p packets s.whole in (
      record { version = whole.version; other = other; whole = whole.whole },
      record {
        whole = All-tail IsWhole p packets s.whole;
        each = s.each;
        spelled = sym (cond-false (is_nack p) (p ∷ filter is_nack packets) (filter is_nack packets) other) ∙ s.spelled;
      },
    )

-- a NACK at the front stands there too
fronted : (nacks : List Nack) (p : List ℕ) (packets : List (List ℕ)) → SpellInOrder nacks (p ∷ packets) → is_nack p ≡ true → p ∷ filter is_nack packets ≡ map nack_octets nacks
fronted nacks p packets s is = sym (cond-true (is_nack p) (p ∷ filter is_nack packets) (filter is_nack packets) is) ∙ s.spelled

taken : (n : Nack) (nacks : List Nack) (p : List ℕ) (packets : List (List ℕ)) → SpellInOrder (n ∷ nacks) (p ∷ packets) → is_nack p ≡ true → NackSpells n p × SpellInOrder nacks packets
taken n nacks p packets s is =
    let both = fronted (n ∷ nacks) p packets s is in (
      record { nack = All-head IsNack n nacks s.each; spelled = ap (λ (ps : List (List ℕ)). get_or ps 0 []) both },
      record {
        whole = All-tail IsWhole p packets s.whole;
        each = All-tail IsNack n nacks s.each;
        spelled = ap (λ (ps : List (List ℕ)). drop 1 ps) both;
      },
    )

pub ordered : (nacks : List Nack) (packets : List (List ℕ)) → SpellInOrder nacks packets → Ordered nacks packets
ordered [] [] s = tt
ordered (n ∷ nacks) [] s = absurd (let none = s.spelled in cc)
ordered [] (p ∷ packets) s =
    elim (cases_Bool (is_nack p)) [
      | inl is ↦ absurd (let none = fronted [] p packets s is in cc)
      | inr other ↦ let rest = skipped [] p packets s other in (rest.0, ordered [] packets rest.1)
    ]
ordered (n ∷ nacks) (p ∷ packets) s =
    elim (cases_Bool (is_nack p)) [
      | inl is ↦ let rest = taken n nacks p packets s is in inr (rest.0, ordered nacks packets rest.1)
      | inr other ↦ let rest = skipped (n ∷ nacks) p packets s other in inl (rest.0, ordered (n ∷ nacks) packets rest.1)
    ]
