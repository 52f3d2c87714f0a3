-- The walk over a compound datagram, packet after packet, and that there is only one.
use Rattle.std.proofs.Common.{◌≡◌, ℕ, zero, suc, ◌<◌, ◌≤◌, Bool, true, false, cond, List, [], ◌∷◌, ◌++◌, length, take, drop, Some, None, refl, ap, subst, sym, ◌∙◌, arith, inl, inr, append-nil, append_assoc, length-append}
use Rattle.std.specs.List.{concat, list_any}
use Rattle.std.specs.Prelude.{nat_lt, ◌||◌, ◌==◌, MatchResult, Result, Ok, Err}
use Rattle.std.proofs.lemmas.Option.{none-some, same_Some}
use Rattle.std.proofs.lemmas.List.{nil_from_length, take_at, drop_at, take-append-drop}
use Rattle.std.proofs.lemmas.List.Folds.{list_any-append}
use Rattle.std.proofs.lemmas.Bool.{both_ways, cases_Bool, cond-true, cond-false, ne_eqb, ltb-true, ltb-false, lt-ltb, or_right}
use Rattle.fbwire.specs.declared.fault.FeedbackFault.{FeedbackFault}
use Rattle.fbwire.specs.declared.fault.FeedbackFault.TheVariants.{Short, NotNack, NotRtpfb}
use Rattle.fbwire.specs.Header.{packet_length, is_nack}
use Rattle.fbwire.specs.Nack.{Nack, NackSpells}
use Rattle.fbwire.specs.NackChecks.{nack_fault}
use Rattle.fbwire.specs.NackReading.{nack_in}
use Rattle.fbwire.specs.Compound.{CompoundSpells}
use Rattle.fbwire.specs.CompoundChecks.{packet_fault, is_feedback, FailsAt, LacksNack, IsRefused}
use Rattle.fbwire.specs.CompoundReading.{nacks_among, nacks_in}
use Rattle.fbwire.specs.CompoundWalk.{CanWalk, CutsPacket}
use Rattle.fbwire.proofs.Octets.{AreOctets, AreOctets-take, AreOctets-rest}
use Rattle.fbwire.proofs.NackSpelling.{one_nack, read_as, spells}
use Rattle.fbwire.proofs.InOrder.{Ordered, in_order, ordered}
use Rattle.fbwire.proofs.WholePackets.{IsOther, SameHead, same_head, same_nack, same_length, IsSound, sound, no_packet_fault, IsPacket, sound_append, packet_part, other_packet, packet_other, nack_packet, nack_headed, nack_passes}

-- each is a packet that passes
abbrev pub ArePackets : List (List ℕ) → Type 0
ArePackets [] = Unit {0}
ArePackets (p ∷ packets) = IsPacket p × ArePackets packets

pub are_packets : (nacks : List Nack) (packets : List (List ℕ)) → Ordered nacks packets → ArePackets packets
are_packets [] [] order = tt
are_packets (n ∷ nacks) [] order = tt
are_packets [] (p ∷ packets) order = (other_packet p order.0, are_packets [] packets order.1)
are_packets (n ∷ nacks) (p ∷ packets) (inl other) = (other_packet p other.0, are_packets (n ∷ nacks) packets other.1)
are_packets (n ∷ nacks) (p ∷ packets) (inr nack) = (nack_packet n p nack.0, are_packets nacks packets nack.1)

-- a packet at the front of octets is the part that their length says
pub front : (p r : List ℕ) → IsPacket p → length p ≡ packet_length (p ++ r)
front p r packet = packet.whole ∙ sym (same_length (p ++ r) p (same_head p r packet.sound.headed))

-- two walks over the same octets, each up to octets that no packet is at the front of, are one
pub same_walk : (ps qs : List (List ℕ)) (r s : List ℕ) → ArePackets ps → ArePackets qs → concat ps ++ r ≡ concat qs ++ s
    → (packet_fault r ≡ None → ⊥) → (packet_fault s ≡ None → ⊥) → (ps ≡ qs) × (r ≡ s)
same_walk [] [] r s p_packets q_packets e r_ends s_ends = (refl, e)
same_walk [] (q ∷ qs) r s p_packets q_packets e r_ends s_ends =
    let front_is : r ≡ q ++ (concat qs ++ s) = e ∙ append_assoc q (concat qs) s in
    absurd (r_ends (ap packet_fault front_is ∙ no_packet_fault _ (sound_append q (concat qs ++ s) q_packets.0)))
same_walk (p ∷ ps) [] r s p_packets q_packets e r_ends s_ends =
    let front_is : s ≡ p ++ (concat ps ++ r) = sym e ∙ append_assoc p (concat ps) r in
    absurd (s_ends (ap packet_fault front_is ∙ no_packet_fault _ (sound_append p (concat ps ++ r) p_packets.0)))
same_walk (p ∷ ps) (q ∷ qs) r s p_packets q_packets e r_ends s_ends =
    let whole : p ++ (concat ps ++ r) ≡ q ++ (concat qs ++ s) = sym (append_assoc p (concat ps) r) ∙ e ∙ append_assoc q (concat qs) s in
    let long : length p ≡ length q = front p (concat ps ++ r) p_packets.0 ∙ ap packet_length whole ∙ sym (front q (concat qs ++ s) q_packets.0) in
    let firsts : p ≡ q = sym (take_at p (concat ps ++ r) (length p) refl) ∙ ap (take (length p)) whole ∙ take_at q (concat qs ++ s) (length p) (sym long) in
    let rests : concat ps ++ r ≡ concat qs ++ s = sym (drop_at p (concat ps ++ r) (length p) refl) ∙ ap (drop (length p)) whole ∙ drop_at q (concat qs ++ s) (length p) (sym long) in
    let later = same_walk ps qs r s p_packets.1 q_packets.1 rests r_ends s_ends in
    let packets = later.0 in
    (λ i. firsts i ∷ packets i, later.1)

-- at the end of the octets no packet is
pub nothing_left : packet_fault [] ≡ None → ⊥
nothing_left e = none-some _ (sym e)

-- the same packets spell the same NACKs
pub same_nacks : (a b : List Nack) (packets : List (List ℕ)) → Ordered a packets → Ordered b packets → a ≡ b
same_nacks [] [] packets first second = refl
same_nacks [] (n ∷ b) [] first second = absurd second
same_nacks (m ∷ a) b [] first second = absurd first
same_nacks [] (n ∷ b) (p ∷ packets) first (inl other) = same_nacks [] (n ∷ b) packets first.1 other.1
same_nacks [] (n ∷ b) (p ∷ packets) first (inr nack) = absurd (both_ways _ first.0.other (nack_headed n p nack.0))
same_nacks (m ∷ a) [] (p ∷ packets) (inl other) second = same_nacks (m ∷ a) [] packets other.1 second.1
same_nacks (m ∷ a) [] (p ∷ packets) (inr nack) second = absurd (both_ways _ second.0.other (nack_headed m p nack.0))
same_nacks (m ∷ a) (n ∷ b) (p ∷ packets) (inl other) (inl other') = same_nacks (m ∷ a) (n ∷ b) packets other.1 other'.1
same_nacks (m ∷ a) (n ∷ b) (p ∷ packets) (inl other) (inr nack) = absurd (both_ways _ other.0.other (nack_headed n p nack.0))
same_nacks (m ∷ a) (n ∷ b) (p ∷ packets) (inr nack) (inl other) = absurd (both_ways _ other.0.other (nack_headed m p nack.0))
same_nacks (m ∷ a) (n ∷ b) (p ∷ packets) (inr nack) (inr nack') =
    let here : m ≡ n = one_nack m n p nack.0 nack'.0 in
    let later : a ≡ b = same_nacks a b packets nack.1 nack'.1 in
    λ i. here i ∷ later i

-- walked to the end
walked_to_end : (octets : List ℕ) (packets : List (List ℕ)) → octets ≡ concat packets → octets ≡ concat packets ++ []
walked_to_end octets packets e = e ∙ sym (append-nil (concat packets))

-- octets spell one list of NACKs at most
pub one_list : (octets : List ℕ) (a b : List Nack) → CompoundSpells a octets → CompoundSpells b octets → a ≡ b
one_list octets a b s t =
    let joined = sym (walked_to_end octets s.packets s.joined) ∙ walked_to_end octets t.packets t.joined in
    let same = (same_walk s.packets t.packets [] [] (are_packets a s.packets (ordered a s.packets s.in_order)) (are_packets b t.packets (ordered b t.packets t.in_order)) joined nothing_left nothing_left).0 in
    same_nacks a b t.packets (subst (Ordered a) same (ordered a s.packets s.in_order)) (ordered b t.packets t.in_order)

-- where there are packets, there are octets
some_octets : (packets : List (List ℕ)) → ArePackets packets → 0 < length packets → 0 < length (concat packets)
some_octets [] are some = absurd (omega arith)
some_octets (p ∷ packets) are some = let headed = are.0.sound.headed in omega (arith, length-append p (concat packets))

some_packets : (nacks : List Nack) (packets : List (List ℕ)) → Ordered nacks packets → 0 < length nacks → 0 < length packets
some_packets [] packets order some = absurd (omega arith)
some_packets (n ∷ nacks) [] order some = absurd order
some_packets (n ∷ nacks) (p ∷ packets) order some = omega arith

fails_ends : (octets : List ℕ) (a : FeedbackFault) → packet_fault octets ≡ Some a → packet_fault octets ≡ None → ⊥
fails_ends octets a fails e = none-some a (sym e ∙ fails)

-- packets to the end of octets, and not none
walk_and_fail : (octets : List ℕ) (packets : List (List ℕ)) (a : FeedbackFault) → octets ≡ concat packets → ArePackets packets → 0 < length packets → FailsAt octets a → ⊥
walk_and_fail octets packets a joined are some f =
    let rests = (same_walk packets f.packets [] f.rest are (are_packets f.nacks f.packets (ordered f.nacks f.packets f.in_order))
    (sym (walked_to_end octets packets joined) ∙ f.walked) nothing_left (fails_ends f.rest a f.fails)).1 in
    let empty : concat packets ≡ [] = sym joined ∙ f.left (sym rests) in
    let long = some_octets packets are some in
    let none = ap length empty in
    omega arith

-- octets that spell NACKs are not refused
pub not_both : (octets : List ℕ) (nacks : List Nack) (a : FeedbackFault) → CompoundSpells nacks octets → IsRefused octets a → ⊥
not_both octets nacks a s (inl f) =
    let order = ordered nacks s.packets s.in_order in
    walk_and_fail octets s.packets a s.joined (are_packets nacks s.packets order) (some_packets nacks s.packets order s.some) f
not_both octets nacks a s (inr l) =
    let joined = sym (walked_to_end octets s.packets s.joined) ∙ walked_to_end octets l.packets l.walked in
    let order = ordered [] l.packets l.others in
    let spelled = ordered nacks s.packets s.in_order in
    let same = (same_walk s.packets l.packets [] [] (are_packets nacks s.packets spelled) (are_packets [] l.packets order) joined nothing_left nothing_left).0 in
    let none : nacks ≡ [] = same_nacks nacks [] l.packets (subst (Ordered nacks) same spelled) order in
    let some = s.some in let length_is = ap length none in
    omega arith

lacks_and_fails : (octets : List ℕ) (a b : FeedbackFault) → LacksNack octets a → FailsAt octets b → ⊥
lacks_and_fails octets a b l f = walk_and_fail octets l.packets b l.walked (are_packets [] l.packets (ordered [] l.packets l.others)) l.some f

-- and what is refused is refused for one fault
pub one_fault : (octets : List ℕ) (a b : FeedbackFault) → IsRefused octets a → IsRefused octets b → a ≡ b
one_fault octets a b (inl f) (inl g) =
    let rests = (same_walk f.packets g.packets f.rest g.rest (are_packets f.nacks f.packets (ordered f.nacks f.packets f.in_order)) (are_packets g.nacks g.packets (ordered g.nacks g.packets g.in_order))
    (sym f.walked ∙ g.walked) (fails_ends f.rest a f.fails) (fails_ends g.rest b g.fails)).1 in
    same_Some a b (sym f.fails ∙ ap packet_fault rests ∙ g.fails)
one_fault octets a b (inl f) (inr l) = absurd (lacks_and_fails octets b a l f)
one_fault octets a b (inr l) (inl f) = absurd (lacks_and_fails octets a b l f)
one_fault octets a b (inr l) (inr k) =
    let joined = sym (walked_to_end octets l.packets l.walked) ∙ walked_to_end octets k.packets k.walked in
    let same = (same_walk l.packets k.packets [] [] (are_packets [] l.packets (ordered [] l.packets l.others))
    (are_packets [] k.packets (ordered [] k.packets k.others)) joined nothing_left nothing_left).0 in
    l.lacks ∙ ap (λ packets. cond (list_any is_feedback packets) NotNack NotRtpfb) same ∙ sym k.lacks

-- ---- reading

-- the parts of octets with a packet at their front
record Parts (octets p rest : List ℕ) : Type 0 where
  sound_is : IsSound octets
  same : SameHead octets p
  first_is : take (packet_length octets) octets ≡ p
  rest_is : drop (packet_length octets) octets ≡ rest

parts : (octets p rest : List ℕ) → octets ≡ p ++ rest → IsPacket p → Parts octets p rest
parts octets p rest e packet = subst (λ t. Parts t p rest) (sym e) (record {
  sound_is = sound_append p rest packet;
  same = same_head p rest packet.sound.headed;
  first_is = take_at p rest (packet_length (p ++ rest)) (front p rest packet);
  rest_is = drop_at p rest (packet_length (p ++ rest)) (front p rest packet);
})

-- a packet that is no NACK is skipped, and a NACK is read
reads_other : (p rest : List ℕ) (fuel : ℕ) → IsPacket p → is_nack p ≡ false → nacks_among (suc fuel) (p ++ rest) ≡ nacks_among fuel rest
reads_other p rest fuel packet other =
    let octets = p ++ rest in
    let cut = parts octets p rest refl packet in
    let headed = cut.sound_is.headed in
    cond-false (length octets == 0) _ _ (ne_eqb _ _ (λ e. omega arith))
    ∙ cond-false (is_nack octets) _ _ (same_nack octets p cut.same ∙ other)
    ∙ ap (nacks_among fuel) cut.rest_is

reads_nack : (p rest : List ℕ) (fuel : ℕ) → IsPacket p → is_nack p ≡ true → nacks_among (suc fuel) (p ++ rest) ≡ nack_in p ∷ nacks_among fuel rest
reads_nack p rest fuel packet nack =
    let octets = p ++ rest in
    let cut = parts octets p rest refl packet in
    let headed = cut.sound_is.headed in
    let first_is = cut.first_is in let rest_is = cut.rest_is in
    cond-false (length octets == 0) _ _ (ne_eqb _ _ (λ e. omega arith))
    ∙ cond-true (is_nack octets) _ _ (same_nack octets p cut.same ∙ nack)
    ∙ (λ i. nack_in (first_is i) ∷ nacks_among fuel (rest_is i))

-- the NACKs that are read are those that were spelled
among_in_order : (nacks : List Nack) (packets : List (List ℕ)) (fuel : ℕ) → Ordered nacks packets → length (concat packets) ≤ fuel → nacks_among fuel (concat packets) ≡ nacks
among_in_order [] [] zero order enough = refl
among_in_order [] [] (suc fuel) order enough = refl
among_in_order (n ∷ nacks) [] fuel order enough = absurd order
among_in_order nacks (p ∷ packets) zero order enough =
    absurd (let headed = (are_packets nacks (p ∷ packets) order).0.sound.headed in omega (arith, length-append p (concat packets)))
among_in_order [] (p ∷ packets) (suc fuel) order enough =
    let packet = other_packet p order.0 in let headed = packet.sound.headed in
    reads_other p (concat packets) fuel packet order.0.other ∙ among_in_order [] packets fuel order.1 (omega (arith, length-append p (concat packets)))
among_in_order (n ∷ nacks) (p ∷ packets) (suc fuel) (inl other) enough =
    let packet = other_packet p other.0 in let headed = packet.sound.headed in
    reads_other p (concat packets) fuel packet other.0.other ∙ among_in_order (n ∷ nacks) packets fuel other.1 (omega (arith, length-append p (concat packets)))
among_in_order (n ∷ nacks) (p ∷ packets) (suc fuel) (inr nack) enough =
    let packet = nack_packet n p nack.0 in let headed = packet.sound.headed in
    let here : nack_in p ≡ n = read_as n p nack.0 in
    let later = among_in_order nacks packets fuel nack.1 (omega (arith, length-append p (concat packets))) in
    reads_nack p (concat packets) fuel packet (nack_headed n p nack.0) ∙ (λ i. here i ∷ later i)

pub nacks_in_order : (octets : List ℕ) (nacks : List Nack) (packets : List (List ℕ)) → octets ≡ concat packets → Ordered nacks packets → nacks_in octets ≡ nacks
unfolding nacks_in
nacks_in_order octets nacks packets joined order = ap nacks_in joined ∙ among_in_order nacks packets (length (concat packets)) order (omega arith)

-- one step of the walk
pub record Step (octets : List ℕ) : Type 0 where
  pub passes : packet_fault octets ≡ None
  pub walk : CanWalk (drop (packet_length octets) octets)
  pub nack : is_nack (take (packet_length octets) octets) ≡ true
      → (nack_fault (take (packet_length octets) octets) ≡ None)
      × (nacks_in octets ≡ nack_in (take (packet_length octets) octets) ∷ nacks_in (drop (packet_length octets) octets))
  pub other : is_nack (take (packet_length octets) octets) ≡ false → nacks_in octets ≡ nacks_in (drop (packet_length octets) octets)

step_other : (octets : List ℕ) (nacks : List Nack) (p : List ℕ) (packets : List (List ℕ)) → octets ≡ p ++ concat packets → IsOther p
    → Ordered nacks packets → Ordered nacks (p ∷ packets) → Step octets
step_other octets nacks p packets joined other order whole =
    let cut = parts octets p (concat packets) joined (other_packet p other) in
    record {
      passes = no_packet_fault octets cut.sound_is;
      walk = record { nacks = nacks; packets = packets; joined = cut.rest_is; in_order = in_order nacks packets order };
      nack = λ is. absurd (both_ways _ other.other (sym (ap is_nack cut.first_is) ∙ is));
      other = λ _. nacks_in_order octets nacks (p ∷ packets) joined whole ∙ sym (nacks_in_order _ nacks packets cut.rest_is order);
    }

step_of : (octets : List ℕ) (nacks : List Nack) (packets : List (List ℕ)) → octets ≡ concat packets → Ordered nacks packets → 0 < length octets → Step octets
step_of octets nacks [] joined order some = absurd (let none = ap length joined in omega arith)
step_of octets [] (p ∷ packets) joined order some = step_other octets [] p packets joined order.0 order.1 order
step_of octets (n ∷ nacks) (p ∷ packets) joined (inl other) some = step_other octets (n ∷ nacks) p packets joined other.0 other.1 (inl other)
step_of octets (n ∷ nacks) (p ∷ packets) joined (inr nack) some =
    let packet = nack_packet n p nack.0 in
    let is_nack_p = nack_headed n p nack.0 in
    let cut = parts octets p (concat packets) joined packet in
    let first_is = cut.first_is in
    let here : n ≡ nack_in (take (packet_length octets) octets) = sym (read_as n p nack.0) ∙ ap nack_in (sym first_is) in
    let later : nacks ≡ nacks_in (drop (packet_length octets) octets) = sym (nacks_in_order _ nacks packets cut.rest_is nack.1) in
    record {
      passes = no_packet_fault octets cut.sound_is;
      walk = record { nacks = nacks; packets = packets; joined = cut.rest_is; in_order = in_order nacks packets nack.1 };
      nack = λ _. (
        ap nack_fault first_is ∙ nack_passes p packet is_nack_p,
        nacks_in_order octets (n ∷ nacks) (p ∷ packets) joined (inr nack) ∙ (λ i. here i ∷ later i),
      );
      other = λ is_not. absurd (both_ways _ is_not (ap is_nack first_is ∙ is_nack_p));
    }

pub step : (octets : List ℕ) → CanWalk octets → 0 < length octets → Step octets
step octets walk some = step_of octets walk.nacks walk.packets walk.joined (ordered walk.nacks walk.packets walk.in_order) some

-- the same for octets that were cut after the first packet
pub record Cut (octets packet rest : List ℕ) : Type 0 where
  pub walk : CanWalk rest
  pub nack : is_nack packet ≡ true → (nack_fault packet ≡ None) × (nacks_in octets ≡ nack_in packet ∷ nacks_in rest)
  pub other : is_nack packet ≡ false → nacks_in octets ≡ nacks_in rest

pub cut_step : (octets packet rest : List ℕ) → CanWalk octets → CutsPacket octets packet rest → Cut octets packet rest
cut_step octets packet rest walk cuts =
    let headed = (sound octets cuts.passes).headed in
    let s = step octets walk (omega arith) in
    subst (λ p. Cut octets p rest) (sym cuts.packet_is)
    (subst (Cut octets (take (packet_length octets) octets)) (sym cuts.rest_is) (record { walk = s.walk; nack = s.nack; other = s.other }))

-- octets that can be walked have no fault at the front
pub no_fault_there : (octets : List ℕ) (a : FeedbackFault) → CanWalk octets → 0 < length octets → packet_fault octets ≡ Some a → ⊥
no_fault_there octets a walk some fails = none-some a (sym (step octets walk some).passes ∙ fails)

pub nothing_read : (octets : List ℕ) → octets ≡ [] → nacks_in octets ≡ []
unfolding nacks_in
nothing_read octets none = ap nacks_in none

-- ---- the walk so far

pub record Walked (octets rest : List ℕ) (has_nack has_feedback : Bool) : Type 0 where
  pub nacks : List Nack
  pub packets : List (List ℕ)
  pub joined : octets ≡ concat packets ++ rest
  pub in_order : Ordered nacks packets
  pub nack_seen : has_nack ≡ nat_lt 0 (length nacks)
  pub feedback_seen : has_feedback ≡ list_any is_feedback packets

pub walked_none : (octets : List ℕ) → Walked octets octets false false
walked_none octets = record { nacks = []; packets = []; joined = refl; in_order = tt; nack_seen = refl; feedback_seen = refl }

push_other : (nacks : List Nack) (packets : List (List ℕ)) (p : List ℕ) → Ordered nacks packets → IsOther p → Ordered nacks (packets ++ p ∷ [])
push_other [] [] p order other = (other, tt)
push_other (n ∷ nacks) [] p order other = absurd order
push_other [] (q ∷ packets) p order other = (order.0, push_other [] packets p order.1 other)
push_other (n ∷ nacks) (q ∷ packets) p (inl first) other = inl (first.0, push_other (n ∷ nacks) packets p first.1 other)
push_other (n ∷ nacks) (q ∷ packets) p (inr first) other = inr (first.0, push_other nacks packets p first.1 other)

push_nack : (nacks : List Nack) (packets : List (List ℕ)) (m : Nack) (p : List ℕ) → Ordered nacks packets → NackSpells m p → Ordered (nacks ++ m ∷ []) (packets ++ p ∷ [])
push_nack [] [] m p order spelled = inr (spelled, tt)
push_nack (n ∷ nacks) [] m p order spelled = absurd order
push_nack [] (q ∷ packets) m p order spelled = inl (order.0, push_nack [] packets m p order.1 spelled)
push_nack (n ∷ nacks) (q ∷ packets) m p (inl first) spelled = inl (first.0, push_nack (n ∷ nacks) packets m p first.1 spelled)
push_nack (n ∷ nacks) (q ∷ packets) m p (inr first) spelled = inr (first.0, push_nack nacks packets m p first.1 spelled)

concat-push : (packets : List (List ℕ)) (p : List ℕ) → concat (packets ++ p ∷ []) ≡ concat packets ++ p
concat-push [] p = append-nil p
concat-push (q ∷ packets) p = ap (λ t. q ++ t) (concat-push packets p) ∙ sym (append_assoc q (concat packets) p)

-- one packet more
pub walked_one : (octets rest : List ℕ) (has_nack has_feedback : Bool) → AreOctets rest → Walked octets rest has_nack has_feedback → packet_fault rest ≡ None
    → Walked octets (drop (packet_length rest) rest) (has_nack || is_nack (take (packet_length rest) rest)) (has_feedback || is_feedback (take (packet_length rest) rest))
walked_one octets rest has_nack has_feedback fits w passes =
    let p = take (packet_length rest) rest in
    let after = drop (packet_length rest) rest in
    let packet = packet_part rest (sound rest passes) in
    let cut_is : p ++ after ≡ rest = take-append-drop (packet_length rest) rest in
    let joined : octets ≡ concat (w.packets ++ p ∷ []) ++ after =
    w.joined ∙ ap (λ t. concat w.packets ++ t) (sym cut_is) ∙ sym (append_assoc (concat w.packets) p after) ∙ ap (λ t. t ++ after) (sym (concat-push w.packets p)) in
    let feedback_seen : (has_feedback || is_feedback p) ≡ list_any is_feedback (w.packets ++ p ∷ []) =
    ap (λ b. b || is_feedback p) w.feedback_seen ∙ ap (λ b. list_any is_feedback w.packets || b) (sym (any_one p))
    ∙ sym (list_any-append is_feedback w.packets (p ∷ [])) in
    elim (cases_Bool (is_nack p)) [
      | inl nack ↦
          let spelled = spells p (AreOctets-take (packet_length rest) rest fits) (nack_passes p packet nack) in
          record {
            nacks = w.nacks ++ nack_in p ∷ [];
            packets = w.packets ++ p ∷ [];
            joined = joined;
            in_order = push_nack w.nacks w.packets (nack_in p) p w.in_order spelled;
            nack_seen = or_right has_nack (is_nack p) nack ∙ sym (lt-ltb _ _ (omega (arith, length-append w.nacks (nack_in p ∷ []))));
            feedback_seen = feedback_seen;
          }
      | inr other ↦
          record {
            nacks = w.nacks;
            packets = w.packets ++ p ∷ [];
            joined = joined;
            in_order = push_other w.nacks w.packets p w.in_order (packet_other p packet other);
            nack_seen = ap (λ b. has_nack || b) other ∙ or_false has_nack ∙ w.nack_seen;
            feedback_seen = feedback_seen;
          }
    ]
  where
    or_false : (b : Bool) → (b || false) ≡ b
    or_false true = refl
    or_false false = refl

    any_one : (q : List ℕ) → list_any is_feedback (q ∷ []) ≡ is_feedback q
    any_one q = elim (cases_Bool (is_feedback q)) [ inl is ↦ rw is refl | inr is ↦ rw is refl ]

pub walked_more : (octets rest packet others : List ℕ) (has_nack has_feedback : Bool) → AreOctets octets → Walked octets rest has_nack has_feedback
    → CutsPacket rest packet others → Walked octets others (has_nack || is_nack packet) (has_feedback || is_feedback packet)
walked_more octets rest packet others has_nack has_feedback fits w cuts =
    subst (λ p. Walked octets others (has_nack || is_nack p) (has_feedback || is_feedback p)) (sym cuts.packet_is)
    (subst (λ t. Walked octets t (has_nack || is_nack (take (packet_length rest) rest)) (has_feedback || is_feedback (take (packet_length rest) rest))) (sym cuts.rest_is)
    (walked_one octets rest has_nack has_feedback (AreOctets-rest (concat w.packets) rest (subst AreOctets w.joined fits)) w cuts.passes))

-- the walk at the end of the octets
walked_all : (octets rest : List ℕ) (has_nack has_feedback : Bool) → Walked octets rest has_nack has_feedback → rest ≡ [] → Walked octets [] has_nack has_feedback
walked_all octets rest has_nack has_feedback w none = subst (λ r. Walked octets r has_nack has_feedback) none w

-- with a NACK
pub walk_found : (octets rest : List ℕ) (has_nack has_feedback : Bool) → Walked octets rest has_nack has_feedback → rest ≡ [] → has_nack ≡ true
    → CompoundSpells (nacks_in octets) octets
walk_found octets rest has_nack has_feedback walked none is =
    let w = walked_all octets rest has_nack has_feedback walked none in
    let joined : octets ≡ concat w.packets = w.joined ∙ append-nil (concat w.packets) in
    let read = nacks_in_order octets w.nacks w.packets joined w.in_order in
    let some : 0 < length w.nacks = ltb-true _ _ (sym w.nack_seen ∙ is) in
    subst (λ nacks. CompoundSpells nacks octets) (sym read) (record { packets = w.packets; joined = joined; in_order = in_order w.nacks w.packets w.in_order; some = some })

-- without one
pub walk_lacks : (octets rest : List ℕ) (has_nack has_feedback : Bool) → Walked octets rest has_nack has_feedback → rest ≡ [] → 0 < length octets → has_nack ≡ false
    → IsRefused octets (cond has_feedback NotNack NotRtpfb)
walk_lacks octets rest has_nack has_feedback walked none some is =
    let w = walked_all octets rest has_nack has_feedback walked none in
    let joined : octets ≡ concat w.packets = w.joined ∙ append-nil (concat w.packets) in
    let no_nacks : length w.nacks ≤ 0 = ltb-false _ _ (sym w.nack_seen ∙ is) in
    inr (record {
      packets = w.packets;
      walked = joined;
      some = octets_some w.packets (subst (λ t. 0 < length t) joined some);
      others = in_order [] w.packets (subst (λ nacks. Ordered nacks w.packets) (nil_from_length w.nacks (omega arith)) w.in_order);
      lacks = ap (λ b. cond b NotNack NotRtpfb) w.feedback_seen;
    })
  where
    octets_some : (packets : List (List ℕ)) → 0 < length (concat packets) → 0 < length packets
    octets_some [] more = absurd (omega arith)
    octets_some (p ∷ packets) more = omega arith

-- stopped by a fault
pub walk_fails : (octets rest : List ℕ) (has_nack has_feedback : Bool) (a : FeedbackFault) → Walked octets rest has_nack has_feedback → 0 < length rest
    → packet_fault rest ≡ Some a → IsRefused octets a
walk_fails octets rest has_nack has_feedback a w some fails =
    inl (record {
      nacks = w.nacks;
      packets = w.packets;
      rest = rest;
      walked = w.joined;
      in_order = in_order w.nacks w.packets w.in_order;
      left = λ none. absurd (let long = ap length none in omega arith);
      fails = fails;
    })

-- no octets
pub empty_fails : (octets : List ℕ) → length octets ≡ 0 → IsRefused octets Short
empty_fails octets none =
    let is : octets ≡ [] = nil_from_length octets none in
    inl (record { nacks = []; packets = []; rest = octets; walked = refl; in_order = in_order [] [] tt; left = λ _. is; fails = ap packet_fault is })

-- what is spelled is read, by what the walk answers
pub only_by_walk : (octets : List ℕ) (answer : Result (List Nack) FeedbackFault)
    → MatchResult answer (λ nacks. CompoundSpells nacks octets) (IsRefused octets)
    → (nacks : List Nack) → CompoundSpells nacks octets → answer ≡ Ok nacks
only_by_walk octets (Ok read) h nacks s = ap (λ (v : List Nack). Ok v) (one_list octets read nacks h s)
only_by_walk octets (Err fault) h nacks s = absurd (not_both octets nacks fault s h)

-- the octets of one NACK are a datagram with this NACK
pub alone : (n : Nack) (octets : List ℕ) → NackSpells n octets → CompoundSpells (n ∷ []) octets
alone n octets s =
    record {
      packets = octets ∷ [];
      joined = sym (append-nil octets);
      in_order = in_order (n ∷ []) (octets ∷ []) (inr (s, tt));
      some = omega arith;
    }
