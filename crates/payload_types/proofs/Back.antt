-- There and back.
use Rattle.std.proofs.Common.{◌≡◌, ℕ, ◌-◌, ◌≤◌, ◌==◌, Bool, true, false, List, [], ◌∷◌, ◌++◌, length, take, Option, Some, None, if◌then◌else◌, refl, sym, ◌∙◌, subst, ap, arith, length-append}
use Rattle.std.specs.Prelude.{nat_le, slice_index}
use Rattle.std.proofs.Math.Seq.{get_or-append_seam, take-append_seam}
use Rattle.std.proofs.lemmas.Bool.{eq-eqb}
use Rattle.rtpwire.specs.Rtp.{RtpPacket}
use Rattle.payload_types.specs.Folding.{before, in_session, kept_by, kept_in, keeping, of_media, of_repair, on_network, under}
use Rattle.payload_types.specs.Types.{AreTypes, are_apart, pair_of_media, pair_of_repair}
use Rattle.payload_types.specs.declared.types.TypePair.{TypePair}
use Rattle.payload_types.proofs.Pairs.{apart_parts, found_media, found_repair, pair_is_one}

one_more : (payload : List ℕ) (t : ℕ) → length (payload ++ t ∷ []) - 1 ≡ length payload
one_more payload t = grind (arith, length-append)

kept_last : (payload : List ℕ) (t : ℕ) → kept_in (payload ++ t ∷ []) ≡ t
kept_last payload t = ap (slice_index (payload ++ t ∷ [])) (one_more payload t) ∙ get_or-append_seam payload t [] 0

before_last : (payload : List ℕ) (t : ℕ) → before (payload ++ t ∷ []) ≡ payload
before_last payload t = ap (λ n. take n (payload ++ t ∷ [])) (one_more payload t) ∙ take-append_seam payload (t ∷ [])

first_way : (a b : Bool) (x y goal : Option RtpPacket) → a ≡ true → b ≡ true → x ≡ goal → (if a then (if b then x else None) else y) ≡ goal
first_way true true x y goal h i e = e
first_way true false x y goal h i e = cc
first_way false b x y goal h i e = cc

second_way : (a b c : Bool) (x y goal : Option RtpPacket) → a ≡ false → b ≡ true → c ≡ true → y ≡ goal
    → (if a then x else (if b then (if c then y else None) else None)) ≡ goal
second_way false true true x y goal h i j e = e
second_way true b c x y goal h i j e = cc
second_way false false c x y goal h i j e = cc
second_way false true false x y goal h i j e = cc

of_media_at : (pairs : List TypePair) (t : ℕ) (pair : TypePair) (q : RtpPacket) → pair_of_media pairs t ≡ Some pair
    → of_media (pair_of_media pairs t) q ≡ Some (under pair.media (before q.payload) q)
of_media_at pairs t pair q e = ap (λ o. of_media o q) e

of_repair_at : (pairs : List TypePair) (t : ℕ) (pair : TypePair) (q : RtpPacket) → pair_of_media pairs t ≡ Some pair
    → of_repair (pair_of_media pairs t) q ≡ Some (under pair.repair (before q.payload) q)
of_repair_at pairs t pair q e = ap (λ o. of_repair o q) e

has_some : (payload : List ℕ) (t : ℕ) → nat_le 1 (length (payload ++ t ∷ [])) ≡ true
has_some payload t = grind (arith, length-append)

has_three : (payload : List ℕ) (t : ℕ) → 2 ≤ length payload → nat_le 3 (length (payload ++ t ∷ [])) ≡ true
has_three payload t h = grind (arith, length-append)

as_it_was : (p : RtpPacket) (payload_type : ℕ) (payload : List ℕ) → payload_type ≡ p.payload_type → payload ≡ p.payload
    → Some (under payload_type payload p) ≡ Some (record p { padding = 0 })
as_it_was p payload_type payload e i = cc

back_of_media : (first : TypePair) (more : List TypePair) (p : RtpPacket) (pair : TypePair) → pair_of_media (first ∷ more) p.payload_type ≡ Some pair
    → on_network (first ∷ more) (keeping first.media pair.media p) ≡ Some (record p { padding = 0 })
back_of_media first more p pair e =
    let is = found_media (first ∷ more) p.payload_type pair e in
    let q = keeping first.media pair.media p in
    first_way (first.media == first.media) (nat_le 1 (length q.payload)) (of_media (pair_of_media (first ∷ more) (kept_in q.payload)) q) _ _
    (eq-eqb first.media first.media refl) (has_some p.payload pair.media)
    (of_media_at (first ∷ more) (kept_in q.payload) pair q (ap (pair_of_media (first ∷ more)) (kept_last p.payload pair.media ∙ is) ∙ e)
    ∙ as_it_was p pair.media (before q.payload) is (before_last p.payload pair.media))

back_of_repair : (first : TypePair) (more : List TypePair) (p : RtpPacket) (pair : TypePair) → are_apart (first ∷ more) ≡ true
    → pair_of_repair (first ∷ more) p.payload_type ≡ Some pair → 2 ≤ length p.payload
    → on_network (first ∷ more) (keeping first.repair pair.media p) ≡ Some (record p { padding = 0 })
back_of_repair first more p pair apart e long =
    let is = found_repair (first ∷ more) p.payload_type pair e in
    let q = keeping first.repair pair.media p in
    second_way (first.repair == first.media) (first.repair == first.repair) (nat_le 3 (length q.payload)) _
    (of_repair (pair_of_media (first ∷ more) (kept_in q.payload)) q) _
    (turned first.media first.repair (apart_parts first more apart).0) (eq-eqb first.repair first.repair refl) (has_three p.payload pair.media long)
    (of_repair_at (first ∷ more) (kept_in q.payload) pair q
    (ap (pair_of_media (first ∷ more)) (kept_last p.payload pair.media) ∙ pair_is_one (first ∷ more) p.payload_type pair apart e)
    ∙ as_it_was p pair.repair (before q.payload) is (before_last p.payload pair.media))
  where
    turned : (a b : ℕ) → (a == b) ≡ false → (b == a) ≡ false
    turned a b h = grind arith

two_of : (n : ℕ) → nat_le 2 n ≡ true → 2 ≤ n
two_of n h = grind arith

packet_in : (other : RtpPacket) → Option RtpPacket → RtpPacket
packet_in other None = other
packet_in other (Some p) = p

by_pairs : (first : TypePair) (more : List TypePair) (media repair : Option TypePair) (p q : RtpPacket) → are_apart (first ∷ more) ≡ true
    → pair_of_media (first ∷ more) p.payload_type ≡ media → pair_of_repair (first ∷ more) p.payload_type ≡ repair → kept_by first media repair p ≡ Some q
    → on_network (first ∷ more) q ≡ Some (record p { padding = 0 })
unfolding packet_in
by_pairs first more (Some pair) repair p q apart m r e =
    subst (λ s. on_network (first ∷ more) s ≡ Some (record p { padding = 0 })) (ap (packet_in p) e) (back_of_media first more p pair m)
by_pairs first more None (Some pair) p q apart m r e = by_length (nat_le 2 (length p.payload)) refl e
  where
    by_length : (b : Bool) → nat_le 2 (length p.payload) ≡ b → (if b then Some (keeping first.repair pair.media p) else None) ≡ Some q
        → on_network (first ∷ more) q ≡ Some (record p { padding = 0 })
    by_length true long e =
        subst (λ s. on_network (first ∷ more) s ≡ Some (record p { padding = 0 })) (ap (packet_in p) e)
        (back_of_repair first more p pair apart r (two_of (length p.payload) long))
    by_length false long e = cc
by_pairs first more None None p q apart m r e = cc

pub there_and_back : (pairs : List TypePair) (p q : RtpPacket) → AreTypes pairs → in_session pairs p ≡ Some q
    → on_network pairs q ≡ Some (record p { padding = 0 })
there_and_back [] p q types e = cc
there_and_back (first ∷ more) p q types e =
    by_pairs first more (pair_of_media (first ∷ more) p.payload_type) (pair_of_repair (first ∷ more) p.payload_type) p q types.apart refl refl e

pub are_one : (pairs : List TypePair) (p r q : RtpPacket) → AreTypes pairs → in_session pairs p ≡ Some q → in_session pairs r ≡ Some q
    → record p { padding = 0 } ≡ record r { padding = 0 }
unfolding packet_in
are_one pairs p r q types e i = ap (packet_in p) (sym (there_and_back pairs p q types e) ∙ there_and_back pairs r q types i)
