-- A log, the labels of its wire and the lengths of the datagrams determine each octet of a faithful wire.
use Rattle.std.proofs.Common.{◌≡◌, ℕ, ◌+◌, ◌-◌, ◌%◌, ◌==◌, Bool, true, false, List, [], ◌∷◌, ◌++◌, length, map, replicate, Some, refl, sym, ap, subst, ◌∙◌, arith, length-append}
use Rattle.std.specs.Prelude.{count_by, if◌then◌else◌}
use Rattle.std.proofs.lemmas.List.{map-append, length-replicate}
use Rattle.std.proofs.lemmas.Bool.{eqb-true, eqb-false}
use Rattle.std.proofs.lemmas.List.Sums.{sum_by-append}
use Rattle.arrayvec.specs.ArrayVec.{ArrayVec}
use Rattle.places.specs.Place.{number}
use Rattle.rtpwire.specs.declared.content.Content.{Content}
use Rattle.rtpwire.specs.Rtp.{unpadded, written, written_padding}
use Rattle.rtpwire.specs.Retransmission.{repair_packet, repair_of, RepairSpells}
use Rattle.fbwire.specs.declared.nack.Pair.{Pair}
use Rattle.fbwire.specs.Nack.{Nack, NackSpells}
use Rattle.sender.specs.Sending.{media_packet}
use Rattle.world.specs.declared.event.Label.{Label}
use Rattle.world.specs.declared.event.Label.TheVariants.{Media, Repair, Feedback}
use Rattle.world.specs.declared.event.Entry.{Entry}
use Rattle.world.specs.declared.event.Entry.TheVariants.{Sent, SendRefused, Repaired, NoRepair, Asked, NoAsk, Nothing, Delivered, Injected, Played}
use Rattle.world.specs.Config.{Config}
use Rattle.world.specs.Answers.{Item, nack_of}
use Rattle.world.specs.Reading.{repairs_in, repairs_of}
use Rattle.world.specs.JustifiedAsks.{pairs_under}
use Rattle.world.specs.PlaceRun.{label_of}
use Rattle.world.specs.Wire.{IsSentAs, IsRepairedAs, IsFaithful, size_of, is_repair_of}
use Rattle.world.proofs.Played.{one_content}

-- lists that end with one item are one where they are one with it
abbrev first_or : {A : Type 0} → A → List A → A
first_or x [] = x
first_or x (y ∷ ys) = y

abbrev rest_of : {A : Type 0} → List A → List A
rest_of [] = []
rest_of (x ∷ xs) = xs

one_last : {A : Type 0} (xs ys : List A) (a b : A) → xs ++ a ∷ [] ≡ ys ++ b ∷ [] → (xs ≡ ys) × (a ≡ b)
one_last [] [] a b e = (refl, ap (first_or a) e)
one_last [] (y ∷ ys) a b e = absurd (let n = ap length e in let m = length-append ys (b ∷ []) in omega (arith, n, m))
one_last (x ∷ xs) [] a b e = absurd (let n = ap length e in let m = length-append xs (a ∷ []) in omega (arith, n, m))
one_last (x ∷ xs) (y ∷ ys) a b e =
    let rest = one_last xs ys a b (ap rest_of e) in
    let first : x ≡ y = ap (first_or x) e in
    (λ i. first i ∷ rest.0 i, rest.1)

-- a field of the items of a wire with one more
mapped : {A : Type 0} (f : Item → A) (one other rest rest' : List Item) (a b : Item) → one ≡ rest ++ a ∷ [] → other ≡ rest' ++ b ∷ [] → map f one ≡ map f other → (map f rest ≡ map f rest') × (f a ≡ f b)
mapped f one other rest rest' a b is is' same =
    one_last (map f rest) (map f rest') (f a) (f b) (sym (map-append f rest (a ∷ [])) ∙ ap (map f) (sym is) ∙ same ∙ ap (map f) is' ∙ map-append f rest' (b ∷ []))

same_item : (one other rest rest' : List Item) (label : Label) (d e : ArrayVec ℕ) → one ≡ rest ++ (label, d) ∷ [] → other ≡ rest' ++ (label, e) ∷ [] → rest ≡ rest' → d.items ≡ e.items → one ≡ other
same_item one other rest rest' label d e is is' before octets =
    let now : rest ++ (label, d) ∷ [] ≡ rest' ++ (label, e) ∷ [] = λ i. before i ++ (label, record { items = octets i }) ∷ [] in
    is ∙ now ∙ sym is'

padding_length : (count : ℕ) → length (written_padding count) ≡ count
padding_length count = by (count == 0) (λ e. eqb-true count 0 e) (λ e is. eqb-false count 0 e is)
  where
    by : (b : Bool) → (b ≡ true → count ≡ 0) → (b ≡ false → count ≡ 0 → ⊥) → length (if b then [] else replicate (count - 1) 0 ++ count ∷ []) ≡ count
    by true none some = sym (none refl)
    by false none some =
        let n = length-append (replicate (count - 1) 0) (count ∷ []) in
        let m = length-replicate {A = ℕ} (count - 1) 0 in
        let positive = some refl in
        omega (arith, n, m, positive)

-- the length of a media packet tells its padding
one_padding : (c : Config) (content : Content) (place m n : ℕ) → length (written (media_packet c.receiver.session content m place)) ≡ length (written (media_packet c.receiver.session content n place)) → m ≡ n
one_padding c content place m n same =
    let p = media_packet c.receiver.session content m place in
    let q = media_packet c.receiver.session content n place in
    let a = length-append (unpadded p) (written_padding m) in
    let b = length-append (unpadded q) (written_padding n) in
    let d = padding_length m in
    let e = padding_length n in
    let l : length (unpadded p) ≡ length (unpadded q) = refl in
    omega (arith, same, a, b, d, e, l)

one_sent : (c : Config) (before : List Entry) (place : ℕ) (content : Content) (a b : List ℕ) → IsSentAs c before place content a → IsSentAs c before place content b → length a ≡ length b → a ≡ b
one_sent c before place content a b x y same =
    let padding = one_padding c content place x.padding y.padding (sym (ap length x.written_so) ∙ same ∙ ap length y.written_so) in
    x.written_so ∙ ap (λ n. written (media_packet c.receiver.session content n place)) padding ∙ sym y.written_so

-- by the laws of the codecs
abbrev pub OneRepair : Type 0
OneRepair =
    (content : Content) (original sequence payload_type ssrc : ℕ) (octets : List ℕ) → RepairSpells content original sequence payload_type ssrc octets →
    octets ≡ unpadded (repair_packet (repair_of content original sequence payload_type ssrc))

abbrev pub OneSpelling : Type 0
OneSpelling = (nack : Nack) (a b : List ℕ) → NackSpells nack a → NackSpells nack b → a ≡ b

module _ (one_repair : OneRepair) (one_spelling : OneSpelling) (c : Config) where
  one_repaired : (before : List Entry) (place : ℕ) (a b : List ℕ) → IsRepairedAs c before place a → IsRepairedAs c before place b → a ≡ b
  one_repaired before place a b x y =
      let sequence = (c.repair_first + repairs_in before) % 65536 in
      let spelled = one_repair x.content (number place) sequence c.receiver.session.repair_type c.receiver.session.repair_ssrc a x.spelled in
      let spelled' = one_repair y.content (number place) sequence c.receiver.session.repair_type c.receiver.session.repair_ssrc b y.spelled in
      let content = one_content c before place place x.content y.content refl x.was_sent y.was_sent in
      spelled ∙ ap (λ (d : Content). unpadded (repair_packet (repair_of d (number place) sequence c.receiver.session.repair_type c.receiver.session.repair_ssrc))) content ∙ sym spelled'

  pub same_wires : (past : List Entry) (one other : List Item) → IsFaithful c past one → IsFaithful c past other → map label_of one ≡ map label_of other → map size_of one ≡ map size_of other → one ≡ other
  same_wires [] one other is is' labels sizes = is ∙ sym is'
  same_wires (Sent place index content ∷ past) one other (rest, d, is, at, sent, before) (rest', e, is', at', sent', before') labels sizes =
      let l = mapped label_of one other rest rest' (Media place, d) (Media place, e) is is' labels in
      let s = mapped size_of one other rest rest' (Media place, d) (Media place, e) is is' sizes in
      same_item one other rest rest' (Media place) d e is is' (same_wires past rest rest' before before' l.0 s.0) (one_sent c past place content d.items e.items sent sent' s.1)
  same_wires (Repaired place index ∷ past) one other (rest, d, is, at, sent, before) (rest', e, is', at', sent', before') labels sizes =
      let l = mapped label_of one other rest rest' (Repair place, d) (Repair place, e) is is' labels in
      let s = mapped size_of one other rest rest' (Repair place, d) (Repair place, e) is is' sizes in
      same_item one other rest rest' (Repair place) d e is is' (same_wires past rest rest' before before' l.0 s.0) (one_repaired past place d.items e.items sent sent')
  same_wires (Asked index now ∷ past) one other (rest, d, pairs, is, at, sent, before) (rest', e, pairs', is', at', sent', before') labels sizes =
      let l = mapped label_of one other rest rest' (Feedback pairs, d) (Feedback pairs', e) is is' labels in
      let s = mapped size_of one other rest rest' (Feedback pairs, d) (Feedback pairs', e) is is' sizes in
      let same : pairs.items ≡ pairs'.items = ap (λ (x : Label). pairs_under (Some x)) l.1 in
      let both : pairs ≡ pairs' = λ i. record { items = same i } in
      let spelled = subst (λ (ps : List Pair). NackSpells (nack_of c.receiver.session ps) e.items) (sym same) sent'.spelled in
      same_item one other rest rest' (Feedback pairs) d e is (is' ∙ ap (λ (ps : ArrayVec Pair). rest' ++ (Feedback ps, e) ∷ []) (sym both))
      (same_wires past rest rest' before before' l.0 s.0) (one_spelling (nack_of c.receiver.session pairs.items) d.items e.items sent.spelled spelled)
  same_wires (SendRefused fault ∷ past) one other a b labels sizes = same_wires past one other a b labels sizes
  same_wires (NoRepair ∷ past) one other a b labels sizes = same_wires past one other a b labels sizes
  same_wires (NoAsk now ∷ past) one other a b labels sizes = same_wires past one other a b labels sizes
  same_wires (Nothing ∷ past) one other a b labels sizes = same_wires past one other a b labels sizes
  same_wires (Delivered index label now answer ∷ past) one other a b labels sizes = same_wires past one other a b labels sizes
  same_wires (Injected end now answer ∷ past) one other a b labels sizes = same_wires past one other a b labels sizes
  same_wires (Played now answer ∷ past) one other a b labels sizes = same_wires past one other a b labels sizes

-- How often a place was retransmitted is how many labels say so.
counted_more : (test : Label → Bool) (labels : List Label) (label : Label) → count_by test (labels ++ label ∷ []) ≡ (if test label then 1 else 0) + count_by test labels
counted_more test labels label = let e = sum_by-append (λ (l : Label). if test l then 1 else 0) labels (label ∷ []) in omega (arith, e)

counted_wire : (place : ℕ) (one rest : List Item) (item : Item) → one ≡ rest ++ item ∷ [] → count_by (is_repair_of place) (map label_of one) ≡ (if is_repair_of place item.0 then 1 else 0) + count_by (is_repair_of place) (map label_of rest)
counted_wire place one rest item is =
    ap (λ (w : List Item). count_by (is_repair_of place) (map label_of w)) is ∙ ap (λ (ls : List Label). count_by (is_repair_of place) ls) (map-append label_of rest (item ∷ []))
    ∙ counted_more (is_repair_of place) (map label_of rest) item.0

pub repairs_labelled : (c : Config) (past : List Entry) (wire : List Item) (place : ℕ) → IsFaithful c past wire → repairs_of place past ≡ count_by (is_repair_of place) (map label_of wire)
repairs_labelled c [] wire place is = ap (λ (w : List Item). count_by (is_repair_of place) (map label_of w)) (sym is)
repairs_labelled c (Sent at index content ∷ past) wire place (rest, d, is, where_at, sent, before) =
    let e = repairs_labelled c past rest place before in let f = counted_wire place wire rest (Media at, d) is in omega (arith, e, f)
repairs_labelled c (Repaired at index ∷ past) wire place (rest, d, is, where_at, sent, before) =
    let e = repairs_labelled c past rest place before in let f = counted_wire place wire rest (Repair at, d) is in omega (arith, e, f)
repairs_labelled c (Asked index now ∷ past) wire place (rest, d, pairs, is, where_at, sent, before) =
    let e = repairs_labelled c past rest place before in let f = counted_wire place wire rest (Feedback pairs, d) is in omega (arith, e, f)
repairs_labelled c (SendRefused fault ∷ past) wire place is = repairs_labelled c past wire place is
repairs_labelled c (NoRepair ∷ past) wire place is = repairs_labelled c past wire place is
repairs_labelled c (NoAsk now ∷ past) wire place is = repairs_labelled c past wire place is
repairs_labelled c (Nothing ∷ past) wire place is = repairs_labelled c past wire place is
repairs_labelled c (Delivered index label now answer ∷ past) wire place is = repairs_labelled c past wire place is
repairs_labelled c (Injected end now answer ∷ past) wire place is = repairs_labelled c past wire place is
repairs_labelled c (Played now answer ∷ past) wire place is = repairs_labelled c past wire place is
