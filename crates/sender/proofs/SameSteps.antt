-- A step of the sender is a function: it has one answer, and leaves one sender.
use Rattle.std.proofs.Common.{◌≡◌, ℕ, ◌+◌, ◌<◌, ◌≤◌, true, false, List, Option, Some, None, Result, Ok, Err, refl, sym, ap, subst, ◌∙◌, arith, inl, inr}
use Rattle.std.proofs.lemmas.Option.{same_Some}
use Rattle.std.proofs.lemmas.Bool.{cases_eq, cases_lt}
use Rattle.arrayvec.specs.ArrayVec.{ArrayVec}
use Rattle.places.specs.Place.{number}
use Rattle.rtpwire.specs.declared.content.Content.{Content}
use Rattle.rtpwire.specs.Rtp.{written, unpadded}
use Rattle.rtpwire.specs.Retransmission.{RepairSpells, repair_of, repair_packet}
use Rattle.rtpwire.specs.Session.{Streams}
use Rattle.stores.specs.declared.entry.HistoryEntry.{HistoryEntry}
use Rattle.stores.specs.Past.{repeated}
use Rattle.stores.specs.PastByPlace.{is_marked}
use Rattle.sender.specs.declared.fault.SendFault.{SendFault}
use Rattle.sender.specs.declared.fault.SendFault.TheVariants.{PaddedEmpty, Exhausted}
use Rattle.sender.specs.History.{SenderState, Sends, Repairs}
use Rattle.sender.specs.Sending.{SendsAny, media_packet}
use Rattle.sender.specs.Repairing.{RepairsAny}

-- the same answer, and the same sender after it
abbrev pub Same : {A B : Type 0} (a b : A) (x y : B) → Type 0
Same a b x y = (a ≡ b) × (x ≡ y)

same_vector : (x y : ArrayVec ℕ) → x.items ≡ y.items → x ≡ y
same_vector x y items = λ i. record { items = items i }

same_packet : (x y : ℕ × ArrayVec ℕ) → x.0 ≡ y.0 → x.1.items ≡ y.1.items → x ≡ y
same_packet x y place octets = λ i. (place i, same_vector x.1 y.1 octets i)

-- senders are compared place by place
pub same_history : (v w : SenderState) → v.next ≡ w.next → v.repair ≡ w.repair → ((q : ℕ) → v.entries q ≡ w.entries q) → v ≡ w
same_history v w next repair entries = λ i. record { next = next i; repair = repair i; entries = λ q. entries q i }

module _ (room : ℕ) (old : SenderState) (content : Content) (v w : SenderState) where
  one_send : Sends room old content v → Sends room old content w → v ≡ w
  one_send a b =
      same_history v w (a.next ∙ sym b.next) (a.repair ∙ sym b.repair) (λ q. elim (cases_eq q old.next) [
        | inl e ↦ ap v.entries e ∙ a.sent ∙ sym b.sent ∙ sym (ap w.entries e)
        | inr other ↦ elim (cases_lt (q + room) v.next) [
          | inl gone ↦ a.gone q gone ∙ sym (b.gone q (subst (λ n. q + room < n) (a.next ∙ sym b.next) gone))
          | inr kept ↦ a.others q other kept ∙ sym (b.others q other (subst (λ n. n ≤ q + room) (a.next ∙ sym b.next) kept))
        ]
      ])

module _ (s : Streams) (room : ℕ) (old : SenderState) (content : Content) (padding : ℕ) (v w : SenderState) where
  pub one_answer : (x y : Result (ℕ × ArrayVec ℕ) SendFault) → SendsAny s room old content padding x v → SendsAny s room old content padding y w → Same x y v w
  one_answer (Ok x) (Ok y) a b =
      let place : x.0 ≡ y.0 = a.place_is ∙ sym b.place_is in
      let octets : x.1.items ≡ y.1.items = a.written_so ∙ ap (λ n. written (media_packet s content padding n)) place ∙ sym b.written_so in
      (ap (λ (p : ℕ × ArrayVec ℕ). Ok p) (same_packet x y place octets), one_send room old content v w a.sends b.sends)
  one_answer (Ok x) (Err PaddedEmpty) a (empty, same) = absurd (empty a.padded)
  one_answer (Ok x) (Err Exhausted) a (padded, none, same) = let fits = a.fits in let at = a.place_is in absurd (omega (arith, fits, at, none))
  one_answer (Err PaddedEmpty) (Ok y) (empty, same) b = absurd (empty b.padded)
  one_answer (Err PaddedEmpty) (Err PaddedEmpty) (empty, same) (empty', same') = (refl, same ∙ sym same')
  one_answer (Err PaddedEmpty) (Err Exhausted) (empty, same) (padded, none, same') = absurd (empty padded)
  one_answer (Err Exhausted) (Ok y) (padded, none, same) b = let fits = b.fits in let at = b.place_is in absurd (omega (arith, fits, at, none))
  one_answer (Err Exhausted) (Err PaddedEmpty) (padded, none, same) (empty, same') = absurd (empty padded)
  one_answer (Err Exhausted) (Err Exhausted) (padded, none, same) (padded', none', same') = (refl, same ∙ sym same')

-- retransmissions

marked_there : (o : Option HistoryEntry) (entry : HistoryEntry) → o ≡ Some entry → entry.marked ≡ true → is_marked o ≡ false → ⊥
marked_there o entry at is not = let same = ap is_marked at in let never : true ≡ false = sym is ∙ sym same ∙ not in cc

module _ (old : SenderState) (v w : SenderState) where
  -- both are the least marked place
  one_place : (p q : ℕ) (e f : HistoryEntry) → Repairs old p e v → Repairs old q f w → p ≡ q
  one_place p q e f a b = elim (cases_lt p q) [
    | inl less ↦ absurd (marked_there (old.entries p) e a.was a.marked (b.least p less))
    | inr more ↦ elim (cases_lt q p) [
      | inl less ↦ absurd (marked_there (old.entries q) f b.was b.marked (a.least q less))
      | inr more' ↦ omega (arith, more, more')
    ]
  ]

  one_repair : (p q : ℕ) (e f : HistoryEntry) → p ≡ q → e ≡ f → Repairs old p e v → Repairs old q f w → v ≡ w
  one_repair p q e f place entry a b =
      same_history v w (a.next ∙ sym b.next) (a.repair ∙ sym b.repair) (λ k. elim (cases_eq k p) [
        | inl here ↦ ap v.entries here ∙ a.counted ∙ ap (λ (x : HistoryEntry). Some (repeated x)) entry ∙ sym b.counted ∙ sym (ap w.entries (here ∙ place))
        | inr other ↦ a.others k other ∙ sym (b.others k (λ same. other (same ∙ sym place)))
      ])

  pub one_retransmission : (s : Streams) (same : (content : Content) (original sequence payload_type ssrc : ℕ) (octets : List ℕ) → RepairSpells content original sequence payload_type ssrc octets → octets ≡ unpadded (repair_packet (repair_of content original sequence payload_type ssrc))) →
      (x y : Option (ℕ × ArrayVec ℕ)) → RepairsAny s old x v → RepairsAny s old y w → Same x y v w
  one_retransmission s same (Some x) (Some y) a b =
      let place : x.0 ≡ y.0 = one_place x.0 y.0 a.entry b.entry a.repairs b.repairs in
      let entry : a.entry ≡ b.entry = same_Some a.entry b.entry (sym a.repairs.was ∙ ap old.entries place ∙ b.repairs.was) in
      let octets : x.1.items ≡ y.1.items =
      same a.entry.content (number x.0) old.repair s.repair_type s.repair_ssrc x.1.items a.spells
      ∙ (λ i. unpadded (repair_packet (repair_of (entry i).content (number (place i)) old.repair s.repair_type s.repair_ssrc)))
      ∙ sym (same b.entry.content (number y.0) old.repair s.repair_type s.repair_ssrc y.1.items b.spells) in
      (ap (λ (p : ℕ × ArrayVec ℕ). Some p) (same_packet x y place octets), one_repair x.0 y.0 a.entry b.entry place entry a.repairs b.repairs)
  one_retransmission s same (Some x) None a (none, is) = absurd (marked_there (old.entries x.0) a.entry a.repairs.was a.repairs.marked (none x.0))
  one_retransmission s same None (Some y) (none, is) b = absurd (marked_there (old.entries y.0) b.entry b.repairs.was b.repairs.marked (none y.0))
  one_retransmission s same None None (none, is) (none', is') = (refl, is ∙ sym is')
