-- What a receiver asks for is determined.
use Rattle.std.proofs.Common.{◌≡◌, ℕ, List, take, Option, Some, None, IsSomeAnd, refl, sym, ap, subst, ◌∙◌}
use Rattle.std.specs.List.Sorted.{IsStrictlyIncreasing}
use Rattle.arrayvec.specs.ArrayVec.{ArrayVec}
use Rattle.fbwire.specs.declared.nack.Pair.{Pair}
use Rattle.fbwire.specs.Nack.{Nack, nack_octets}
use Rattle.fbwire.specs.Packing.{IsPacking, IsNarrow}
use Rattle.receiver.specs.Config.{Config}
use Rattle.receiver.specs.Window.{ReceiverState}
use Rattle.receiver.specs.Asks.{is_due, Asks, AsksFor, AsksMost, AnswersAsk, looked_at}
use Rattle.receiver.proofs.Rising.{rising_take, one_list}
use Rattle.receiver.proofs.SameWindows.{Same, same_window, one_such}

one_asks : (old : ReceiverState) (covered : List ℕ) (now : ℕ) (v w : ReceiverState) → Asks old covered now v → Asks old covered now w → v ≡ w
one_asks old covered now v w a b =
    same_window v w (a.cursor ∙ sym b.cursor) (a.highest ∙ sym b.highest) (λ k. a.held k ∙ sym (b.held k)) (λ k. a.missing k ∙ sym (b.missing k)) (a.learnt ∙ sym b.learnt)

-- places have one packing
abbrev pub OnePacking : Type 0
OnePacking = (places : List ℕ) (a b : List Pair) (m n : ℕ) → IsStrictlyIncreasing places → IsNarrow places → IsPacking places a m → IsPacking places b n → (a ≡ b) × (m ≡ n)

module _ (one_packing : OnePacking) (c : Config) (now : ℕ) (v w : Option ReceiverState) where
  one_ask_for : (old : ReceiverState) (places : List ℕ) (x y : ArrayVec ℕ) → IsStrictlyIncreasing places → AsksFor c old places now x v → AsksFor c old places now y w → Same x y v w
  one_ask_for old places x y rising a b =
      let v_asked = a.asked in
      let w_asked = b.asked in
      let packing = one_packing places a.pairs b.pairs v_asked.count w_asked.count rising v_asked.narrow v_asked.packing w_asked.packing in
      let nack : List Pair → Nack = λ pairs. record { reporter = c.session.receiver_ssrc; media = c.session.media_ssrc; pairs = pairs } in
      let octets : x.items ≡ y.items = a.spells.spelled ∙ ap (λ pairs. nack_octets (nack pairs)) packing.0 ∙ sym b.spells.spelled in (
        λ i. record { items = octets i },
        one_such (Asks old (take v_asked.count places) now) (one_asks old (take v_asked.count places) now) v w v_asked.asks
            (subst (λ n. IsSomeAnd w (Asks old (take n places) now)) (sym packing.1) w_asked.asks),
      )

  one_answer : (old : ReceiverState) (due : List ℕ) (r s : Option (ArrayVec ℕ)) → IsStrictlyIncreasing due → AnswersAsk c old due now r v → AnswersAsk c old due now s w → Same r s v w
  one_answer old due None None rising (none, is) (none', is') = (refl, is ∙ sym is')
  one_answer old due None (Some y) rising (none, is) (some, asks) = absurd (some none)
  one_answer old due (Some x) None rising (some, asks) (none, is) = absurd (some none)
  one_answer old due (Some x) (Some y) rising (some, a) (some', b) =
      let same = one_ask_for old due x y rising a b in
      (ap (λ (d : ArrayVec ℕ). Some d) same.0, same.1)

  pub one_ask_most : (old : Option ReceiverState) (most : ℕ) (r s : Option (ArrayVec ℕ)) → AsksMost c old now most r v → AsksMost c old now most s w → Same r s v w
  one_ask_most None most r s (none, is) (none', is') = (none ∙ sym none', is ∙ sym is')
  one_ask_most (Some old) most r s a b =
      one_answer old (take (looked_at most) a.due) r s (rising_take (looked_at most) a.due a.each.rises) a.answers
      (subst (λ (due : List ℕ). AnswersAsk c old (take (looked_at most) due) now s w) (one_list b.due a.due (λ k. is_due now c.delay c.retry c.asks (old.missing k)) b.each a.each) b.answers)
