-- A set of the positions of items that pass a test, when items come, go and change.
use Rattle.std.proofs.Common.{◌≡◌, ◌≢◌, ℕ, zero, suc, ◌+◌, ◌-◌, ◌<◌, ◌≤◌, ◌==◌, ◌++◌, Bool, true, false, List, [], ◌∷◌, length, drop, replicate, slice_get, slice_set, Option, Some, None, nat_lt, ap, sym, ◌∙◌, arith, ltb-true, ltb-false, length-append}
use Rattle.std.specs.Prelude.{if◌then◌else◌}
use Rattle.std.proofs.lemmas.Bool.{cond_both, eqb-true, eqb-false}
use Rattle.std.proofs.lemmas.Bool.Decides.{nat_tests}
use Rattle.std.proofs.lemmas.Option.{slice_get_past}
use Rattle.std.proofs.lemmas.List.{length-replicate}
use Rattle.stores.specs.Bits.{bits_of, is_member, is_between, IsSetOf}
use Rattle.stores.proofs.BitRanges.{by_run, between, before, behind}
use Rattle.stores.proofs.Lookup.{slice_get-append_left, slice_get-append_right, slice_get-drop, slice_get-replicate, slice_get-set_same, slice_get-set_other}

module _ {X : Type 0} (test : Option X → Bool) where
  pick : (p i : ℕ) (b v o : Bool) → b ≡ (if p == i then v else o) → p ≡ i → b ≡ v
  pick p i b v o e at = grind (arith, nat_tests)

  skip : (p i : ℕ) (b v o : Bool) → b ≡ (if p == i then v else o) → p ≢ i → b ≡ o
  skip p i b v o e apart = grind (arith, nat_tests)

  -- one item was replaced, and its position set or cleared
  pub set_after_change : (old new : List ℕ) (front after : ℕ) (items : List X) (i : ℕ) (x : X) (v : Bool) → i < length items → length new ≡ length old →
      ((p : ℕ) → p < bits_of old → is_member new after p ≡ (if p == i then v else is_member old front p)) → test (Some x) ≡ v →
      IsSetOf test old front items → IsSetOf test new after (slice_set items i x)
  set_after_change old new front after items i x v within long members passes is p below =
      cond_both (p == i) true false (λ _. is_member new after p ≡ test (slice_get (slice_set items i x) p))
      (λ e. let at : p ≡ i = eqb-true p i e in
      pick p i _ v _ (members p (omega arith)) at ∙ sym passes ∙ ap test (sym (ap (slice_get (slice_set items i x)) at ∙ slice_get-set_same items i x within)))
      (λ e. let apart : p ≢ i = eqb-false p i e in
      skip p i _ v _ (members p (omega arith)) apart ∙ is p (omega arith) ∙ ap test (sym (slice_get-set_other items i p x apart)))

  -- one item was replaced by one that passes as it did
  pub set_after_same : (words : List ℕ) (front : ℕ) (items : List X) (i : ℕ) (x : X) → i < length items → test (Some x) ≡ test (slice_get items i) →
      IsSetOf test words front items → IsSetOf test words front (slice_set items i x)
  set_after_same words front items i x within same is p below =
      cond_both (p == i) true false (λ _. is_member words front p ≡ test (slice_get (slice_set items i x) p))
      (λ e. let at : p ≡ i = eqb-true p i e in
      is p below ∙ ap (λ q. test (slice_get items q)) at ∙ sym same ∙ ap test (sym (ap (slice_get (slice_set items i x)) at ∙ slice_get-set_same items i x within)))
      (λ e. is p below ∙ ap test (sym (slice_get-set_other items i p x (eqb-false p i e))))

  -- the first item went, and the others moved down
  pub set_after_drop : (old new : List ℕ) (front after : ℕ) (items : List X) → length new ≡ length old → length items < bits_of old → test None ≡ false →
      ((p : ℕ) → p < bits_of old → is_member new after p ≡ (if p + 1 == bits_of old then false else is_member old front (p + 1))) →
      IsSetOf test old front items → IsSetOf test new after (drop 1 items)
  set_after_drop old new front after items long few none shifted is p below =
      let dropped = slice_get-drop 1 items p (p + 1) (omega arith) in
      cond_both (p + 1 == bits_of old) true false (λ _. is_member new after p ≡ test (slice_get (drop 1 items) p))
      (λ e. let last : p + 1 ≡ bits_of old = eqb-true _ _ e in
      pick (p + 1) (bits_of old) (is_member new after p) false (is_member old front (p + 1)) (shifted p (omega arith)) last
      ∙ sym (ap test (dropped ∙ slice_get_past items (p + 1) (omega arith)) ∙ none))
      (λ e. let more : p + 1 ≢ bits_of old = eqb-false _ _ e in
      skip (p + 1) (bits_of old) (is_member new after p) false (is_member old front (p + 1)) (shifted p (omega arith)) more
      ∙ is (p + 1) (omega arith) ∙ ap test (sym dropped))

  -- the first items went, and the others moved down
  pub set_after_drops : (old new : List ℕ) (front after count : ℕ) (items : List X) → length new ≡ length old → length items ≤ bits_of old → test None ≡ false →
      ((p : ℕ) → p < bits_of old → is_member new after p ≡ (if nat_lt (p + count) (bits_of old) then is_member old front (p + count) else false)) →
      IsSetOf test old front items → IsSetOf test new after (drop count items)
  set_after_drops old new front after count items long few none shifted is p below =
      let dropped = slice_get-drop count items p (p + count) (omega arith) in
      cond_both (nat_lt (p + count) (bits_of old)) true false (λ _. is_member new after p ≡ test (slice_get (drop count items) p))
      (λ e. shifted p (omega arith) ∙ ap (λ t. if t then is_member old front (p + count) else false) e ∙ is (p + count) (ltb-true _ _ e) ∙ ap test (sym dropped))
      (λ e. let past : bits_of old ≤ p + count = ltb-false _ _ e in
      shifted p (omega arith) ∙ ap (λ t. if t then is_member old front (p + count) else false) e ∙ sym (ap test (dropped ∙ slice_get_past items (p + count) (omega arith)) ∙ none))

  one_fails : (i : ℕ) (x : X) → test (Some x) ≡ false → test None ≡ false → test (slice_get (x ∷ []) i) ≡ false
  one_fails zero x fails none = fails
  one_fails (suc i) x fails none = none

  -- an item came that does not pass
  pub set_after_push : (words : List ℕ) (front : ℕ) (items : List X) (x : X) → test (Some x) ≡ false → test None ≡ false → IsSetOf test words front items → IsSetOf test words front (items ++ x ∷ [])
  set_after_push words front items x fails none is p below =
      cond_both (nat_lt p (length items)) true false (λ _. is_member words front p ≡ test (slice_get (items ++ x ∷ []) p))
      (λ e. is p below ∙ ap test (sym (slice_get-append_left items (x ∷ []) p (ltb-true _ _ e))))
      (λ e. let above : length items ≤ p = ltb-false _ _ e in
      let old = slice_get_past items p above in
      let new = slice_get-append_right items (x ∷ []) p (p - length items) (omega arith) in
      is p below ∙ ap test old ∙ none ∙ sym (ap test new ∙ one_fails (p - length items) x fails none))

  same_choice : (p n : ℕ) → n ≤ p → (b : Bool) → (if p == n then true else b) ≡ (if p - n == 0 then true else b)
  same_choice p n above b = grind (arith, nat_tests)

  later : (i : ℕ) (b : Bool) → b ≡ false → (if suc i == 0 then true else b) ≡ false
  later i b off = grind (arith, nat_tests)

  one_passes : (i : ℕ) (x : X) (b : Bool) → test (Some x) ≡ true → test None ≡ false → b ≡ false → (if i == 0 then true else b) ≡ test (slice_get (x ∷ []) i)
  one_passes zero x b passes none off = sym passes
  one_passes (suc i) x b passes none off = later i b off ∙ sym none

  -- an item came that passes, and its position was set
  pub set_after_add : (old new : List ℕ) (front after : ℕ) (items : List X) (x : X) → length new ≡ length old → test (Some x) ≡ true → test None ≡ false →
      ((p : ℕ) → p < bits_of old → is_member new after p ≡ (if p == length items then true else is_member old front p)) →
      IsSetOf test old front items → IsSetOf test new after (items ++ x ∷ [])
  set_after_add old new front after items x long passes none members is p below =
      cond_both (nat_lt p (length items)) true false (λ _. is_member new after p ≡ test (slice_get (items ++ x ∷ []) p))
      (λ e. let inside : p < length items = ltb-true _ _ e in
      skip p (length items) (is_member new after p) true (is_member old front p) (members p (omega arith)) (λ e. omega arith)
      ∙ is p (omega arith) ∙ ap test (sym (slice_get-append_left items (x ∷ []) p inside)))
      (λ e. let above : length items ≤ p = ltb-false _ _ e in
      let past = slice_get_past items p above in
      let off = is p (omega arith) ∙ ap test past ∙ none in
      let got = slice_get-append_right items (x ∷ []) p (p - length items) (omega arith) in
      members p (omega arith) ∙ same_choice p (length items) above (is_member old front p) ∙ one_passes (p - length items) x (is_member old front p) passes none off ∙ ap test (sym got))

  -- items came that pass, and their positions were set
  pub set_after_adds : (old new : List ℕ) (front after count : ℕ) (items : List X) (x : X) → length new ≡ length old → test (Some x) ≡ true → test None ≡ false →
      ((p : ℕ) → p < bits_of old → is_member new after p ≡ (if is_between (length items) (length items + count) p then true else is_member old front p)) →
      IsSetOf test old front items → IsSetOf test new after (items ++ replicate count x)
  set_after_adds old new front after count items x long passes none members is p below =
      by_run (is_member new after p ≡ test (slice_get (items ++ replicate count x) p)) (length items) (length items + count) p
      (λ inside. members p (omega arith) ∙ ap (λ t. if t then true else is_member old front p) (before (length items) (length items + count) p inside) ∙ is p (omega arith)
      ∙ ap test (sym (slice_get-append_left items (replicate count x) p inside)))
      (λ l u. let got = slice_get-append_right items (replicate count x) p (p - length items) (omega arith) ∙ slice_get-replicate count x (p - length items) (omega arith) in
      members p (omega arith) ∙ ap (λ t. if t then true else is_member old front p) (between (length items) (length items + count) p l u) ∙ sym (ap test got ∙ passes))
      (λ past. let whole = length-append items (replicate count x) in
      let more = length-replicate count x in
      members p (omega arith) ∙ ap (λ t. if t then true else is_member old front p) (behind (length items) (length items + count) p past) ∙ is p (omega arith)
      ∙ ap test (slice_get_past items p (omega arith) ∙ sym (slice_get_past (items ++ replicate count x) p (omega arith))))
