-- What was given up or overrun is exactly what the cursor passed and was not played.
use Rattle.std.proofs.Common.{◌≡◌, ◌⊎◌, ℕ, ◌+◌, ◌<◌, ◌≤◌, List, [], ◌∷◌, Option, Some, None, refl, sym, ap, subst, ⊎_elim, inl, inr, arith}
use Rattle.std.specs.Prelude.{◌↔◌}
use Rattle.std.proofs.lemmas.Bool.{cases_eq, cases_lt}
use Rattle.std.proofs.lemmas.Option.{none-some, same_Some}
use Rattle.receiver.specs.declared.answer.Played.TheVariants.{Packet, Gap, Wait}
use Rattle.world.specs.declared.event.Answer.TheVariants.{Taken, Refused, Marked, FeedbackRefused}
use Rattle.world.specs.declared.event.Entry.{Entry}
use Rattle.world.specs.declared.event.Entry.TheVariants.{Sent, SendRefused, Repaired, NoRepair, Asked, NoAsk, Nothing, Delivered, Injected, Played}
use Rattle.world.specs.Config.{Config}
use Rattle.world.specs.Reading.{cursor_of, cursor_from, cursor_next, IsRising, IsPlayed, PassedBy, IsGone, unless_some, first_place, IsFrom, IsBehind, IsLeftOut}

-- Readings of a log: the first place taken, the cursor, what was played, and what is gone.
record Passed (first cursor : Option ℕ) (Was Gone : ℕ → Type 0) : Type 0 where
  pub unstarted : cursor ≡ None → first ≡ None
  pub started : (k : ℕ) → cursor ≡ Some k → (f : ℕ) × (first ≡ Some f) × (f ≤ k)
  pub played : (q : ℕ) → Was q → IsFrom first q × IsBehind cursor q
  pub gone : (q : ℕ) → Gone q → IsFrom first q × IsBehind cursor q × (Was q → ⊥)
  pub all : (q : ℕ) → IsFrom first q → IsBehind cursor q → Was q ⊎ Gone q

-- readings with the options told apart
abbrev PassedBetween : (f k : ℕ) → (Was Gone : ℕ → Type 0) → Type 0
PassedBetween f k Was Gone = (f ≤ k) × ((q : ℕ) → Was q → (f ≤ q) × (q < k)) × ((q : ℕ) → Gone q → (f ≤ q) × (q < k) × (Was q → ⊥)) × ((q : ℕ) → f ≤ q → q < k → Was q ⊎ Gone q)

between : (first cursor : Option ℕ) (Was Gone : ℕ → Type 0) (k : ℕ) → cursor ≡ Some k → Passed first cursor Was Gone → (f : ℕ) × (first ≡ Some f) × PassedBetween f k Was Gone
between first cursor Was Gone k at p =
    let start = p.started k at in
    let told = subst (λ (x : Option ℕ × Option ℕ). Passed x.0 x.1 Was Gone) (λ i. (start.1 i, at i)) p in
    (start.0, start.1, (start.2, told.played, told.gone, told.all))

passed_at : (f k : ℕ) (Was Gone : ℕ → Type 0) → PassedBetween f k Was Gone → Passed (Some f) (Some k) Was Gone
passed_at f k Was Gone p =
    record {
      unstarted = λ e. absurd (none-some k (sym e));
      started = λ n e. (f, refl, subst (λ m. f ≤ m) (same_Some k n e) p.0);
      played = p.1;
      gone = p.2;
      all = p.3;
    }

passed_as : (first first' cursor cursor' : Option ℕ) (Was Gone : ℕ → Type 0) → first ≡ first' → cursor ≡ cursor' → Passed first' cursor' Was Gone → Passed first cursor Was Gone
passed_as first first' cursor cursor' Was Gone same same' p = subst (λ (x : Option ℕ × Option ℕ). Passed x.0 x.1 Was Gone) (λ i. (sym same i, sym same' i)) p

-- a place is taken
takes : (first : Option ℕ) (cursor : Option ℕ) (Was Gone : ℕ → Type 0) (place overrun : ℕ) → Passed first cursor Was Gone → Passed (unless_some place first) (cursor_from cursor place overrun) Was (λ q. PassedBy cursor overrun q ⊎ Gone q)
takes first None Was Gone place overrun p =
    let none = p.unstarted refl in
    passed_as (unless_some place first) (Some place) (Some place) (Some place) Was (λ q. ⊥ ⊎ Gone q) (ap (unless_some place) none) refl
    (passed_at place place Was (λ q. ⊥ ⊎ Gone q) (
      omega arith,
      (λ q was. absurd ((p.played q was).1)),
      (λ q was. ⊎_elim (λ never. absurd never) (λ gone. absurd ((p.gone q gone).1)) was),
      (λ q from below. absurd (omega (arith, from, below))),
    ))
takes first (Some k) Was Gone place overrun p =
    let b = between first (Some k) Was Gone k refl p in
    passed_as (unless_some place first) (Some b.0) (Some (k + overrun)) (Some (k + overrun)) Was (λ q. ((k ≤ q) × (q < k + overrun)) ⊎ Gone q) (ap (unless_some place) b.1) refl
    (passed_at b.0 (k + overrun) Was (λ q. ((k ≤ q) × (q < k + overrun)) ⊎ Gone q) (
      (let h = b.2.0 in omega (arith, h)),
      (λ q was. let h = b.2.1 q was in (h.0, omega (arith, h.1))),
      (λ q was. ⊎_elim
          (λ (now : (k ≤ q) × (q < k + overrun)). let h = b.2.0 in (omega (arith, h, now.0), now.1, λ played. let e = b.2.1 q played in let n = now.0 in omega (arith, e.1, n)))
          (λ gone. let h = b.2.2 q gone in (h.0, omega (arith, h.1), h.2))
          was),
      (λ q from below. ⊎_elim
          (λ (low : q < k). ⊎_elim (λ was. inl was) (λ gone. inr (inr gone)) (b.2.3 q from low))
          (λ high. inr (inl (high, below)))
          (cases_lt q k)),
    ))

-- the cursor's place is played, or given up
plays : (first cursor : Option ℕ) (Was Gone : ℕ → Type 0) (place : ℕ) → cursor ≡ Some place → Passed first cursor Was Gone → Passed first (cursor_next cursor) (λ q. (place ≡ q) ⊎ Was q) Gone
plays first cursor Was Gone place at p =
    let b = between first cursor Was Gone place at p in
    passed_as first (Some b.0) (cursor_next cursor) (Some (place + 1)) (λ q. (place ≡ q) ⊎ Was q) Gone b.1 (ap cursor_next at)
    (passed_at b.0 (place + 1) (λ q. (place ≡ q) ⊎ Was q) Gone (
      (let h = b.2.0 in omega (arith, h)),
      (λ q was. ⊎_elim (λ (here : place ≡ q). let h = b.2.0 in (omega (arith, h, here), omega (arith, here))) (λ earlier. let h = b.2.1 q earlier in (h.0, omega (arith, h.1))) was),
      (λ q gone. let h = b.2.2 q gone in (h.0, omega (arith, h.1), λ was. ⊎_elim (λ (here : place ≡ q). let n = h.1 in omega (arith, n, here)) h.2 was)),
      (λ q from below. ⊎_elim
          (λ (here : q ≡ place). inl (inl (sym here)))
          (λ other. ⊎_elim (λ was. inl (inr was)) (λ gone. inr gone) (b.2.3 q from (omega (arith, below, other))))
          (cases_eq q place)),
    ))

gives_up : (first cursor : Option ℕ) (Was Gone : ℕ → Type 0) (place : ℕ) → cursor ≡ Some place → Passed first cursor Was Gone → Passed first (cursor_next cursor) Was (λ q. (place ≡ q) ⊎ Gone q)
gives_up first cursor Was Gone place at p =
    let b = between first cursor Was Gone place at p in
    passed_as first (Some b.0) (cursor_next cursor) (Some (place + 1)) Was (λ q. (place ≡ q) ⊎ Gone q) b.1 (ap cursor_next at)
    (passed_at b.0 (place + 1) Was (λ q. (place ≡ q) ⊎ Gone q) (
      (let h = b.2.0 in omega (arith, h)),
      (λ q was. let h = b.2.1 q was in (h.0, omega (arith, h.1))),
      (λ q was. ⊎_elim
          (λ (here : place ≡ q). let h = b.2.0 in (omega (arith, h, here), omega (arith, here), λ played. let e = b.2.1 q played in omega (arith, e.1, here)))
          (λ gone. let h = b.2.2 q gone in (h.0, omega (arith, h.1), h.2))
          was),
      (λ q from below. ⊎_elim
          (λ (here : q ≡ place). inr (inl (sym here)))
          (λ other. ⊎_elim (λ was. inl was) (λ gone. inr (inr gone)) (b.2.3 q from (omega (arith, below, other))))
          (cases_eq q place)),
    ))

-- By induction over a log whose places rise.
passed : (c : Config) (past : List Entry) → IsRising c past → Passed (first_place past) (cursor_of past) (IsPlayed past) (IsGone past)
passed c [] rising = record { unstarted = λ e. refl; started = λ k e. absurd (none-some k e); played = λ q never. absurd never; gone = λ q never. absurd never; all = λ q never. absurd never }
passed c (Sent at index content ∷ past) rising =
    let p = passed c past rising in record { unstarted = p.unstarted; started = p.started; played = p.played; gone = p.gone; all = p.all }
passed c (SendRefused fault ∷ past) rising =
    let p = passed c past rising in record { unstarted = p.unstarted; started = p.started; played = p.played; gone = p.gone; all = p.all }
passed c (Repaired at index ∷ past) rising =
    let p = passed c past rising in record { unstarted = p.unstarted; started = p.started; played = p.played; gone = p.gone; all = p.all }
passed c (NoRepair ∷ past) rising =
    let p = passed c past rising in record { unstarted = p.unstarted; started = p.started; played = p.played; gone = p.gone; all = p.all }
passed c (Asked index now ∷ past) rising =
    let p = passed c past rising in record { unstarted = p.unstarted; started = p.started; played = p.played; gone = p.gone; all = p.all }
passed c (NoAsk now ∷ past) rising =
    let p = passed c past rising in record { unstarted = p.unstarted; started = p.started; played = p.played; gone = p.gone; all = p.all }
passed c (Nothing ∷ past) rising =
    let p = passed c past rising in record { unstarted = p.unstarted; started = p.started; played = p.played; gone = p.gone; all = p.all }
passed c (Delivered index label now (Taken taken) ∷ past) rising =
    let p = takes (first_place past) (cursor_of past) (IsPlayed past) (IsGone past) taken.place taken.overrun (passed c past rising.1) in
    record { unstarted = p.unstarted; started = p.started; played = p.played; gone = p.gone; all = p.all }
passed c (Delivered index label now (Refused fault) ∷ past) rising =
    let p = passed c past rising in record { unstarted = p.unstarted; started = p.started; played = p.played; gone = p.gone; all = p.all }
passed c (Delivered index label now (Marked marked) ∷ past) rising =
    let p = passed c past rising in record { unstarted = p.unstarted; started = p.started; played = p.played; gone = p.gone; all = p.all }
passed c (Delivered index label now (FeedbackRefused fault) ∷ past) rising =
    let p = passed c past rising in record { unstarted = p.unstarted; started = p.started; played = p.played; gone = p.gone; all = p.all }
passed c (Injected end now (Taken taken) ∷ past) rising =
    let p = takes (first_place past) (cursor_of past) (IsPlayed past) (IsGone past) taken.place taken.overrun (passed c past rising.1) in
    record { unstarted = p.unstarted; started = p.started; played = p.played; gone = p.gone; all = p.all }
passed c (Injected end now (Refused fault) ∷ past) rising =
    let p = passed c past rising in record { unstarted = p.unstarted; started = p.started; played = p.played; gone = p.gone; all = p.all }
passed c (Injected end now (Marked marked) ∷ past) rising =
    let p = passed c past rising in record { unstarted = p.unstarted; started = p.started; played = p.played; gone = p.gone; all = p.all }
passed c (Injected end now (FeedbackRefused fault) ∷ past) rising =
    let p = passed c past rising in record { unstarted = p.unstarted; started = p.started; played = p.played; gone = p.gone; all = p.all }
passed c (Played now (Packet place content) ∷ past) rising =
    let p = plays (first_place past) (cursor_of past) (IsPlayed past) (IsGone past) place rising.0 (passed c past rising.1) in
    record { unstarted = p.unstarted; started = p.started; played = p.played; gone = p.gone; all = p.all }
passed c (Played now (Gap place) ∷ past) rising =
    let p = gives_up (first_place past) (cursor_of past) (IsPlayed past) (IsGone past) place rising.0 (passed c past rising.1) in
    record { unstarted = p.unstarted; started = p.started; played = p.played; gone = p.gone; all = p.all }
passed c (Played now Wait ∷ past) rising =
    let p = passed c past rising in record { unstarted = p.unstarted; started = p.started; played = p.played; gone = p.gone; all = p.all }

pub gone_exactly : (c : Config) (past : List Entry) → IsRising c past → (place : ℕ) → IsGone past place ↔ IsLeftOut past place
gone_exactly c past rising place = (to, back)
  where
    to : IsGone past place → IsLeftOut past place
    to gone = let h = (passed c past rising).gone place gone in record { from_first = h.0; behind = h.1; unplayed = h.2 }

    back : IsLeftOut past place → IsGone past place
    back out = ⊎_elim (λ was. absurd (out.unplayed was)) (λ gone. gone) ((passed c past rising).all place out.from_first out.behind)
