-- Each retransmission leaves fewer marks, whatever comes to the receiver.
use Rattle.std.proofs.Common.{◌≡◌, ◌≢◌, ℕ, zero, suc, ◌+◌, ◌<◌, ◌≤◌, Bool, true, false, List, Option, Some, None, IsSome, if◌then◌else◌, refl, sym, ap, subst, ◌∙◌, ⊎_elim, arith}
use Rattle.std.proofs.lemmas.Bool.{cases_eq}
use Rattle.arrayvec.specs.ArrayVec.{ArrayVec}
use Rattle.stores.specs.declared.entry.HistoryEntry.{HistoryEntry}
use Rattle.stores.specs.PastByPlace.{is_marked}
use Rattle.sender.specs.History.{SenderState, Repairs}
use Rattle.world.specs.declared.event.End.TheVariants.{Receiver}
use Rattle.world.specs.declared.event.Event.TheVariants.{Repair, Inject}
use Rattle.world.specs.declared.event.Entry.{Entry}
use Rattle.world.specs.declared.event.Entry.TheVariants.{Repaired, NoRepair, Injected}
use Rattle.world.specs.Config.{Config}
use Rattle.world.specs.Answers.{WorldState, Step}
use Rattle.runs.specs.declared.link.Transfer.{Transfer}
use Rattle.runs.specs.Scene.{Scene}
use Rattle.runs.specs.Exchange.{written_at, Injects, HandsAny, Exchanges}
use Rattle.runs.specs.Marks.{Covers, marks}

abbrev bit : Bool → ℕ
bit b = if b then 1 else 0

abbrev one_marked : Option HistoryEntry → ℕ
one_marked entry = bit (is_marked entry)

-- the place is above them all
marks_same : (base room place : ℕ) (old new : SenderState) → ((q : ℕ) → q ≢ place → new.entries q ≡ old.entries q) → base + room ≤ place → marks base room new ≡ marks base room old
marks_same base zero place old new others above = refl
marks_same base (suc room) place old new others above =
    let here = ap one_marked (others (base + room) (λ is. omega (arith, is, above))) in
    let rest = marks_same base room place old new others (omega (arith, above)) in
    omega (arith, here, rest)

marks_less : (base room place : ℕ) (old new : SenderState) → ((q : ℕ) → q ≢ place → new.entries q ≡ old.entries q) → is_marked (old.entries place) ≡ true → is_marked (new.entries place) ≡ false → base ≤ place → place < base + room
    → marks base room new < marks base room old
marks_less base zero place old new others was is low high = absurd (omega (arith, low, high))
marks_less base (suc room) place old new others was is low high =
    ⊎_elim
    (λ (here : base + room ≡ place).
    let x : ◌≡◌ {A = ℕ} (if is_marked (new.entries (base + room)) then 1 else 0) 0 = ap (λ n. one_marked (new.entries n)) here ∙ ap bit is in
    let y : ◌≡◌ {A = ℕ} (if is_marked (old.entries (base + room)) then 1 else 0) 1 = ap (λ n. one_marked (old.entries n)) here ∙ ap bit was in
    let rest = marks_same base room place old new others (omega (arith, here)) in
    omega (arith, x, y, rest))
    (λ other.
    let here = ap one_marked (others (base + room) other) in
    let rest = marks_less base room place old new others was is low (omega (arith, high, other)) in
    omega (arith, here, rest))
    (cases_eq (base + room) place)

-- a retransmission
pub record Falls (base room : ℕ) (old new : SenderState) : Type 0 where
  pub covers : Covers base room new
  pub fewer : marks base room new < marks base room old

some_is : (o : Option HistoryEntry) (entry : HistoryEntry) → o ≡ Some entry → IsSome o
some_is o entry is = subst (λ (x : Option HistoryEntry). IsSome x) (sym is) refl

repairs_fall : (base room place : ℕ) (entry : HistoryEntry) (old new : SenderState) → Covers base room old → Repairs old place entry new → Falls base room old new
repairs_fall base room place entry old new covers t =
    let inside = covers place (some_is (old.entries place) entry t.was) in
    record {
      covers = λ q some.
          ⊎_elim (λ (here : q ≡ place). subst (λ n. (base ≤ n) × (n < base + room)) (sym here) inside)
          (λ other. covers q (subst (λ (o : Option HistoryEntry). IsSome o) (t.others q other) some))
          (cases_eq q place);
      fewer = marks_less base room place old new t.others (ap is_marked t.was ∙ t.marked) (ap is_marked t.counted) inside.0 inside.1;
    }

-- what comes to the receiver leaves the sender as it was
kept_by : (c : Config) (now : ℕ) (octets : ArrayVec ℕ) (entry : Entry) (old new : WorldState) → Step c old (Inject Receiver octets now) entry new → new.sender ≡ old.sender
kept_by c now octets (Injected at moment answer) old new (at_is, now_is, hears, wire) = hears.sender
kept_by c now octets entry old new never = absurd never

injects_keep : (c : Config) (now : ℕ) (came : Option (ArrayVec ℕ)) (old new : Scene) → Injects c Receiver now came old new → new.stand.sender ≡ old.stand.sender
injects_keep c now None old new same = ap (λ (s : Scene). s.stand.sender) same
injects_keep c now (Some octets) old new (entry, happens) = kept_by c now octets entry old.stand new.stand happens.step

repaired : (c : Config) (base room now : ℕ) (entry : Entry) (old mid : WorldState) (scene new : Scene) (moved : List Transfer) → scene.stand ≡ mid → Covers base room old.sender → Step c old Repair entry mid
    → HandsAny c Receiver now (written_at entry) true scene moved new → Falls base room old.sender new.stand.sender
repaired c base room now (Repaired place index) old mid scene new moved at covers step (went, hands) =
    subst (λ (s : SenderState). Falls base room old.sender s) (sym (injects_keep c now hands.came scene new hands.injects ∙ ap (λ (s : WorldState). s.sender) at))
    (repairs_fall base room place step.repairs.entry old.sender mid.sender covers step.repairs.repairs)
repaired c base room now NoRepair old mid scene new moved at covers step (went, same, unmoved) = absurd cc
repaired c base room now entry old mid scene new moved at covers never hands = absurd never

pub exchange_falls : (c : Config) (base room now : ℕ) (went : Bool) (old new : Scene) (a b : Option (List Transfer)) → went ≡ true → Exchanges c Repair Receiver now old a went new b → Covers base room old.stand.sender
    → Falls base room old.stand.sender new.stand.sender
exchange_falls c base room now went old new a b gone e covers =
    repaired c base room now e.entry old.stand e.mid.stand e.mid new e.moved refl covers e.happens.step (subst (λ (w : Bool). HandsAny c Receiver now (written_at e.entry) w e.mid e.moved new) gone e.hands)
