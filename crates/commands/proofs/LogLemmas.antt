-- The text of a log as it grows by an entry, and as the wire grows under it.
use Rattle.std.proofs.Common.{◌≡◌, ℕ, zero, suc, ◌+◌, ◌<◌, List, [], ◌∷◌, ◌++◌, length, slice_get, refl, ap, sym, ◌∙◌, arith, append-nil, length-append, codes, reverse, subst}
use Rattle.std.proofs.lemmas.Grind.{flat_map-append}
use Rattle.std.proofs.lemmas.List.{reverse-append}
use Rattle.std.specs.Fmt.{decimal}
use Rattle.world.specs.declared.event.Event.{Event}
use Rattle.world.specs.declared.event.Event.TheVariants.{Send, Repair, Ask, Deliver, Play, Inject}
use Rattle.world.specs.declared.event.Entry.{Entry}
use Rattle.world.specs.declared.event.Entry.TheVariants.{Sent, SendRefused, Repaired, NoRepair, Asked, NoAsk, Nothing, Delivered, Injected, Played}
use Rattle.world.specs.Config.{Config}
use Rattle.world.specs.Answers.{Item, WorldState, Step, Answers}
use Rattle.lines.specs.ContentText.{octets_text}
use Rattle.lines.specs.LogText.{line_of, octets_in, octets_at, entry_line, log_text}

-- one entry more, behind those before it
pub log_text-append : (log : List Entry) (entry : Entry) (wire : List Item) → log_text (log ++ entry ∷ []) wire ≡ log_text log wire ++ entry_line wire entry
log_text-append log entry wire =
    flat_map-append (entry_line wire) log (entry ∷ []) ∙ ap (λ (x : List ℕ). log_text log wire ++ x) (append-nil (entry_line wire entry))

slice_get-front : {X : Type 0} (xs ys : List X) (i : ℕ) → i < length xs → slice_get (xs ++ ys) i ≡ slice_get xs i
slice_get-front [] ys i h = absurd (omega arith)
slice_get-front (x ∷ xs) ys zero h = refl
slice_get-front (x ∷ xs) ys (suc i) h = slice_get-front xs ys i (omega arith)

-- the wire has the datagram that the entry tells
abbrev pub IsOnWire : Entry → List Item → Type 0
IsOnWire (Sent place index content) wire = index < length wire
IsOnWire (Repaired place index) wire = index < length wire
IsOnWire (Asked index now) wire = index < length wire
IsOnWire entry wire = Unit {0}

-- it has each datagram that the log tells
abbrev pub AreOnWire : List Entry → List Item → Type 0
AreOnWire [] wire = Unit {0}
AreOnWire (entry ∷ log) wire = IsOnWire entry wire × AreOnWire log wire

octets_at-append : (wire more : List Item) (index : ℕ) → index < length wire → octets_at (wire ++ more) index ≡ octets_at wire index
octets_at-append wire more index within = ap octets_in (slice_get-front wire more index within)

-- a wire that grows changes no line
pub entry_line-append : (entry : Entry) (wire more : List Item) → IsOnWire entry wire → entry_line (wire ++ more) entry ≡ entry_line wire entry
entry_line-append (Sent place index content) wire more within =
    ap (λ (octets : List ℕ). line_of (codes "sent" ∷ decimal place ∷ decimal index ∷ octets_text octets ∷ [])) (octets_at-append wire more index within)
entry_line-append (SendRefused fault) wire more within = refl
entry_line-append (Repaired place index) wire more within =
    ap (λ (octets : List ℕ). line_of (codes "repair" ∷ decimal place ∷ decimal index ∷ octets_text octets ∷ [])) (octets_at-append wire more index within)
entry_line-append NoRepair wire more within = refl
entry_line-append (Asked index now) wire more within =
    ap (λ (octets : List ℕ). line_of (codes "ask" ∷ decimal index ∷ octets_text octets ∷ [])) (octets_at-append wire more index within)
entry_line-append (NoAsk now) wire more within = refl
entry_line-append Nothing wire more within = refl
entry_line-append (Delivered index label now answer) wire more within = refl
entry_line-append (Injected end now answer) wire more within = refl
entry_line-append (Played now played) wire more within = refl

pub log_text-grows : (log : List Entry) (wire more : List Item) → AreOnWire log wire → log_text log (wire ++ more) ≡ log_text log wire
log_text-grows [] wire more on = refl
log_text-grows (entry ∷ log) wire more on =
    let line : entry_line (wire ++ more) entry ≡ entry_line wire entry = entry_line-append entry wire more on.0 in
    let rest : log_text log (wire ++ more) ≡ log_text log wire = log_text-grows log wire more on.1 in
    cc

-- what is on a wire stays there
pub IsOnWire-grows : (entry : Entry) (wire more : List Item) → IsOnWire entry wire → IsOnWire entry (wire ++ more)
IsOnWire-grows (Sent place index content) wire more within = omega (arith, length-append wire more)
IsOnWire-grows (SendRefused fault) wire more within = tt
IsOnWire-grows (Repaired place index) wire more within = omega (arith, length-append wire more)
IsOnWire-grows NoRepair wire more within = tt
IsOnWire-grows (Asked index now) wire more within = omega (arith, length-append wire more)
IsOnWire-grows (NoAsk now) wire more within = tt
IsOnWire-grows Nothing wire more within = tt
IsOnWire-grows (Delivered index label now answer) wire more within = tt
IsOnWire-grows (Injected end now answer) wire more within = tt
IsOnWire-grows (Played now played) wire more within = tt

pub AreOnWire-grows : (log : List Entry) (wire more : List Item) → AreOnWire log wire → AreOnWire log (wire ++ more)
AreOnWire-grows [] wire more on = tt
AreOnWire-grows (entry ∷ log) wire more on = (IsOnWire-grows entry wire more on.0, AreOnWire-grows log wire more on.1)

pub AreOnWire-append : (log : List Entry) (entry : Entry) (wire : List Item) → AreOnWire log wire → IsOnWire entry wire → AreOnWire (log ++ entry ∷ []) wire
AreOnWire-append [] entry wire on here = (here, tt)
AreOnWire-append (first ∷ log) entry wire on here = (on.0, AreOnWire-append log entry wire on.1 here)

-- A step only adds to the wire, and the datagram that its entry tells is there.
pub record WireGrows (old new : List Item) (entry : Entry) : Type 0 where
  pub more : List Item
  pub wire : new ≡ old ++ more
  pub on : IsOnWire entry new

-- nothing was added, for an entry that tells no datagram
same_wire : (old new : List Item) (entry : Entry) → new ≡ old → IsOnWire entry new → WireGrows old new entry
same_wire old new entry is on = record { more = []; wire = is ∙ sym (append-nil old); on = on }

pub step-wire : (c : Config) (old : WorldState) (event : Event) (entry : Entry) (new : WorldState) → Step c old event entry new → WireGrows old.wire new.wire entry
step-wire c old (Send content padding) (Sent place index sent) new step =
    let longer : length new.wire ≡ length old.wire + 1 = ap length step.1.wire ∙ length-append old.wire _ in
    record { more = _; wire = step.1.wire; on = omega (arith, step.1.index_is) }
step-wire c old (Send content padding) (SendRefused fault) new step = same_wire _ _ _ (ap (λ (s : WorldState). s.wire) step.1) tt
step-wire c old Repair (Repaired place index) new step =
    let longer : length new.wire ≡ length old.wire + 1 = ap length step.wire ∙ length-append old.wire _ in
    record { more = _; wire = step.wire; on = omega (arith, step.index_is) }
step-wire c old Repair NoRepair new step = same_wire _ _ _ (ap (λ (s : WorldState). s.wire) step.1) tt
step-wire c old (Ask now) (Asked index moment) new step =
    let longer : length new.wire ≡ length old.wire + 1 = ap length step.1.wire ∙ length-append old.wire _ in
    record { more = _; wire = step.1.wire; on = omega (arith, step.1.index_is) }
step-wire c old (Ask now) (NoAsk moment) new step = same_wire _ _ _ (ap (λ (s : WorldState). s.wire) step.2) tt
step-wire c old (Deliver index now) Nothing new step = same_wire _ _ _ (ap (λ (s : WorldState). s.wire) step.1) tt
step-wire c old (Deliver index now) (Delivered at label moment answer) new step = same_wire _ _ _ step.2.wire tt
step-wire c old (Play now) (Played moment played) new step = same_wire _ _ _ step.3 tt
step-wire c old (Inject end datagram now) (Injected at moment answer) new step = same_wire _ _ _ step.3 tt
step-wire c old event entry new step = absurd step

-- a log's text after one step of its world: the line of the step's entry stands behind the text so far
pub record TextGrows (log : List Entry) (old new : List Item) (entry : Entry) : Type 0 where
  pub text : log_text (log ++ entry ∷ []) new ≡ log_text log old ++ entry_line new entry
  pub on : AreOnWire (log ++ entry ∷ []) new

pub log_text-step : (c : Config) (log : List Entry) (old : WorldState) (event : Event) (entry : Entry) (new : WorldState) → AreOnWire log old.wire → Step c old event entry new → TextGrows log old.wire new.wire entry
log_text-step c log old event entry new on step =
    let grows = step-wire c old event entry new step in
    let before : log_text log new.wire ≡ log_text log old.wire = ap (log_text log) grows.wire ∙ log_text-grows log old.wire grows.more on in
    record {
      text = log_text-append log entry new.wire ∙ ap (λ (x : List ℕ). x ++ entry_line new.wire entry) before;
      on = AreOnWire-append log entry new.wire (subst (AreOnWire log) (sym grows.wire) (AreOnWire-grows log old.wire grows.more on)) grows.on;
    }

-- one more event, as code appends it
pub answers_more : (c : Config) (events : List Event) (log : List Entry) (old new : WorldState) (event : Event) (entry : Entry) →
    Answers c (reverse events) (reverse log) old → Step c old event entry new → Answers c (reverse (events ++ event ∷ [])) (reverse (log ++ entry ∷ [])) new
answers_more c events log old new event entry before step =
    subst (λ (x : List Event). Answers c x (reverse (log ++ entry ∷ [])) new) (sym (reverse-append events (event ∷ [])))
    (subst (λ (x : List Entry). Answers c (event ∷ reverse events) x new) (sym (reverse-append log (entry ∷ []))) (old, before, step))
