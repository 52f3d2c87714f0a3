-- How a run over a link goes on, move by move.
use Rattle.std.proofs.Common.{◌≡◌, ℕ, zero, suc, ◌+◌, ◌<◌, Bool, true, false, List, [], ◌++◌, Option, Some, None, if◌then◌else◌, ⊎_elim, refl, sym, ap, subst, ◌∙◌, arith, append-nil, append_assoc}
use Rattle.std.specs.Prelude.{nat_lt}
use Rattle.std.proofs.lemmas.Bool.Decides.{nat_tests}
use Rattle.receiver.specs.declared.answer.Played.{Played}
use Rattle.receiver.specs.declared.answer.Played.TheVariants.{Packet, Gap, Wait}
use Rattle.world.specs.declared.event.End.{End}
use Rattle.world.specs.declared.event.End.TheVariants.{Sender, Receiver}
use Rattle.world.specs.declared.event.Event.{Event}
use Rattle.world.specs.declared.event.Event.TheVariants.{Send, Repair, Ask, Play}
use Rattle.world.specs.declared.event.Entry.{Entry}
use Rattle.world.specs.declared.event.Entry.TheVariants.{Played as Told}
use Rattle.world.specs.Config.{Config}
use Rattle.world.specs.Answers.{Item}
use Rattle.world.specs.Schedule.{numbered_content}
use Rattle.runs.specs.declared.link.Transfer.{Transfer}
use Rattle.runs.specs.Scene.{Scene, Happens}
use Rattle.runs.specs.Playing.{goes, Plays, PlaysOut}
use Rattle.runs.specs.Traffic.{Grows}
use Rattle.runs.specs.Exchange.{written_at, HandsAny, Exchanges, StopsHandingOver, IsInterrupted}
use Rattle.runs.specs.Drive.{Plan, Phase, sending, asking, repairing, playing, done, handing, round_from, send_from, moment_of, is_dropped, after_send, after_ask, after_repair, after_play, Acts, Moves, Goes, Reaches, IsPending, StopsRun}
use Rattle.runs.proofs.TrafficSteps.{grows_nothing, grows_then}

-- ---- moves one after the other

pub goes_then : (c : Config) (plan : Plan) (count more : ℕ) (p q r : Phase) (old mid new : Scene) (xs ys : List Transfer) → Goes c plan count p old xs q mid → Goes c plan more q mid ys r new → (n : ℕ) × Goes c plan n p old (xs ++ ys) r new
goes_then c plan count zero p q r old mid new xs ys first (next, same, none) = (count, rw (next, same, none, append-nil) first)
goes_then c plan count (suc more) p q r old mid new xs ys first (phase, scene, front, last, before, move, is) =
    let whole = goes_then c plan count more p q phase old mid scene xs front first before in
    (suc whole.0, (phase, scene, xs ++ front, last, whole.1, move, ap (λ (zs : List Transfer). xs ++ zs) is ∙ sym (append_assoc xs front last)))

pub reach_nothing : (c : Config) (plan : Plan) (p : Phase) (old : Scene) (a : Option (List Transfer)) → Reaches c plan p old a p old a
reach_nothing c plan p old a = record { count = zero; moved = []; goes = (refl, refl, refl); tells = grows_nothing a }

pub reach_then : (c : Config) (plan : Plan) (p q r : Phase) (old mid new : Scene) (a b d : Option (List Transfer)) → Reaches c plan p old a q mid b → Reaches c plan q mid b r new d → Reaches c plan p old a r new d
reach_then c plan p q r old mid new a b d first more =
    let whole = goes_then c plan first.count more.count p q r old mid new first.moved more.moved first.goes more.goes in
    record { count = whole.0; moved = first.moved ++ more.moved; goes = whole.1; tells = grows_then a b d first.moved more.moved first.tells more.tells }

pub one_move : (c : Config) (plan : Plan) (p q : Phase) (old new : Scene) (moved : List Transfer) (a b : Option (List Transfer)) → Moves c plan p old moved q new → Grows a moved b → Reaches c plan p old a q new b
one_move c plan p q old new moved a b move grows = record { count = suc zero; moved = moved; goes = (p, old, [], moved, (refl, refl, refl), move, refl); tells = grows }

-- ---- where a run stops

nothing_pending : (p : Phase) (wire : List Item) → IsPending p wire []
nothing_pending (sending number) wire = refl
nothing_pending (asking round) wire = refl
nothing_pending (repairing round) wire = refl
nothing_pending playing wire = refl
nothing_pending done wire = refl
nothing_pending (handing to index now after) wire = tt

pub stops_at : (c : Config) (plan : Plan) (p q : Phase) (old new : Scene) (a b : Option (List Transfer)) → Reaches c plan p old a q new b → StopsRun c plan p old a new b
stops_at c plan p q old new a b r =
    record { next = q; count = r.count; moved = r.moved; begun = []; goes = r.goes; pending = nothing_pending q new.stand.wire; tells = subst (λ (xs : List Transfer). Grows a xs b) (sym (append-nil r.moved)) r.tells }

-- it stops where it began
pub stops_here : (c : Config) (plan : Plan) (p : Phase) (old new : Scene) (a b : Option (List Transfer)) → new ≡ old → b ≡ a → StopsRun c plan p old a new b
stops_here c plan p old new a b same told = rw (same, told) (stops_at c plan p p old old a a (reach_nothing c plan p old a))

pub reach_stops : (c : Config) (plan : Plan) (p q : Phase) (old mid new : Scene) (a b d : Option (List Transfer)) → Reaches c plan p old a q mid b → StopsRun c plan q mid b new d → StopsRun c plan p old a new d
reach_stops c plan p q old mid new a b d first stop =
    let whole = goes_then c plan first.count stop.count p q stop.next old mid new first.moved stop.moved first.goes stop.goes in
    record {
      next = stop.next;
      count = whole.0;
      moved = first.moved ++ stop.moved;
      begun = stop.begun;
      goes = whole.1;
      pending = stop.pending;
      tells = subst (λ (xs : List Transfer). Grows a xs d) (sym (append_assoc first.moved stop.moved stop.begun)) (grows_then a b d first.moved (stop.moved ++ stop.begun) first.tells stop.tells);
    }

-- ---- an event, and what it wrote

-- the event moves nothing
acts_reach : (c : Config) (plan : Plan) (p q : Phase) (event : Event) (after : Entry → Phase) (entry : Entry) (old new : Scene) (a : Option (List Transfer))
    → ((moved : List Transfer) (next : Phase) → Acts c old event after moved next new → Moves c plan p old moved next new) → Happens c old event entry new → after entry ≡ q → Reaches c plan p old a q new a
acts_reach c plan p q event after entry old new a acts happens next =
    one_move c plan p q old new [] a a (acts [] q (record { entry = entry; happens = happens; unmoved = refl; next_is = sym next })) (grows_nothing a)

module _ (c : Config) (plan : Plan) (p next idle : Phase) (event : Event) (to : End) (now : ℕ) (after : Entry → Phase)
    (acts : (old new : Scene) (moved : List Transfer) (q : Phase) → Acts c old event after moved q new → Moves c plan p old moved q new)
    (none : (entry : Entry) → written_at entry ≡ None → after entry ≡ idle)
    (some : (entry : Entry) (index : ℕ) → written_at entry ≡ Some index → after entry ≡ handing to index now next) where
  handed : (written : Option ℕ) (entry : Entry) (went : Bool) (old mid new : Scene) (moved : List Transfer) (a b : Option (List Transfer)) → written_at entry ≡ written → Happens c old event entry mid
      → HandsAny c to now written went mid moved new → Grows a moved b → Reaches c plan p old a (if went then next else idle) new b
  handed None entry went old mid new moved a b is happens (not_went, same, unmoved) grows =
      let first = acts_reach c plan p idle event after entry old mid a (acts old mid) happens (none entry is) in
      let nothing : Reaches c plan idle mid a idle new b = record { count = zero; moved = moved; goes = (refl, same, unmoved); tells = grows } in
      subst (λ (w : Bool). Reaches c plan p old a (if w then next else idle) new b) (sym not_went) (reach_then c plan p idle idle old mid new a a b first nothing)
  handed (Some index) entry went old mid new moved a b is happens (has_gone, hands) grows =
      let first = acts_reach c plan p (handing to index now next) event after entry old mid a (acts old mid) happens (some entry index is) in
      let over = one_move c plan (handing to index now next) next mid new moved a b (hands, refl) grows in
      subst (λ (w : Bool). Reaches c plan p old a (if w then next else idle) new b) (sym has_gone) (reach_then c plan p (handing to index now next) next old mid new a a b first over)

  pub exchange_reaches : (went : Bool) (old new : Scene) (a b : Option (List Transfer)) → Exchanges c event to now old a went new b → Reaches c plan p old a (if went then next else idle) new b
  exchange_reaches went old new a b e = handed (written_at e.entry) e.entry went old e.mid new e.moved a b refl e.happens e.hands e.tells

  broken : (old new : Scene) (a b : Option (List Transfer)) → StopsHandingOver c event to old a new b → StopsRun c plan p old a new b
  broken old new a b e =
      let first = acts_reach c plan p (handing to e.index now next) event after e.entry old new a (acts old new) e.happens (some e.entry e.index e.written) in
      reach_stops c plan p (handing to e.index now next) old new new a a b first
      (record { next = handing to e.index now next; count = zero; moved = []; begun = e.begun; goes = (refl, refl, refl); pending = e.pending; tells = e.tells })

  pub exchange_stops : (old new : Scene) (a b : Option (List Transfer)) → IsInterrupted c event to old a new b → StopsRun c plan p old a new b
  exchange_stops old new a b breaks = ⊎_elim (λ (same : (new ≡ old) × (b ≡ a)). stops_here c plan p old new a b same.0 same.1) (broken old new a b) breaks

either : (b : Bool) (p : Phase) → (if b then p else p) ≡ p
either true p = refl
either false p = refl

-- ---- packets

send_none : (plan : Plan) (number : ℕ) (entry : Entry) → is_dropped plan number ≡ false → written_at entry ≡ None → after_send plan number entry ≡ send_from plan (number + 1)
send_none plan number entry kept is = rw (kept, is) refl

send_some : (plan : Plan) (number : ℕ) (entry : Entry) (index : ℕ) → is_dropped plan number ≡ false → written_at entry ≡ Some index → after_send plan number entry ≡ handing Receiver index number (send_from plan (number + 1))
send_some plan number entry index kept is = rw (kept, is) refl

pub send_reaches : (c : Config) (plan : Plan) (number : ℕ) (went : Bool) (old new : Scene) (a b : Option (List Transfer)) → is_dropped plan number ≡ false
    → Exchanges c (Send (numbered_content number) 0) Receiver number old a went new b → Reaches c plan (sending number) old a (send_from plan (number + 1)) new b
send_reaches c plan number went old new a b kept e =
    subst (λ (q : Phase). Reaches c plan (sending number) old a q new b) (either went (send_from plan (number + 1)))
    (exchange_reaches c plan (sending number) (send_from plan (number + 1)) (send_from plan (number + 1)) (Send (numbered_content number) 0) Receiver number (after_send plan number) (λ old new moved q acts. acts)
    (λ entry is. send_none plan number entry kept is) (λ entry index is. send_some plan number entry index kept is) went old new a b e)

pub send_stops : (c : Config) (plan : Plan) (number : ℕ) (old new : Scene) (a b : Option (List Transfer)) → is_dropped plan number ≡ false
    → IsInterrupted c (Send (numbered_content number) 0) Receiver old a new b → StopsRun c plan (sending number) old a new b
send_stops c plan number old new a b kept e =
    exchange_stops c plan (sending number) (send_from plan (number + 1)) (send_from plan (number + 1)) (Send (numbered_content number) 0) Receiver number (after_send plan number) (λ old new moved q acts. acts)
    (λ entry is. send_none plan number entry kept is) (λ entry index is. send_some plan number entry index kept is) old new a b e

-- a packet that is dropped
pub drop_reaches : (c : Config) (plan : Plan) (number : ℕ) (entry : Entry) (old new : Scene) (a : Option (List Transfer)) → is_dropped plan number ≡ true
    → Happens c old (Send (numbered_content number) 0) entry new → Reaches c plan (sending number) old a (send_from plan (number + 1)) new a
drop_reaches c plan number entry old new a dropped happens =
    acts_reach c plan (sending number) (send_from plan (number + 1)) (Send (numbered_content number) 0) (after_send plan number) entry old new a (λ moved q acts. acts) happens (rw dropped refl)

pub send_from_below : (plan : Plan) (number : ℕ) → number < plan.packets → send_from plan number ≡ sending number
send_from_below plan number below = let h : nat_lt number plan.packets ≡ true = grind (arith, nat_tests) in rw h refl

pub send_from_end : (plan : Plan) → send_from plan plan.packets ≡ round_from 0
send_from_end plan = let h : nat_lt plan.packets plan.packets ≡ false = grind (arith, nat_tests) in rw h refl

-- ---- rounds

pub round_from_below : (round : ℕ) → round < 3 → round_from round ≡ asking round
round_from_below round below = let h : nat_lt round 3 ≡ true = grind (arith, nat_tests) in rw h refl

ask_none : (plan : Plan) (round : ℕ) (entry : Entry) → written_at entry ≡ None → after_ask plan round entry ≡ repairing round
ask_none plan round entry is = rw is refl

ask_some : (plan : Plan) (round : ℕ) (entry : Entry) (index : ℕ) → written_at entry ≡ Some index → after_ask plan round entry ≡ handing Sender index (moment_of plan round) (repairing round)
ask_some plan round entry index is = rw is refl

pub ask_reaches : (c : Config) (plan : Plan) (round now : ℕ) (went : Bool) (old new : Scene) (a b : Option (List Transfer)) → moment_of plan round ≡ now
    → Exchanges c (Ask now) Sender now old a went new b → Reaches c plan (asking round) old a (repairing round) new b
ask_reaches c plan round now went old new a b at e =
    subst (λ (q : Phase). Reaches c plan (asking round) old a q new b) (either went (repairing round))
    (exchange_reaches c plan (asking round) (repairing round) (repairing round) (Ask (moment_of plan round)) Sender (moment_of plan round) (after_ask plan round) (λ old new moved q acts. acts)
    (ask_none plan round) (ask_some plan round) went old new a b (subst (λ n. Exchanges c (Ask n) Sender n old a went new b) (sym at) e))

pub ask_stops : (c : Config) (plan : Plan) (round now : ℕ) (old new : Scene) (a b : Option (List Transfer)) → moment_of plan round ≡ now
    → IsInterrupted c (Ask now) Sender old a new b → StopsRun c plan (asking round) old a new b
ask_stops c plan round now old new a b at e =
    exchange_stops c plan (asking round) (repairing round) (repairing round) (Ask (moment_of plan round)) Sender (moment_of plan round) (after_ask plan round) (λ old new moved q acts. acts)
    (ask_none plan round) (ask_some plan round) old new a b (subst (λ n. IsInterrupted c (Ask n) Sender old a new b) (sym at) e)

repair_none : (plan : Plan) (round : ℕ) (entry : Entry) → written_at entry ≡ None → after_repair plan round entry ≡ round_from (round + 1)
repair_none plan round entry is = rw is refl

repair_some : (plan : Plan) (round : ℕ) (entry : Entry) (index : ℕ) → written_at entry ≡ Some index → after_repair plan round entry ≡ handing Receiver index (moment_of plan round) (repairing round)
repair_some plan round entry index is = rw is refl

repair_reaches : (c : Config) (plan : Plan) (round now : ℕ) (went : Bool) (old new : Scene) (a b : Option (List Transfer)) → moment_of plan round ≡ now
    → Exchanges c Repair Receiver now old a went new b → Reaches c plan (repairing round) old a (if went then repairing round else round_from (round + 1)) new b
repair_reaches c plan round now went old new a b at e =
    exchange_reaches c plan (repairing round) (repairing round) (round_from (round + 1)) Repair Receiver (moment_of plan round) (after_repair plan round) (λ old new moved q acts. acts)
    (repair_none plan round) (repair_some plan round) went old new a b (subst (λ n. Exchanges c Repair Receiver n old a went new b) (sym at) e)

-- it retransmitted
pub repair_again : (c : Config) (plan : Plan) (round now : ℕ) (went : Bool) (old new : Scene) (a b : Option (List Transfer)) → moment_of plan round ≡ now → went ≡ true
    → Exchanges c Repair Receiver now old a went new b → Reaches c plan (repairing round) old a (repairing round) new b
repair_again c plan round now went old new a b at is e =
    subst (λ (w : Bool). Reaches c plan (repairing round) old a (if w then repairing round else round_from (round + 1)) new b) is (repair_reaches c plan round now went old new a b at e)

-- there was nothing to retransmit
pub repair_over : (c : Config) (plan : Plan) (round now : ℕ) (went : Bool) (old new : Scene) (a b : Option (List Transfer)) → moment_of plan round ≡ now → went ≡ false
    → Exchanges c Repair Receiver now old a went new b → Reaches c plan (repairing round) old a (round_from (round + 1)) new b
repair_over c plan round now went old new a b at is e =
    subst (λ (w : Bool). Reaches c plan (repairing round) old a (if w then repairing round else round_from (round + 1)) new b) is (repair_reaches c plan round now went old new a b at e)

pub repair_stops : (c : Config) (plan : Plan) (round now : ℕ) (old new : Scene) (a b : Option (List Transfer)) → moment_of plan round ≡ now
    → IsInterrupted c Repair Receiver old a new b → StopsRun c plan (repairing round) old a new b
repair_stops c plan round now old new a b at e =
    exchange_stops c plan (repairing round) (repairing round) (round_from (round + 1)) Repair Receiver (moment_of plan round) (after_repair plan round) (λ old new moved q acts. acts)
    (repair_none plan round) (repair_some plan round) old new a b e

-- ---- playing

after_goes : (now : ℕ) (played : Played) → goes played ≡ true → after_play (Told now played) ≡ playing
after_goes now (Packet place content) goes_on = refl
after_goes now (Gap place) goes_on = refl
after_goes now Wait goes_on = absurd cc

pub plays_reach : (c : Config) (plan : Plan) (now count : ℕ) (old new : Scene) (a : Option (List Transfer)) → moment_of plan 2 ≡ now → Plays c now count old new → Reaches c plan playing old a playing new a
plays_reach c plan now zero old new a at same = subst (λ (s : Scene). Reaches c plan playing old a playing s a) (sym same) (reach_nothing c plan playing old a)
plays_reach c plan now (suc count) old new a at (mid, played, before, happens, goes_on) =
    reach_then c plan playing playing playing old mid new a a a (plays_reach c plan now count old mid a at before)
    (acts_reach c plan playing playing (Play (moment_of plan 2)) after_play (Told now played) mid new a (λ moved q acts. acts) (subst (λ n. Happens c mid (Play n) (Told now played) new) (sym at) happens) (after_goes now played goes_on))

pub plays_out : (c : Config) (plan : Plan) (now : ℕ) (old new : Scene) (a : Option (List Transfer)) → moment_of plan 2 ≡ now → PlaysOut c now old new → Reaches c plan playing old a done new a
plays_out c plan now old new a at p =
    reach_then c plan playing playing done old p.mid new a a a (plays_reach c plan now p.count old p.mid a at p.plays)
    (acts_reach c plan playing done (Play (moment_of plan 2)) after_play (Told now Wait) p.mid new a (λ moved q acts. acts) (subst (λ n. Happens c p.mid (Play n) (Told now Wait) new) (sym at) p.waits) refl)
