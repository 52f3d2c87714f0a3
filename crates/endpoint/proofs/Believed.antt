-- What the receiver of an endpoint was handed is what was believed.
use Rattle.std.proofs.Common.{◌≡◌, ℕ, zero, suc, ◌+◌, ◌&&◌, inl, inr, Bool, true, false, nat_lt, List, [], ◌∷◌, Option, Some, None, Result, Ok, Err, refl, sym, ap, subst, ◌∙◌, arith, if◌then◌else◌}
use Rattle.std.proofs.lemmas.Bool.{ne_eqb}
use Rattle.std.proofs.Math.Numerals.{add-one}
use Rattle.receiver.specs.declared.answer.Taken.{Taken}
use Rattle.receiver.specs.declared.fault.ReceiveFault.{ReceiveFault}
use Rattle.receiver.specs.Config.{Config}
use Rattle.stores.specs.Span.{highest_of}
use Rattle.receiver.specs.Receiver.{Receiving, restarted, with_times}
use Rattle.endpoint.specs.declared.probation.Probation.{Probation}
use Rattle.endpoint.specs.declared.seen_packets.SeenPacket.{SeenPacket}
use Rattle.endpoint.specs.declared.holding.Run.{Run}
use Rattle.endpoint.specs.declared.heard.Heard.{Heard}
use Rattle.endpoint.specs.declared.heard.Heard.TheVariants.{HeldBack, Restarted}
use Rattle.endpoint.specs.Demultiplex.{is_control}
use Rattle.endpoint.specs.Probation.{goes_on as near, wanted_of_run}
use Rattle.endpoint.specs.Receiving.{Ends, Handed, AfterHeld, Believes, HearsWanted, HoldsBack, HearsPacket, HearsKind, HearsUnless, follows, spare_before, run_before, run_after, run_refused, wants_more, as_heard, held_answer, held_ends, kept_in, skipped_at}
use Rattle.endpoint.specs.Events.{Event, Endpoint, Steps, RunsOver, heard, played, asked, begun_at, restarted_by_call, unlearnt_by_call, timed}
use Rattle.endpoint.specs.Ledger.{Deed, takes, plays, asks, begins, forgets, sets, IsPlain, Does, Reached, Ledger, at_core, noted, held_before, ledger}

-- what is held back, where something is
abbrev HeldSo : (capacity : ℕ) → List Deed → (count : ℕ) → Receiving → Type 0
HeldSo capacity deeds zero r = Unit {0}
HeldSo capacity deeds (suc more) r = Reached capacity deeds r

-- the books agree with both receivers
record Agrees (capacity : ℕ) (l : Ledger) (ends : Ends) : Type 0 where
  core : Reached capacity l.core ends.core
  held : HeldSo capacity l.held ends.run.count ends.spare
  core_room : ends.core.span.capacity ≡ capacity
  spare_room : ends.spare.span.capacity ≡ capacity

err_heard : (number : Option ℕ) (fault : ReceiveFault) → as_heard number (Err fault) ≡ Err fault
err_heard None fault = refl
err_heard (Some seq) fault = refl

module _ (capacity : ℕ) (octets : List ℕ) (now : ℕ) where
  held_more : (count : ℕ) (deeds : List Deed) (r : Receiving) → Reached capacity deeds r → HeldSo capacity deeds (count + 1) r
  held_more count deeds r reached = subst (λ (n : ℕ). HeldSo capacity deeds n r) (sym (add-one count)) reached

  -- a packet that a receiver took
  one_more : (deeds : List Deed) (plain : List ℕ) (taken : Taken) (old new : Receiving)
      → IsPlain octets plain → Reached capacity deeds old → Handed old plain now (Ok taken) new → Reached capacity (takes octets now ∷ deeds) new
  one_more deeds plain taken old new is_plain before handed =
      record { old = old; before = before; does = record { plain = plain; is_plain = is_plain; taken = taken; handed = handed } }

  -- a receiver over the same memory that took nothing
  anew : (r : Receiving) → r.span.capacity ≡ capacity → Reached capacity [] (restarted r)
  anew r room = record { config = r.config; is = ap (λ (n : ℕ). record { config = r.config; span = record { cursor = None; slots = []; capacity = n }; learnt = None }) room }

  not_first : (more : ℕ) (deeds : List Deed) → held_before (suc more + 1) deeds ≡ deeds
  not_first more deeds = ap (λ (b : Bool). if b then [] else deeds) (ne_eqb (suc more + 1) 1 (omega arith))

  -- what is held back with this packet, where it goes on with others, and where it is the first
  goes_on : (count : ℕ) (near : Bool) (deeds : List Deed) (plain : List ℕ) (taken : Taken) (spare mid : Receiving)
      → (nat_lt 0 count && near) ≡ true → HeldSo capacity deeds count spare → IsPlain octets plain → Handed spare plain now (Ok taken) mid
      → Reached capacity (takes octets now ∷ held_before (count + 1) deeds) mid
  goes_on zero near deeds plain taken spare mid follow held is_plain handed = absurd cc
  goes_on (suc more) near deeds plain taken spare mid follow held is_plain handed =
      subst (λ (ds : List Deed). Reached capacity (takes octets now ∷ ds) mid) (sym (not_first more deeds)) (one_more deeds plain taken spare mid is_plain held handed)

  held_so : (p : Probation) (old : Ends) (wanted seq : ℕ) (l : Ledger) (plain : List ℕ) (taken : Taken) (mid : Receiving) (follow : Bool)
      → follows p old.run (highest_of old.spare.span) seq ≡ follow → IsPlain octets plain → Agrees capacity l old
      → Handed (if follow then old.spare else restarted old.spare) plain now (Ok taken) mid
      → Reached capacity (takes octets now ∷ held_before ((if follow then old.run else record { count = 0; wanted = wanted_of_run p.silence p wanted; next = seq; last = old.run.last }).count + 1) l.held) mid
  held_so p old wanted seq l plain taken mid true so is_plain agrees handed =
      goes_on old.run.count (near p.silence p (highest_of old.spare.span) old.run.next seq) l.held plain taken old.spare mid so agrees.held is_plain handed
  held_so p old wanted seq l plain taken mid false so is_plain agrees handed = one_more [] plain taken (restarted old.spare) mid is_plain (anew old.spare agrees.spare_room) handed

  spare_kept : (old : Ends) (seq : ℕ) (follow : Bool) → old.spare.span.capacity ≡ capacity → (if follow then old.spare else restarted old.spare).span.capacity ≡ capacity
  spare_kept old seq true room = room
  spare_kept old seq false room = room

  -- one more that is held back, or the restart
  counted_so : (more : Bool) (old : Ends) (run : Run) (seq : ℕ) (l : Ledger) (taken : Taken) (mid : Receiving) (answer : Result Heard ReceiveFault) (new : Ends)
      → Agrees capacity l old → mid.span.capacity ≡ capacity
      → Reached capacity (takes octets now ∷ held_before (run.count + 1) l.held) mid
      → answer ≡ Ok (held_answer more taken (run.count + 1) (kept_in old.core.span) (skipped_at (highest_of old.core.span) mid.span.cursor taken.overrun)) → new ≡ held_ends more old mid run seq now
      → Agrees capacity (noted (heard octets now answer) l) new
  counted_so true old run seq l taken mid answer new agrees room reached answered is =
      subst (λ (a : Result Heard ReceiveFault). Agrees capacity (noted (heard octets now a) l) new) (sym answered)
      (subst (Agrees capacity (noted (heard octets now (Ok (HeldBack (run.count + 1)))) l)) (sym is)
      (record { core = agrees.core; held = held_more run.count (takes octets now ∷ held_before (run.count + 1) l.held) mid reached; core_room = agrees.core_room; spare_room = room }))
  counted_so false old run seq l taken mid answer new agrees room reached answered is =
      subst (λ (a : Result Heard ReceiveFault). Agrees capacity (noted (heard octets now a) l) new) (sym answered)
      (subst (Agrees capacity (noted (heard octets now (Ok (Restarted (record { taken = taken; held = run.count + 1; abandoned = kept_in old.core.span; skipped = skipped_at (highest_of old.core.span) mid.span.cursor taken.overrun })))) l)) (sym is)
      (record { core = reached; held = tt; core_room = room; spare_room = agrees.core_room }))

  -- what a refusal leaves of what is held back
  left_so : (silence : Option ℕ) (deeds : List Deed) (run : Run) (r : Receiving) → HeldSo capacity deeds run.count r → HeldSo capacity deeds (run_refused silence run).count r
  left_so None deeds run r held = tt
  left_so (Some span) deeds run r held = held

  refused_so : (p : Probation) (old : Ends) (wanted seq : ℕ) (deeds : List Deed) (mid : Receiving) (follow : Bool) → HeldSo capacity deeds old.run.count old.spare
      → mid ≡ (if follow then old.spare else restarted old.spare)
      → HeldSo capacity deeds (if follow then old.run else record { count = 0; wanted = wanted_of_run p.silence p wanted; next = seq; last = old.run.last }).count mid
  refused_so p old wanted seq deeds mid true held same = subst (HeldSo capacity deeds old.run.count) (sym same) held
  refused_so p old wanted seq deeds mid false held same = tt

  -- a packet that is not believed
  holds_so : (p : Probation) (old : Ends) (wanted seq : ℕ) (plain : List ℕ) (l : Ledger) (answer : Result Heard ReceiveFault) (new : Ends)
      → IsPlain octets plain → Agrees capacity l old → HoldsBack p old wanted seq plain now answer new → Agrees capacity (noted (heard octets now answer) l) new
  holds_so p old wanted seq plain l answer new is_plain agrees held = by_taken held.taken held.handed held.after
    where
      room : (taken : Result Taken ReceiveFault) → Handed (spare_before p old.spare old.run seq) plain now taken held.mid → held.mid.span.capacity ≡ capacity
      room taken handed = handed.stays.capacity ∙ spare_kept old seq (follows p old.run (highest_of old.spare.span) seq) agrees.spare_room

      by_taken : (taken : Result Taken ReceiveFault) → Handed (spare_before p old.spare old.run seq) plain now taken held.mid
          → AfterHeld p old held.mid (run_before p old.run (highest_of old.spare.span) wanted seq) seq now taken answer new → Agrees capacity (noted (heard octets now answer) l) new
      by_taken (Ok taken) handed after =
          counted_so (wants_more p (run_before p old.run (highest_of old.spare.span) wanted seq) now) old (run_before p old.run (highest_of old.spare.span) wanted seq) seq l taken held.mid answer new agrees (room (Ok taken) handed)
          (held_so p old wanted seq l plain taken held.mid (follows p old.run (highest_of old.spare.span) seq) refl is_plain agrees handed) after.0 after.1
      by_taken (Err fault) handed after =
          let kept = refused_so p old wanted seq l.held held.mid (follows p old.run (highest_of old.spare.span) seq) agrees.held handed.refused in
          subst (λ (a : Result Heard ReceiveFault). Agrees capacity (noted (heard octets now a) l) new) (sym after.0)
          (subst (Agrees capacity l) (sym after.1)
          (record {
            core = agrees.core;
            held = left_so p.silence l.held (run_before p old.run (highest_of old.spare.span) wanted seq) held.mid kept;
            core_room = agrees.core_room;
            spare_room = room (Err fault) handed;
          }))

  -- a packet that is believed
  held_after : (silence number : Option ℕ) (taken : Result Taken ReceiveFault) (run : Run) (deeds : List Deed) (spare : Receiving) → HeldSo capacity deeds run.count spare →
      HeldSo capacity deeds (run_after silence number taken now run).count spare
  held_after silence None taken run deeds spare held = held
  held_after silence (Some seq) (Ok taken) run deeds spare held = tt
  held_after silence (Some seq) (Err fault) run deeds spare held = left_so silence deeds run spare held

  believed_so : (p : Probation) (number : Option ℕ) (old : Ends) (plain : List ℕ) (l : Ledger) (answer : Result Heard ReceiveFault) (new : Ends)
      → IsPlain octets plain → Agrees capacity l old → Believes p old number plain now answer new → Agrees capacity (noted (heard octets now answer) l) new
  believed_so p number old plain l answer new is_plain agrees believes = by_taken number believes.taken believes.handed believes.answered believes.run
    where
      held : (n : Option ℕ) (taken : Result Taken ReceiveFault) → new.run ≡ run_after p.silence n taken now old.run → HeldSo capacity l.held new.run.count new.spare
      held n taken run =
          subst (λ (r : Run). HeldSo capacity l.held r.count new.spare) (sym run)
          (subst (HeldSo capacity l.held (run_after p.silence n taken now old.run).count) (sym believes.spare) (held_after p.silence n taken old.run l.held old.spare agrees.held))

      spare_room : new.spare.span.capacity ≡ capacity
      spare_room = ap (λ (r : Receiving). r.span.capacity) believes.spare ∙ agrees.spare_room

      took : (n : Option ℕ) (taken : Taken) → Handed old.core plain now (Ok taken) new.core → new.run ≡ run_after p.silence n (Ok taken) now old.run → Agrees capacity (at_core (takes octets now) l) new
      took n taken handed run =
          record { core = one_more l.core plain taken old.core new.core is_plain agrees.core handed; held = held n (Ok taken) run; core_room = handed.stays.capacity ∙ agrees.core_room; spare_room = spare_room }

      by_taken : (n : Option ℕ) (taken : Result Taken ReceiveFault) → Handed old.core plain now taken new.core → answer ≡ as_heard n taken → new.run ≡ run_after p.silence n taken now old.run
          → Agrees capacity (noted (heard octets now answer) l) new
      by_taken None (Ok taken) handed answered run = subst (λ (a : Result Heard ReceiveFault). Agrees capacity (noted (heard octets now a) l) new) (sym answered) (took None taken handed run)
      by_taken (Some seq) (Ok taken) handed answered run = subst (λ (a : Result Heard ReceiveFault). Agrees capacity (noted (heard octets now a) l) new) (sym answered) (took (Some seq) taken handed run)
      by_taken n (Err fault) handed answered run =
          subst (λ (a : Result Heard ReceiveFault). Agrees capacity (noted (heard octets now a) l) new) (sym (answered ∙ err_heard n fault))
          (record { core = subst (Reached capacity l.core) (sym handed.refused) agrees.core; held = held n (Err fault) run; core_room = handed.stays.capacity ∙ agrees.core_room; spare_room = spare_room })

  wanted_so : (p : Probation) (wanted : ℕ) (number : Option ℕ) (old : Ends) (plain : List ℕ) (l : Ledger) (answer : Result Heard ReceiveFault) (new : Ends)
      → IsPlain octets plain → Agrees capacity l old → HearsWanted p old wanted number plain now answer new → Agrees capacity (noted (heard octets now answer) l) new
  wanted_so p wanted None old plain l answer new is_plain agrees hears = believed_so p None old plain l answer new is_plain agrees hears
  wanted_so p zero (Some seq) old plain l answer new is_plain agrees hears = believed_so p (Some seq) old plain l answer new is_plain agrees hears
  wanted_so p (suc more) (Some seq) old plain l answer new is_plain agrees hears = holds_so p old (suc more) seq plain l answer new is_plain agrees hears

  unless_so : (repeat : Bool) (p : Probation) (wanted : ℕ) (number : Option ℕ) (old : Ends) (plain : List ℕ) (l : Ledger) (answer : Result Heard ReceiveFault) (new : Ends)
      → IsPlain octets plain → Agrees capacity l old → HearsUnless repeat p old wanted number plain now answer new → Agrees capacity (noted (heard octets now answer) l) new
  unless_so true p wanted number old plain l answer new is_plain agrees hears =
      subst (λ (a : Result Heard ReceiveFault). Agrees capacity (noted (heard octets now a) l) new) (sym hears.0) (subst (Agrees capacity l) (sym hears.1) agrees)
  unless_so false p wanted number old plain l answer new is_plain agrees hears = wanted_so p wanted number old plain l answer new is_plain agrees hears

  packet_so : (p : Probation) (seen : List (Option SeenPacket)) (old : Ends) (plain : List ℕ) (l : Ledger) (answer : Result Heard ReceiveFault) (new : Ends)
      → IsPlain octets plain → Agrees capacity l old → HearsPacket p seen old plain now answer new → Agrees capacity (noted (heard octets now answer) l) new
  packet_so p seen old plain l answer new is_plain agrees hears = unless_so _ p _ hears.number old plain l answer new is_plain agrees hears.heard

  kind_so : (control : Bool) (p : Probation) (seen : List (Option SeenPacket)) (old : Ends) (plain : Option (List ℕ)) (l : Ledger) (answer : Result Heard ReceiveFault) (new : Ends)
      → Agrees capacity l old → HearsKind control p seen old plain octets now answer new → Agrees capacity (noted (heard octets now answer) l) new
  kind_so true p seen old plain l answer new agrees hears =
      subst (λ (a : Result Heard ReceiveFault). Agrees capacity (noted (heard octets now a) l) new) (sym hears.0) (subst (Agrees capacity l) (sym hears.1) agrees)
  kind_so false p seen old None l answer new agrees hears = packet_so p seen old octets l answer new (inl refl) agrees hears.1
  kind_so false p seen old (Some plain) l answer new agrees hears = packet_so p seen old plain l answer new (inr hears.0) agrees hears.1

module _ (capacity : ℕ) where
  -- a call that reaches the receiver alone
  core_so : (deed : Deed) (l : Ledger) (old new : Ends) → Agrees capacity l old → Does deed old.core new.core → new.core.span.capacity ≡ old.core.span.capacity
      → new.spare ≡ old.spare → new.run ≡ old.run → Agrees capacity (at_core deed l) new
  core_so deed l old new agrees does room spare run =
      record {
        core = record { old = old.core; before = agrees.core; does = does };
        held = subst (λ (r : Run). HeldSo capacity l.held r.count new.spare) (sym run) (subst (HeldSo capacity l.held old.run.count) (sym spare) agrees.held);
        core_room = room ∙ agrees.core_room;
        spare_room = ap (λ (r : Receiving). r.span.capacity) spare ∙ agrees.spare_room;
      }

  held_timed : (count : ℕ) (deeds : List Deed) (patience delay retry : ℕ) (old new : Receiving) → HeldSo capacity deeds count old → new ≡ with_times old patience delay retry
      → HeldSo capacity (sets patience delay retry ∷ deeds) count new
  held_timed zero deeds patience delay retry old new held is = tt
  held_timed (suc more) deeds patience delay retry old new held is = record { old = old; before = held; does = is }

  stepped : (p : Probation) (event : Event) (l : Ledger) (old new : Endpoint) → Agrees capacity l old.ends → Steps p event old new → Agrees capacity (noted event l) new.ends
  stepped p (heard octets now answer) l old new agrees steps = kind_so capacity octets now (is_control octets) p old.seen old.ends steps.hears.plain l answer new.ends agrees steps.hears.heard
  stepped p (played now answer) l old new agrees steps =
      core_so (plays now) l old.ends new.ends agrees (record { answer = answer; plays = steps.plays; stays = steps.stays }) steps.stays.capacity steps.rest.spare steps.rest.run
  stepped p (asked now most answer places) l old new agrees steps =
      core_so (asks now most) l old.ends new.ends agrees (record { answer = answer; asks = steps.asks; stays = steps.stays }) steps.stays.capacity steps.rest.spare steps.rest.run
  stepped p (begun_at first) l old new agrees steps =
      core_so (begins first) l old.ends new.ends agrees steps.begins (ap (λ (r : Receiving). r.span.capacity) steps.begins) steps.rest.spare steps.rest.run
  stepped p restarted_by_call l old new agrees steps =
      record {
        core = subst (Reached capacity []) (sym steps.core) (anew capacity [] 0 old.ends.core agrees.core_room);
        held = subst (λ (r : Run). HeldSo capacity [] r.count new.ends.spare) (sym steps.run) tt;
        core_room = ap (λ (r : Receiving). r.span.capacity) steps.core ∙ agrees.core_room;
        spare_room = ap (λ (r : Receiving). r.span.capacity) steps.spare ∙ agrees.spare_room;
      }
  stepped p unlearnt_by_call l old new agrees steps =
      core_so forgets l old.ends new.ends agrees steps.core (ap (λ (r : Receiving). r.span.capacity) steps.core) steps.rest.spare steps.rest.run
  stepped p (timed patience delay retry) l old new agrees steps =
      record {
        core = record { old = old.ends.core; before = agrees.core; does = steps.core };
        held = subst (λ (r : Run). HeldSo capacity (sets patience delay retry ∷ l.held) r.count new.ends.spare) (sym steps.run) (held_timed old.ends.run.count l.held patience delay retry old.ends.spare new.ends.spare agrees.held steps.spare);
        core_room = ap (λ (r : Receiving). r.span.capacity) steps.core ∙ agrees.core_room;
        spare_room = ap (λ (r : Receiving). r.span.capacity) steps.spare ∙ agrees.spare_room;
      }

  agrees_throughout : (c : Config) (p : Probation) (events : List Event) (e : Endpoint) → RunsOver c capacity p events e → Agrees capacity (ledger events) e.ends
  agrees_throughout c p [] e runs =
      subst (λ (x : Endpoint). Agrees capacity (ledger []) x.ends) (sym runs) (record { core = record { config = c; is = refl }; held = tt; core_room = refl; spare_room = refl })
  agrees_throughout c p (event ∷ before) e runs = stepped p event (ledger before) runs.old e (agrees_throughout c p before runs.old runs.before) runs.steps

  pub believed : (c : Config) (p : Probation) (events : List Event) (e : Endpoint) → RunsOver c capacity p events e → Reached capacity (ledger events).core e.ends.core
  believed c p events e runs = (agrees_throughout c p events e runs).core
