-- Every number of a stream is in a count.
use Rattle.std.proofs.Common.{◌≡◌, ℕ, zero, suc, ◌+◌, ◌-◌, ◌%◌, ◌<◌, ◌≤◌, ◌^◌, Bool, true, false, nat_lt, List, [], ◌∷◌, length, Option, Some, None, Result, Ok, Err, refl, sym, ap, subst, ◌∙◌, inl, inr, arith, if◌then◌else◌}
use Rattle.std.specs.Prelude.{IsSome, IsSomeAnd}
use Rattle.std.specs.List.{sum_by}
use Rattle.std.specs.Option.{ForSome, option_map}
use Rattle.std.proofs.lemmas.List.Sums.{sum_by-cons}
use Rattle.std.proofs.lemmas.Option.{none-some, same_Some}
use Rattle.arrayvec.specs.ArrayVec.{ArrayVec}
use Rattle.rtpwire.specs.declared.content.Content.{Content}
use Rattle.rtpwire.specs.declared.fault.RtpFault.{RtpFault}
use Rattle.rtpwire.specs.Rtp.{RtpPacket}
use Rattle.stores.specs.Span.{Span, highest_of}
use Rattle.receiver.specs.Asks.{Asks, AsksMost}
use Rattle.receiver.specs.Config.{Config}
use Rattle.receiver.specs.declared.answer.Taken.{Taken}
use Rattle.receiver.specs.declared.answer.Played.{Played}
use Rattle.receiver.specs.declared.answer.Played.TheVariants.{Packet, Gap, Wait}
use Rattle.receiver.specs.declared.fault.ReceiveFault.{ReceiveFault}
use Rattle.receiver.specs.declared.fault.ReceiveFault.TheVariants as refused
use Rattle.receiver.specs.declared.stream.Stream.{Stream}
use Rattle.receiver.specs.declared.stream.Stream.TheVariants as stream
use Rattle.stores.specs.declared.slot.PutFault.TheVariants.{Late}
use Rattle.receiver.specs.Heard.{AnswersIn, HearsSaid, HearsStream, TakesNumber}
use Rattle.receiver.specs.Receiver.{Receiving, state_of}
use Rattle.receiver.specs.Window.{AnswersPlace, Passes, PlaysAny, ReceiverState, cursor_after, window_at}
use Rattle.endpoint.specs.declared.probation.Probation.{Probation}
use Rattle.endpoint.specs.declared.seen_packets.SeenPacket.{SeenPacket}
use Rattle.endpoint.specs.declared.holding.Run.{Run}
use Rattle.endpoint.specs.declared.heard.Heard.{Heard}
use Rattle.endpoint.specs.declared.heard.Heard.TheVariants.{Control, Media, Repair, HeldBack}
use Rattle.endpoint.specs.Demultiplex.{is_control}
use Rattle.endpoint.specs.Probation.{ahead}
use Rattle.endpoint.specs.Receiving.{AfterHeld, Ends, Handed, HearsKind, HearsUnless, HearsWanted, HoldsBack, as_heard, held_answer, held_ends, kept_at, kept_in, run_before, skipped_at, skipped_by, spare_before, wants_more}
use Rattle.endpoint.specs.Events.{Endpoint, Event, RunsOver, Steps, asked, begun_at, heard, played, restarted_by_call, unlearnt_by_call, timed}
use Rattle.endpoint.specs.OneStream.{GoesOn, IsOneStream, or_else, passed_in, start_of, starts_in}

-- The next place to play has the number of the first one and so many passed ones; and so many slots from it on reach above place 0.
abbrev IsAt : (start cursor : Option ℕ) → (passed slots : ℕ) → Type 0
IsAt None None passed slots = passed ≡ 0
IsAt None (Some k) passed slots = ⊥
IsAt (Some s) None passed slots = ⊥
IsAt (Some s) (Some k) passed slots = (k % 65536 ≡ (s + passed) % 65536) × (0 < k + slots)

at_as : (start start' cursor cursor' : Option ℕ) (passed passed' slots slots' : ℕ) → start' ≡ start → cursor' ≡ cursor → passed' ≡ passed → slots' ≡ slots → IsAt start cursor passed slots → IsAt start' cursor' passed' slots'
at_as start start' cursor cursor' passed passed' slots slots' e f g h at = subst (λ (x : Option ℕ × (Option ℕ × (ℕ × ℕ))). IsAt x.0 x.1.0 x.1.1.0 x.1.1.1) (λ i. (sym e i, (sym f i, (sym g i, sym h i)))) at

else_none : (start : Option ℕ) → or_else start None ≡ start
else_none None = refl
else_none (Some s) = refl

-- how a packet that is taken moves the cursor
abbrev Moved : (old : Option ℕ) → Taken → (new : Option ℕ) → Type 0
Moved None taken None = ⊥
Moved None taken (Some k) = (k ≡ taken.place) × (taken.overrun ≡ 0)
Moved (Some j) taken None = ⊥
Moved (Some j) taken (Some k) = k ≡ j + taken.overrun

abbrev MovedTo : (old : Option ReceiverState) → Taken → (new : Option ReceiverState) → Type 0
MovedTo None taken None = ⊥
MovedTo None taken (Some w) = (w.cursor ≡ taken.place) × (taken.overrun ≡ 0)
MovedTo (Some v) taken None = ⊥
MovedTo (Some v) taken (Some w) = w.cursor ≡ v.cursor + taken.overrun

module _ (room : ℕ) (now : ℕ) (taken : Taken) where
  rises : (j k overrun place : ℕ) → k ≡ cursor_after room j place → overrun ≡ cursor_after room j place - j → k ≡ j + overrun
  rises j k overrun place is over = omega arith

  placed : (old : ReceiverState) (place : ℕ) (content : Content) (new : Option ReceiverState) → AnswersPlace room old place content now (Ok taken) new → MovedTo (Some old) taken new
  placed old place content None (at, above, free, over, none) = absurd none
  placed old place content (Some w) (at, above, free, over, takes) = rises old.cursor w.cursor taken.overrun place takes.cursor over

  placed_in : (by : Stream) (old : ReceiverState) (place : ℕ) (content : Content) (new : Option ReceiverState) → AnswersIn room by old place content now (Ok taken) new → MovedTo (Some old) taken new
  placed_in stream.Media old place content new step = placed old place content new step
  placed_in stream.Repair old place content new step = placed old place content new step
  placed_in (stream.Candidate ssrc) old place content None (due, step) = absurd (placed (record old { learnt = Some ssrc }) place content None step)
  placed_in (stream.Candidate ssrc) old place content (Some w) (due, step) = placed (record old { learnt = Some ssrc }) place content (Some w) step

  numbered : (by : Stream) (old : Option ReceiverState) (seq : ℕ) (content : Content) (new : Option ReceiverState) → TakesNumber room by old seq content now (Ok taken) new → MovedTo old taken new
  numbered stream.Media None seq content None (at, over, none) = absurd none
  numbered stream.Media None seq content (Some w) (at, over, starts) = (starts.cursor ∙ sym at, over)
  numbered stream.Repair None seq content new (is, same) = absurd cc
  numbered (stream.Candidate ssrc) None seq content new (is, same) = absurd cc
  numbered by (Some old) seq content new (inl (far, is, same)) = absurd cc
  numbered by (Some old) seq content new (inr (inl (past_end, is, same))) = absurd cc
  numbered by (Some old) seq content new (inr (inr (place, near, fits, step))) = placed_in by old place content new step

  streamed : (old : Option ReceiverState) (p : RtpPacket) (by : Result Stream ReceiveFault) (new : Option ReceiverState) → HearsStream room old p now by (Ok taken) new → MovedTo old taken new
  streamed old p (Ok by) new (inl (short, is, same)) = absurd cc
  streamed old p (Ok by) new (inr (seq, carried, carries, inl (long, is, same))) = absurd cc
  streamed old p (Ok by) new (inr (seq, carried, carries, inr (short, content, held, takes))) = numbered by old seq content new takes
  streamed old p (Err fault) new (is, same) = absurd cc

  said_so : (c : Config) (old : Option ReceiverState) (said : Result RtpPacket RtpFault) (new : Option ReceiverState) → HearsSaid room c old said now (Ok taken) new → MovedTo old taken new
  said_so c old (Ok p) new hears = streamed old p _ new hears
  said_so c old (Err fault) new (is, same) = absurd cc

moved_at : (learnt learnt' cursor cursor' : Option ℕ) (s s' : Span) (taken : Taken) → MovedTo (window_at learnt cursor s) taken (window_at learnt' cursor' s') → Moved cursor taken cursor'
moved_at learnt learnt' None None s s' taken moved = moved
moved_at learnt learnt' None (Some k) s s' taken moved = moved
moved_at learnt learnt' (Some j) None s s' taken moved = moved
moved_at learnt learnt' (Some j) (Some k) s s' taken moved = moved

moved : (old new : Receiving) (octets : List ℕ) (now : ℕ) (taken : Taken) → Handed old octets now (Ok taken) new → Moved old.span.cursor taken new.span.cursor
moved old new octets now taken handed =
    moved_at old.learnt new.learnt old.span.cursor new.span.cursor old.span new.span taken
    (said_so old.span.capacity now taken old.config (state_of old) handed.hears.said (state_of new) handed.hears.heard)

-- what a window keeps lies above place 0
abbrev Above : (cursor : Option ℕ) → (slots : ℕ) → Type 0
Above cursor slots = ForSome cursor (λ k. (0 < k + slots) × (k + slots ≤ 2 ^ 48))

-- a packet is taken
takes_so : (start cursor cursor' : Option ℕ) (taken : Taken) (passed passed' slots slots' : ℕ) → IsAt start cursor passed slots → Moved cursor taken cursor' → Above cursor' slots' → passed' ≡ taken.overrun + passed
    → IsAt (or_else start (Some taken.place)) cursor' passed' slots'
takes_so None None None taken passed passed' slots slots' at moved above so = absurd moved
takes_so None None (Some k) taken passed passed' slots slots' at moved above so = (omega (arith, at, moved.0, moved.1, so), (above k refl).0)
takes_so None (Some j) cursor' taken passed passed' slots slots' at moved above so = absurd at
takes_so (Some s) None cursor' taken passed passed' slots slots' at moved above so = absurd at
takes_so (Some s) (Some j) None taken passed passed' slots slots' at moved above so = absurd moved
takes_so (Some s) (Some j) (Some k) taken passed passed' slots slots' at moved above so = (omega (arith, at.0, moved, so), (above k refl).0)

-- a stream that goes on behind a jump
between : (d : ℕ) → 0 < skipped_by d → skipped_by d + 1 ≡ d
between d some = by (nat_lt d 32768) some
  where
    by : (b : Bool) → 0 < (if b then d - 1 else 0) → (if b then d - 1 else 0) + 1 ≡ d
    by false some = absurd (omega (arith, some))
    by true some = omega (arith, some)

overrun_within : (old : Option ℕ) (k : ℕ) (taken : Taken) → Moved old taken (Some k) → taken.overrun ≤ k
overrun_within None k taken moved = omega (arith, moved.1)
overrun_within (Some j) k taken moved = omega (arith, moved)

lands : (s k slots k' overrun passed passed' skipped : ℕ) → k % 65536 ≡ (s + passed) % 65536 → 0 < k + slots → overrun ≤ k' → skipped + 1 ≡ ahead (k + slots - 1) ((k' - overrun) % 65536)
    → passed' ≡ overrun + slots + skipped + passed → k' % 65536 ≡ (s + passed') % 65536
lands s k slots k' overrun passed passed' skipped at above within so is = omega arith

jumps_so : (start cursor before cursor' : Option ℕ) (taken : Taken) (passed passed' slots slots' : ℕ) → IsAt start cursor passed slots → Moved before taken cursor' → Above cursor' slots'
    → let skipped : ℕ = skipped_at (option_map (λ k. k + slots - 1) cursor) cursor' taken.overrun in
    0 < skipped → passed' ≡ taken.overrun + slots + skipped + passed → IsAt start cursor' passed' slots'
jumps_so None None before cursor' taken passed passed' slots slots' at moved above some so = absurd (omega (arith, some))
jumps_so None (Some k) before cursor' taken passed passed' slots slots' at moved above some so = absurd at
jumps_so (Some s) None before cursor' taken passed passed' slots slots' at moved above some so = absurd at
jumps_so (Some s) (Some k) before None taken passed passed' slots slots' at moved above some so = absurd (omega (arith, some))
jumps_so (Some s) (Some k) before (Some k') taken passed passed' slots slots' at moved above some so =
    (lands s k slots k' taken.overrun passed passed' _ at.0 at.1 (overrun_within before k' taken moved) (between (ahead (k + slots - 1) ((k' - taken.overrun) % 65536)) some) so, (above k' refl).0)

-- what a receiver that is at a place keeps
kept_slots : (start cursor : Option ℕ) (s : Span) (passed : ℕ) → IsAt start cursor passed (length s.slots) → IsSome cursor → kept_at cursor s ≡ length s.slots
kept_slots start None s passed at some = absurd cc
kept_slots start (Some k) s passed at some = refl

-- an endpoint's receiver is where its answers say
abbrev Accounts : (start : Option ℕ) → (passed : ℕ) → Receiving → Type 0
Accounts start passed r = IsAt start r.span.cursor passed (length r.span.slots)

same_core : (start start' : Option ℕ) (passed passed' : ℕ) (r r' : Receiving) → start' ≡ start → passed' ≡ passed → r' ≡ r → Accounts start passed r → Accounts start' passed' r'
same_core start start' passed passed' r r' e f g at = subst (λ (x : Option ℕ × (ℕ × Receiving)). Accounts x.0 x.1.0 x.1.1) (λ i. (sym e i, (sym f i, sym g i))) at

module _ (start : Option ℕ) (before : List Event) (octets : List ℕ) (now : ℕ) where
  -- what an answer makes of it
  abbrev After : Result Heard ReceiveFault → Receiving → Type 0
  After answer r = GoesOn (heard octets now answer) → Accounts (or_else start (starts_in (heard octets now answer))) (sum_by passed_in (heard octets now answer ∷ before)) r

  after_as : (answer answer' : Result Heard ReceiveFault) (r r' : Receiving) → answer ≡ answer' → r ≡ r' → After answer' r' → After answer r
  after_as answer answer' r r' e f after = subst (λ (x : Result Heard ReceiveFault × Receiving). After x.0 x.1) (λ i. (sym e i, sym f i)) after

  sums : (answer : Result Heard ReceiveFault) → sum_by passed_in (heard octets now answer ∷ before) ≡ passed_in (heard octets now answer) + sum_by passed_in before
  sums answer = sum_by-cons passed_in (heard octets now answer) before

  nothing : (total n : ℕ) → total ≡ (0 + 0 + 0 + 0 + 0) + n → total ≡ n
  nothing total n is = omega arith

  refused_so : (fault : ReceiveFault) (r r' : Receiving) → r' ≡ r → Accounts start (sum_by passed_in before) r → After (Err fault) r'
  refused_so fault r r' same at goes = same_core start _ (sum_by passed_in before) _ r r' (else_none start) (nothing _ _ (sums (Err fault))) same at

  -- a packet that is believed
  overrun_alone : (total overrun n : ℕ) → total ≡ (0 + 0 + overrun + 0 + 0) + n → total ≡ overrun + n
  overrun_alone total overrun n is = omega arith

  believed_so : (number : Option ℕ) (taken : Result Taken ReceiveFault) (plain : List ℕ) (old new : Receiving) → Handed old plain now taken new → Accounts start (sum_by passed_in before) old → After (as_heard number taken) new
  believed_so None (Ok taken) plain old new handed at goes =
      takes_so start old.span.cursor new.span.cursor taken (sum_by passed_in before) _ (length old.span.slots) (length new.span.slots) at (moved old new plain now taken handed) handed.stays.is_span.started
      (overrun_alone _ taken.overrun _ (sums (Ok (Repair taken))))
  believed_so (Some seq) (Ok taken) plain old new handed at goes =
      takes_so start old.span.cursor new.span.cursor taken (sum_by passed_in before) _ (length old.span.slots) (length new.span.slots) at (moved old new plain now taken handed) handed.stays.is_span.started
      (overrun_alone _ taken.overrun _ (sums (Ok (Media taken))))
  believed_so None (Err fault) plain old new handed at goes = refused_so fault old new handed.refused at goes
  believed_so (Some seq) (Err fault) plain old new handed at goes = refused_so fault old new handed.refused at goes

  -- one more that is held back, or the restart
  restart_sum : (total overrun kept slots skipped n : ℕ) → total ≡ (0 + 0 + overrun + kept + skipped) + n → kept ≡ slots → total ≡ overrun + slots + skipped + n
  restart_sum total overrun kept slots skipped n is same = omega arith

  has_cursor : (cursor other : Option ℕ) (slots overrun : ℕ) → 0 < skipped_at (option_map (λ k. k + slots - 1) cursor) other overrun → IsSome cursor
  has_cursor None other slots overrun some = absurd (omega (arith, some))
  has_cursor (Some k) other slots overrun some = refl

  counted : (more : Bool) (old : Ends) (spare mid : Receiving) (run : Run) (seq : ℕ) (taken : Taken) (plain : List ℕ) (answer : Result Heard ReceiveFault) (new : Ends)
      → Handed spare plain now (Ok taken) mid → Accounts start (sum_by passed_in before) old.core
      → answer ≡ Ok (held_answer more taken (run.count + 1) (kept_in old.core.span) (skipped_at (highest_of old.core.span) mid.span.cursor taken.overrun)) → new ≡ held_ends more old mid run seq now → After answer new.core
  counted true old spare mid run seq taken plain answer new handed at answered is =
      after_as answer (Ok (HeldBack (run.count + 1))) new.core old.core answered (ap (λ (e : Ends). e.core) is)
      (λ goes. same_core start _ (sum_by passed_in before) _ old.core old.core (else_none start) (nothing _ _ (sums (Ok (HeldBack (run.count + 1))))) refl at)
  counted false old spare mid run seq taken plain answer new handed at answered is =
      let restarted : Heard = held_answer false taken (run.count + 1) (kept_in old.core.span) (skipped_at (highest_of old.core.span) mid.span.cursor taken.overrun) in
      after_as answer (Ok restarted) new.core mid answered (ap (λ (e : Ends). e.core) is)
      (λ goes. at_as start _ mid.span.cursor mid.span.cursor _ _ (length mid.span.slots) (length mid.span.slots) (else_none start) refl refl refl
      (jumps_so start old.core.span.cursor spare.span.cursor mid.span.cursor taken (sum_by passed_in before) _ (length old.core.span.slots) (length mid.span.slots) at (moved spare mid plain now taken handed) handed.stays.is_span.started goes
      (restart_sum _ taken.overrun _ (length old.core.span.slots) _ _ (sums (Ok restarted))
      (kept_slots start old.core.span.cursor old.core.span (sum_by passed_in before) at (has_cursor old.core.span.cursor mid.span.cursor (length old.core.span.slots) taken.overrun goes)))))

  module _ (p : Probation) where
    held_back : (old : Ends) (wanted seq : ℕ) (plain : List ℕ) (answer : Result Heard ReceiveFault) (new : Ends) → HoldsBack p old wanted seq plain now answer new → Accounts start (sum_by passed_in before) old.core → After answer new.core
    held_back old wanted seq plain answer new held at = by_taken held.taken held.handed held.after
      where
        by_taken : (taken : Result Taken ReceiveFault) → Handed (spare_before p old.spare old.run seq) plain now taken held.mid
            → AfterHeld p old held.mid (run_before p old.run (highest_of old.spare.span) wanted seq) seq now taken answer new → After answer new.core
        by_taken (Ok taken) handed after =
            let run : Run = run_before p old.run (highest_of old.spare.span) wanted seq in
            counted (wants_more p run now) old (spare_before p old.spare old.run seq) held.mid run seq taken plain answer new handed at after.0 after.1
        by_taken (Err fault) handed after =
            after_as answer (Err fault) new.core old.core after.0 (ap (λ (e : Ends). e.core) after.1) (refused_so fault old.core old.core refl at)

    hears_wanted : (wanted : ℕ) (number : Option ℕ) (old : Ends) (plain : List ℕ) (answer : Result Heard ReceiveFault) (new : Ends) → HearsWanted p old wanted number plain now answer new → Accounts start (sum_by passed_in before) old.core → After answer new.core
    hears_wanted wanted None old plain answer new hears at = after_as answer _ new.core new.core hears.answered refl (believed_so None hears.taken plain old.core new.core hears.handed at)
    hears_wanted zero (Some seq) old plain answer new hears at = after_as answer _ new.core new.core hears.answered refl (believed_so (Some seq) hears.taken plain old.core new.core hears.handed at)
    hears_wanted (suc more) (Some seq) old plain answer new hears at = held_back old (suc more) seq plain answer new hears at

    hears_unless : (repeat : Bool) (wanted : ℕ) (number : Option ℕ) (old : Ends) (plain : List ℕ) (answer : Result Heard ReceiveFault) (new : Ends) → HearsUnless repeat p old wanted number plain now answer new → Accounts start (sum_by passed_in before) old.core → After answer new.core
    hears_unless true wanted number old plain answer new hears at = after_as answer _ new.core old.core hears.0 (ap (λ (e : Ends). e.core) hears.1) (refused_so (refused.Put Late) old.core old.core refl at)
    hears_unless false wanted number old plain answer new hears at = hears_wanted wanted number old plain answer new hears at

    hears_kind : (control : Bool) (seen : List (Option SeenPacket)) (old : Ends) (plain : Option (List ℕ)) (answer : Result Heard ReceiveFault) (new : Ends) → HearsKind control p seen old plain octets now answer new → Accounts start (sum_by passed_in before) old.core → After answer new.core
    hears_kind true seen old plain answer new hears at =
        after_as answer (Ok Control) new.core old.core hears.0 (ap (λ (e : Ends). e.core) hears.1)
        (λ goes. same_core start _ (sum_by passed_in before) _ old.core old.core (else_none start) (nothing _ _ (sums (Ok Control))) refl at)
    hears_kind false seen old None answer new hears at = hears_unless _ _ hears.1.number old octets answer new hears.1.heard at
    hears_kind false seen old (Some plain) answer new hears at = hears_unless _ _ hears.1.number old plain answer new hears.1.heard at

-- a call that moves the cursor by so many places, or leaves it
abbrev By : (old : Option ReceiverState) → (places : ℕ) → (new : Option ReceiverState) → Type 0
By None places None = places ≡ 0
By None places (Some w) = ⊥
By (Some v) places None = ⊥
By (Some v) places (Some w) = w.cursor ≡ v.cursor + places

abbrev cursor_or : ℕ → Option ReceiverState → ℕ
cursor_or k None = k
cursor_or k (Some w) = w.cursor

by_same : (old new : Option ReceiverState) → new ≡ old → By old 0 new
by_same None None is = refl
by_same None (Some w) is = absurd cc
by_same (Some v) None is = absurd cc
by_same (Some v) (Some w) is = let same : w.cursor ≡ v.cursor = ap (cursor_or 0) is in omega (arith, same)

by_passing : (old : ReceiverState) (new : Option ReceiverState) → IsSomeAnd new (Passes old) → By (Some old) 1 new
by_passing old None none = absurd none
by_passing old (Some w) passes = passes.cursor

plays_by : (patience now : ℕ) (old : Option ReceiverState) (answer : Played) (new : Option ReceiverState) → PlaysAny patience old now answer new → By old (passed_in (played now answer)) new
plays_by patience now None Wait new plays = by_same None new plays
plays_by patience now None (Packet place content) new plays = absurd plays
plays_by patience now None (Gap place) new plays = absurd plays
plays_by patience now (Some v) (Packet place content) new (at, held, passes) = by_passing v new passes
plays_by patience now (Some v) (Gap place) new (at, free, cause, passes) = by_passing v new passes
plays_by patience now (Some v) Wait new (free, waits, same) = by_same (Some v) new same

by_asking : (covered : List ℕ) (now : ℕ) (old : ReceiverState) (new : Option ReceiverState) → IsSomeAnd new (Asks old covered now) → By (Some old) 0 new
by_asking covered now old None none = absurd none
by_asking covered now old (Some w) asks = let same = asks.cursor in omega (arith, same)

asks_by : (c : Config) (now most : ℕ) (old : Option ReceiverState) (answer : Option (ArrayVec ℕ)) (new : Option ReceiverState) → AsksMost c old now most answer new → By old 0 new
asks_by c now most None answer new (none, is) = by_same None new is
asks_by c now most (Some v) None new asks = by_same (Some v) new asks.answers.1
asks_by c now most (Some v) (Some datagram) new asks = by_asking _ now v new asks.answers.1.asked.asks

by_at : (learnt learnt' cursor cursor' : Option ℕ) (s s' : Span) (start : Option ℕ) (places passed passed' slots slots' : ℕ) → By (window_at learnt cursor s) places (window_at learnt' cursor' s') → IsAt start cursor passed slots
    → Above cursor' slots' → passed' ≡ places + passed → IsAt start cursor' passed' slots'
by_at learnt learnt' None None s s' None places passed passed' slots slots' by at above so = omega (arith, by, at, so)
by_at learnt learnt' None None s s' (Some x) places passed passed' slots slots' by at above so = absurd at
by_at learnt learnt' None (Some k) s s' start places passed passed' slots slots' by at above so = absurd by
by_at learnt learnt' (Some j) None s s' start places passed passed' slots slots' by at above so = absurd by
by_at learnt learnt' (Some j) (Some k) s s' None places passed passed' slots slots' by at above so = absurd at
by_at learnt learnt' (Some j) (Some k) s s' (Some x) places passed passed' slots slots' by at above so = (omega (arith, by, at.0, so), (above k refl).0)

moves_by : (start : Option ℕ) (places passed passed' : ℕ) (old new : Receiving) → By (state_of old) places (state_of new) → Accounts start passed old → Above new.span.cursor (length new.span.slots) → passed' ≡ places + passed → Accounts start passed' new
moves_by start places passed passed' old new by at above so =
    by_at old.learnt new.learnt old.span.cursor new.span.cursor old.span new.span start places passed passed' (length old.span.slots) (length new.span.slots) by at above so

-- a receiver that begins, and takes nothing yet
begins_so : (start cursor learnt : Option ℕ) (s : Span) (first passed passed' slots : ℕ) → window_at learnt cursor s ≡ None → IsAt start cursor passed slots → passed' ≡ (0 + 0 + 0 + 0 + 0) + passed
    → IsAt (or_else start (Some (65536 + first))) (Some (65536 + first)) passed' 0
begins_so None None learnt s first passed passed' slots none at so = (omega (arith, at, so), omega arith)
begins_so None (Some k) learnt s first passed passed' slots none at so = absurd at
begins_so (Some x) None learnt s first passed passed' slots none at so = absurd at
begins_so (Some x) (Some k) learnt s first passed passed' slots none at so = absurd cc

none_passed : (total n : ℕ) → total ≡ (0 + 0 + 0 + 0 + 0) + n → total ≡ n
none_passed total n is = omega arith

stepped : (p : Probation) (event : Event) (before : List Event) (old new : Endpoint) → Accounts (start_of before) (sum_by passed_in before) old.ends.core → GoesOn event → Steps p event old new
    → Accounts (start_of (event ∷ before)) (sum_by passed_in (event ∷ before)) new.ends.core
stepped p (heard octets now answer) before old new at goes steps =
    hears_kind (start_of before) before octets now p (is_control octets) old.seen old.ends steps.hears.plain answer new.ends steps.hears.heard at goes
stepped p (played now answer) before old new at goes steps =
    at_as (start_of before) _ _ _ _ _ _ _ (else_none (start_of before)) refl refl refl
    (moves_by (start_of before) (passed_in (played now answer)) (sum_by passed_in before) (sum_by passed_in (played now answer ∷ before)) old.ends.core new.ends.core (plays_by _ now _ answer _ steps.plays) at steps.stays.is_span.started
    (sum_by-cons passed_in (played now answer) before))
stepped p (asked now most answer places) before old new at goes steps =
    at_as (start_of before) _ _ _ _ _ _ _ (else_none (start_of before)) refl refl refl
    (moves_by (start_of before) 0 (sum_by passed_in before) (sum_by passed_in (asked now most answer places ∷ before)) old.ends.core new.ends.core (asks_by _ now most _ answer _ steps.asks) at steps.stays.is_span.started
    (none_more _ _ (sum_by-cons passed_in (asked now most answer places) before)))
  where
    none_more : (total n : ℕ) → total ≡ (0 + 0 + 0 + 0 + 0) + n → total ≡ 0 + n
    none_more total n is = omega arith
stepped p (begun_at first) before old new at goes steps =
    at_as _ _ _ _ _ _ _ _ refl (ap (λ (r : Receiving). r.span.cursor) steps.begins) refl (ap (λ (r : Receiving). length r.span.slots) steps.begins)
    (begins_so (start_of before) old.ends.core.span.cursor old.ends.core.learnt old.ends.core.span first (sum_by passed_in before) (sum_by passed_in (begun_at first ∷ before)) (length old.ends.core.span.slots) steps.unstarted at
    (sum_by-cons passed_in (begun_at first) before))
stepped p restarted_by_call before old new at goes steps = absurd goes
stepped p unlearnt_by_call before old new at goes steps =
    at_as (start_of before) _ _ _ _ _ _ _ (else_none (start_of before)) (ap (λ (r : Receiving). r.span.cursor) steps.core) (none_passed _ _ (sum_by-cons passed_in unlearnt_by_call before)) (ap (λ (r : Receiving). length r.span.slots) steps.core) at
stepped p (timed patience delay retry) before old new at goes steps =
    at_as (start_of before) _ _ _ _ _ _ _ (else_none (start_of before)) (ap (λ (r : Receiving). r.span.cursor) steps.core) (none_passed _ _ (sum_by-cons passed_in (timed patience delay retry) before)) (ap (λ (r : Receiving). length r.span.slots) steps.core) at

accounted : (c : Config) (capacity : ℕ) (p : Probation) (events : List Event) (e : Endpoint) → RunsOver c capacity p events e → IsOneStream events → Accounts (start_of events) (sum_by passed_in events) e.ends.core
accounted c capacity p [] e runs one = at_as None None None _ 0 0 0 _ refl (ap (λ (x : Endpoint). x.ends.core.span.cursor) runs) refl (ap (λ (x : Endpoint). length x.ends.core.span.slots) runs) refl
accounted c capacity p (event ∷ before) e runs one = stepped p event before runs.old e (accounted c capacity p before runs.old runs.before one.1) one.0 runs.steps

-- the highest place, by the first one
reaches : (start : Option ℕ) (cursor : Option ℕ) (s : Span) (passed first highest : ℕ) → IsAt start cursor passed (length s.slots) → start ≡ Some first → option_map (λ k. k + length s.slots - 1) cursor ≡ Some highest
    → (highest + 1) % 65536 ≡ (first + passed + kept_at cursor s) % 65536
reaches None cursor s passed first highest at is top = absurd (none-some first is)
reaches (Some x) None s passed first highest at is top = absurd at
reaches (Some x) (Some k) s passed first highest at is top =
    let same : x ≡ first = same_Some _ _ is in
    let last : k + length s.slots - 1 ≡ highest = same_Some _ _ top in
    omega (arith, same, last, at.0, at.1)

pub every_number : (c : Config) (capacity : ℕ) (p : Probation) (events : List Event) (e : Endpoint) → RunsOver c capacity p events e → IsOneStream events → (first highest : ℕ) → start_of events ≡ Some first
    → highest_of e.ends.core.span ≡ Some highest → (highest + 1) % 65536 ≡ (first + sum_by passed_in events + kept_in e.ends.core.span) % 65536
every_number c capacity p events e runs one first highest is top =
    reaches (start_of events) e.ends.core.span.cursor e.ends.core.span (sum_by passed_in events) first highest (accounted c capacity p events e runs one) is top
