-- A stream restarts by the stream only where enough of it came, and enough is less where the stream before is silent.
use Rattle.std.proofs.Common.{◌≡◌, ◌⊎◌, ℕ, zero, suc, ◌+◌, ◌<◌, ◌≤◌, ◌&&◌, Bool, true, false, nat_lt, List, [], ◌∷◌, Option, Some, None, Result, Ok, Err, refl, sym, ap, subst, ◌∙◌, ⊎_elim, inl, inr, arith, if◌then◌else◌}
use Rattle.std.specs.Prelude.{nat_le, min}
use Rattle.std.proofs.lemmas.Bool.{cases_lt}
use Rattle.std.proofs.lemmas.Bool.Decides.{nat_tests}
use Rattle.stores.specs.Span.{highest_of}
use Rattle.receiver.specs.declared.answer.Taken.{Taken}
use Rattle.stores.specs.declared.slot.PutFault.TheVariants.{Late}
use Rattle.receiver.specs.declared.fault.ReceiveFault.{ReceiveFault}
use Rattle.receiver.specs.declared.fault.ReceiveFault.TheVariants as refused
use Rattle.receiver.specs.Config.{Config}
use Rattle.receiver.specs.Receiver.{Receiving}
use Rattle.endpoint.specs.declared.probation.Probation.{Probation}
use Rattle.endpoint.specs.declared.seen_packets.SeenPacket.{SeenPacket}
use Rattle.endpoint.specs.declared.holding.Run.{Run}
use Rattle.endpoint.specs.declared.heard.Heard.{Heard}
use Rattle.endpoint.specs.declared.heard.Heard.TheVariants.{Control, Media, Repair, HeldBack, Restarted}
use Rattle.endpoint.specs.Demultiplex.{is_control}
use Rattle.endpoint.specs.Probation.{goes_on, wanted_of_run, wanted_now, is_silent}
use Rattle.endpoint.specs.Receiving.{Ends, AfterHeld, HoldsBack, HearsWanted, HearsUnless, HearsKind, follows, run_before, run_after, run_refused, wants_more, as_heard, held_answer, held_ends, none_held, kept_in, skipped_at}
use Rattle.endpoint.specs.Events.{Event, Endpoint, RunsOver, heard, played, asked, begun_at, restarted_by_call, unlearnt_by_call, timed}
use Rattle.endpoint.specs.Silence.{last_taken, IsFounded}

-- what a run says of the events before: when media was last taken, and how many it wants
pub record Knows (p : Probation) (events : List Event) (run : Run) : Type 0 where
  pub last : run.last ≡ last_taken events
  pub wanted : (run.count ≡ 0) ⊎ (run.wanted ≡ p.behind)

module _ (p : Probation) (span : ℕ) (by_stream : p.silence ≡ Some span) (before : List Event) (octets : List ℕ) (now : ℕ) where
  record Goes (answer : Result Heard ReceiveFault) (new : Run) : Type 0 where
    founded : IsFounded p span before now answer
    knows : Knows p (heard octets now answer ∷ before) new

  goes_as : (answer answer' : Result Heard ReceiveFault) (new new' : Run) → answer ≡ answer' → new ≡ new' → Goes answer' new' → Goes answer new
  goes_as answer answer' new new' same run goes = subst (λ (x : Result Heard ReceiveFault × Run). Goes x.0 x.1) (λ i. (sym same i, sym run i)) goes

  run_stays : (run : Run) → run_refused p.silence run ≡ run
  run_stays run = ap (λ (s : Option ℕ). run_refused s run) by_stream

  -- a run that goes on, or begins, wants `behind`
  wanted_begun : (run : Run) (highest : Option ℕ) (wanted seq : ℕ) (follow : Bool) → follows p run highest seq ≡ follow → (run.count ≡ 0) ⊎ (run.wanted ≡ p.behind)
      → (if follow then run else record { count = 0; wanted = wanted_of_run p.silence p wanted; next = seq; last = run.last }).wanted ≡ p.behind
  wanted_begun run highest wanted seq true so (inl none) = absurd (started (goes_on p.silence p highest run.next seq) run.count none so)
    where
      started : (near : Bool) (count : ℕ) → count ≡ 0 → (nat_lt 0 count && near) ≡ true → ⊥
      started near count none so = grind (arith, nat_tests, none, so)
  wanted_begun run highest wanted seq true so (inr is) = is
  wanted_begun run highest wanted seq false so was = ap (λ (s : Option ℕ). wanted_of_run s p wanted) by_stream

  last_begun : (run : Run) (wanted seq : ℕ) (follow : Bool) → (if follow then run else record { count = 0; wanted = wanted; next = seq; last = run.last }).last ≡ run.last
  last_begun run wanted seq true = refl
  last_begun run wanted seq false = refl

  wanted_is : (wanted last : ℕ) → wanted ≡ p.behind → wanted_now p wanted last now ≡ (if nat_le (last + span) now then min p.ahead p.behind else p.behind)
  wanted_is wanted last is = ap (λ (x : Option ℕ × ℕ). if is_silent x.0 last now then min p.ahead x.1 else x.1) (λ i. (by_stream i, is i))

  fewer : (held last ahead behind : ℕ) → nat_lt held (if nat_le (last + span) now then min ahead behind else behind) ≡ true → (held < behind) × (last + span ≤ now → held < ahead)
  fewer held last ahead behind more = (grind (arith, nat_tests, more), λ silent. grind (arith, nat_tests, more, silent))

  enough : (held last ahead behind : ℕ) → nat_lt held (if nat_le (last + span) now then min ahead behind else behind) ≡ false → (behind ≤ held) ⊎ ((last + span ≤ now) × (ahead ≤ held))
  enough held last ahead behind none = by (nat_le (last + span) now) refl none
    where
      by : (b : Bool) → nat_le (last + span) now ≡ b → nat_lt held (if b then min ahead behind else behind) ≡ false → (behind ≤ held) ⊎ ((last + span ≤ now) × (ahead ≤ held))
      by false later none = inl (grind (arith, nat_tests, none))
      by true silent none = ⊎_elim (λ (low : ahead < behind). inr (grind (arith, nat_tests, silent), grind (arith, nat_tests, none, low))) (λ high. inl (grind (arith, nat_tests, none, high))) (cases_lt ahead behind)

  -- a packet that is held back, or with which the stream restarts
  counted : (more : Bool) (old : Ends) (run : Run) (seq : ℕ) (taken : Taken) (mid : Receiving) (answer : Result Heard ReceiveFault) (new : Ends)
      → run.last ≡ last_taken before → run.wanted ≡ p.behind → wants_more p run now ≡ more
      → answer ≡ Ok (held_answer more taken (run.count + 1) (kept_in old.core.span) (skipped_at (highest_of old.core.span) mid.span.cursor taken.overrun)) → new ≡ held_ends more old mid run seq now → Goes answer new.run
  counted true old run seq taken mid answer new last wanted so answered is =
      goes_as answer (Ok (HeldBack (run.count + 1))) new.run (record { count = run.count + 1; wanted = run.wanted; next = (held_ends true old mid run seq now).run.next; last = run.last }) answered (ap (λ (e : Ends). e.run) is) (record {
        founded = subst (λ n. (run.count + 1 < p.behind) × (n + span ≤ now → run.count + 1 < p.ahead)) last
            (fewer (run.count + 1) run.last p.ahead p.behind (sym (ap (nat_lt (run.count + 1)) (wanted_is run.wanted run.last wanted)) ∙ so));
        knows = record { last = last; wanted = inr wanted };
      })
  counted false old run seq taken mid answer new last wanted so answered is =
      goes_as answer (Ok (Restarted (record { taken = taken; held = run.count + 1; abandoned = kept_in old.core.span; skipped = skipped_at (highest_of old.core.span) mid.span.cursor taken.overrun }))) new.run (none_held now) answered (ap (λ (e : Ends). e.run) is) (record {
        founded = subst (λ n. (p.behind ≤ run.count + 1) ⊎ ((n + span ≤ now) × (p.ahead ≤ run.count + 1))) last
            (enough (run.count + 1) run.last p.ahead p.behind (sym (ap (nat_lt (run.count + 1)) (wanted_is run.wanted run.last wanted)) ∙ so));
        knows = record { last = refl; wanted = inl refl };
      })

  held_back : (old : Ends) (wanted seq : ℕ) (plain : List ℕ) (answer : Result Heard ReceiveFault) (new : Ends) → Knows p before old.run → HoldsBack p old wanted seq plain now answer new → Goes answer new.run
  held_back old wanted seq plain answer new knows held = by_taken held.taken held.after
    where
      last : (run_before p old.run (highest_of old.spare.span) wanted seq).last ≡ last_taken before
      last = last_begun old.run (wanted_of_run p.silence p wanted) seq (follows p old.run (highest_of old.spare.span) seq) ∙ knows.last

      wants : (run_before p old.run (highest_of old.spare.span) wanted seq).wanted ≡ p.behind
      wants = wanted_begun old.run (highest_of old.spare.span) wanted seq (follows p old.run (highest_of old.spare.span) seq) refl knows.wanted

      by_taken : (taken : Result Taken ReceiveFault) → AfterHeld p old held.mid (run_before p old.run (highest_of old.spare.span) wanted seq) seq now taken answer new → Goes answer new.run
      by_taken (Ok taken) after =
          counted (wants_more p (run_before p old.run (highest_of old.spare.span) wanted seq) now) old (run_before p old.run (highest_of old.spare.span) wanted seq) seq taken held.mid answer new last wants refl after.0 after.1
      by_taken (Err fault) after =
          goes_as answer (Err fault) new.run (run_before p old.run (highest_of old.spare.span) wanted seq) after.0
          (ap (λ (e : Ends). e.run) after.1 ∙ run_stays (run_before p old.run (highest_of old.spare.span) wanted seq)) (record { founded = tt; knows = record { last = last; wanted = inr wants } })

  -- a packet that is believed
  believed : (number : Option ℕ) (taken : Result Taken ReceiveFault) (run : Run) (answer : Result Heard ReceiveFault) (new : Run) → Knows p before run
      → answer ≡ as_heard number taken → new ≡ run_after p.silence number taken now run → Goes answer new
  believed None (Ok taken) run answer new knows answered is = goes_as answer (Ok (Repair taken)) new run answered is (record { founded = tt; knows = record { last = knows.last; wanted = knows.wanted } })
  believed None (Err fault) run answer new knows answered is = goes_as answer (Err fault) new run answered is (record { founded = tt; knows = record { last = knows.last; wanted = knows.wanted } })
  believed (Some seq) (Ok taken) run answer new knows answered is = goes_as answer (Ok (Media taken)) new (none_held now) answered is (record { founded = tt; knows = record { last = refl; wanted = inl refl } })
  believed (Some seq) (Err fault) run answer new knows answered is =
      goes_as answer (Err fault) new run answered (is ∙ run_stays run) (record { founded = tt; knows = record { last = knows.last; wanted = knows.wanted } })

  hears_wanted : (wanted : ℕ) (number : Option ℕ) (old : Ends) (plain : List ℕ) (answer : Result Heard ReceiveFault) (new : Ends) → Knows p before old.run → HearsWanted p old wanted number plain now answer new → Goes answer new.run
  hears_wanted wanted None old plain answer new knows hears = believed None hears.taken old.run answer new.run knows hears.answered hears.run
  hears_wanted zero (Some seq) old plain answer new knows hears = believed (Some seq) hears.taken old.run answer new.run knows hears.answered hears.run
  hears_wanted (suc more) (Some seq) old plain answer new knows hears = held_back old (suc more) seq plain answer new knows hears

  hears_unless : (repeat : Bool) (wanted : ℕ) (number : Option ℕ) (old : Ends) (plain : List ℕ) (answer : Result Heard ReceiveFault) (new : Ends) → Knows p before old.run → HearsUnless repeat p old wanted number plain now answer new → Goes answer new.run
  hears_unless true wanted number old plain answer new knows hears =
      goes_as answer (Err (refused.Put Late)) new.run old.run hears.0 (ap (λ (e : Ends). e.run) hears.1) (record { founded = tt; knows = record { last = knows.last; wanted = knows.wanted } })
  hears_unless false wanted number old plain answer new knows hears = hears_wanted wanted number old plain answer new knows hears

  hears_kind : (control : Bool) (seen : List (Option SeenPacket)) (old : Ends) (plain : Option (List ℕ)) (answer : Result Heard ReceiveFault) (new : Ends) → Knows p before old.run → HearsKind control p seen old plain octets now answer new → Goes answer new.run
  hears_kind true seen old plain answer new knows hears =
      goes_as answer (Ok Control) new.run old.run hears.0 (ap (λ (e : Ends). e.run) hears.1) (record { founded = tt; knows = record { last = knows.last; wanted = knows.wanted } })
  hears_kind false seen old None answer new knows hears = hears_unless _ _ hears.1.number old octets answer new knows hears.1.heard
  hears_kind false seen old (Some plain) answer new knows hears = hears_unless _ _ hears.1.number old plain answer new knows hears.1.heard

knows_as : (p : Probation) (events : List Event) (old new : Run) → new ≡ old → Knows p events old → Knows p events new
knows_as p events old new is knows = subst (Knows p events) (sym is) knows

module _ (c : Config) (capacity : ℕ) (p : Probation) (span : ℕ) (by_stream : p.silence ≡ Some span) where
  known : (events : List Event) (e : Endpoint) → RunsOver c capacity p events e → Knows p events e.ends.run
  known [] e runs = knows_as p [] _ e.ends.run (ap (λ (x : Endpoint). x.ends.run) runs) (record { last = refl; wanted = inl refl })
  known (heard octets now answer ∷ before) e runs =
      (hears_kind p span by_stream before octets now (is_control octets) runs.old.seen runs.old.ends runs.steps.hears.plain answer e.ends (known before runs.old runs.before) runs.steps.hears.heard).knows
  known (played now answer ∷ before) e runs = let k = knows_as p before runs.old.ends.run e.ends.run runs.steps.rest.run (known before runs.old runs.before) in record { last = k.last; wanted = k.wanted }
  known (asked now most answer places ∷ before) e runs = let k = knows_as p before runs.old.ends.run e.ends.run runs.steps.rest.run (known before runs.old runs.before) in record { last = k.last; wanted = k.wanted }
  known (begun_at first ∷ before) e runs = let k = knows_as p before runs.old.ends.run e.ends.run runs.steps.rest.run (known before runs.old runs.before) in record { last = k.last; wanted = k.wanted }
  known (restarted_by_call ∷ before) e runs = knows_as p (restarted_by_call ∷ before) _ e.ends.run runs.steps.run (record { last = refl; wanted = inl refl })
  known (unlearnt_by_call ∷ before) e runs = let k = knows_as p before runs.old.ends.run e.ends.run runs.steps.rest.run (known before runs.old runs.before) in record { last = k.last; wanted = k.wanted }
  known (timed patience delay retry ∷ before) e runs = let k = knows_as p before runs.old.ends.run e.ends.run runs.steps.run (known before runs.old runs.before) in record { last = k.last; wanted = k.wanted }

  pub founded : (before : List Event) (octets : List ℕ) (now : ℕ) (answer : Result Heard ReceiveFault) (e : Endpoint) → RunsOver c capacity p (heard octets now answer ∷ before) e → IsFounded p span before now answer
  founded before octets now answer e runs =
      (hears_kind p span by_stream before octets now (is_control octets) runs.old.seen runs.old.ends runs.steps.hears.plain answer e.ends (known before runs.old runs.before) runs.steps.hears.heard).founded
