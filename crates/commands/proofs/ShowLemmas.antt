-- Frame by frame: what was read of a trace, and what was written of it.
use Rattle.std.proofs.Common.{◌≡◌, ℕ, ◌+◌, ◌-◌, ◌^◌, ◌<◌, min, zero, suc, List, [], ◌∷◌, ◌++◌, length, take, drop, Option, Some, None, refl, sym, ap, subst, ◌∙◌, append_assoc, append-nil, length-append, arith}
use Rattle.std.specs.List.{flat_map}
use Rattle.std.specs.Io.KnownBytes.{Appends, Consumes, Keeps}
use Rattle.std.proofs.lemmas.List.{take-append-drop}
use Rattle.std.proofs.Math.Seq.{take-add}
use Rattle.rtpwire.specs.Framing.{BeginsTooLong, Breaks, IsDatagram, IsRest, Splits, frame}
use Rattle.lines.specs.ShowText.{Shows, ShowsAll}
use Rattle.lines.specs.Sink.{AppendsFront}
use Rattle.rtpwire.specs.declared.fault.FrameFault.TheVariants.{Truncated, FrameTooLong}
use Rattle.commands.specs.declared.show.ShowFault.{ShowFault}
use Rattle.commands.specs.declared.show.ShowFault.TheVariants.{Frame, Read, Write}
use Rattle.commands.specs.Reading.{IfBoth}
use Rattle.commands.specs.Show.{StopsIn, counted}
use Rattle.commands.specs.Showing.{GoesOn, SoFar, StopsWithin, StopsAt, ShowedSome}
use Rattle.commands.proofs.KnownLemmas.{Appends-kept, Appends-trans}

-- What was read of an input lies before what is left of it; it is frames and this rest, and the frames' lines were written.
abbrev pub ShownOfRead : (remaining left : Option (List ℕ)) → (start now : Option (List ℕ)) → (rest : List ℕ) → (count : ℕ) → Type 0
ShownOfRead remaining left start now rest count =
    IfBoth remaining left (λ trace left. (read : List ℕ) × (trace ≡ read ++ left) × SoFar start now read rest count)

-- one more line
pub shows_more : (ds : List (List ℕ)) (d text line : List ℕ) → ShowsAll ds text → Shows d line → ShowsAll (ds ++ d ∷ []) (text ++ line)
shows_more [] d text line h s = (line, [], s, refl, rw h (sym (append-nil line)))
shows_more (x ∷ ds) d text line h s =
    (h.0, h.1 ++ line, h.2, shows_more ds d h.1 line h.3 s, rw h.4 (append_assoc h.0 h.1 line))

counted_more : (n count : ℕ) → count ≡ counted n → min (count + 1) (2 ^ 64 - 1) ≡ counted (n + 1)
counted_more n count h = omega arith

-- One more frame became whole with this piece, and its line was written.
pub one_more : (start old new : Option (List ℕ)) (read rest rest' piece d line : List ℕ) (count count' : ℕ) →
    ((ds : List (List ℕ)) (d rest stream piece : List ℕ) → Splits ds rest stream → IsDatagram d → rest ++ piece ≡ frame d → Splits (ds ++ d ∷ []) [] (stream ++ piece)) →
    IsDatagram d → rest ++ piece ≡ frame d → rest' ≡ [] → Shows d line → Appends old new line → count' ≡ min (count + 1) (2 ^ 64 - 1) →
    SoFar start old read rest count → SoFar start new (read ++ piece) rest' count'
one_more start old new read rest rest' piece d line count count' law is whole empty shows wrote more so =
    record {
      datagrams = so.datagrams ++ d ∷ [];
      splits = rw empty (law so.datagrams d rest read piece so.splits is whole);
      counts =
          let longer : length (so.datagrams ++ d ∷ []) ≡ length so.datagrams + 1 = length-append so.datagrams (d ∷ []) in
          more ∙ counted_more (length so.datagrams) count so.counts ∙ ap counted (sym longer);
      wrote = record {
        text = so.wrote.text ++ line;
        shows = shows_more so.datagrams d so.wrote.text line so.wrote.shows shows;
        appended = Appends-trans start old new so.wrote.text line so.wrote.appended wrote;
      };
    }

-- a beginning of the text, after all of another
front_after : (start old new : Option (List ℕ)) (text line : List ℕ) → Appends start old text → AppendsFront old new line → AppendsFront start new (text ++ line)
front_after start old new text line p q =
    record {
      front = text ++ q.front;
      rest = q.rest;
      parts = ap (λ l. text ++ l) q.parts ∙ sym (append_assoc text q.front q.rest);
      appended = Appends-trans start old new text q.front p q.appended;
    }

-- One more frame became whole within a piece, and a beginning of its line was written.
pub one_begun : (start old new : Option (List ℕ)) (read rest piece d line : List ℕ) (count taken : ℕ) →
    ((ds : List (List ℕ)) (d rest stream piece : List ℕ) → Splits ds rest stream → IsDatagram d → rest ++ piece ≡ frame d → Splits (ds ++ d ∷ []) [] (stream ++ piece)) →
    IsDatagram d → rest ++ take taken piece ≡ frame d → Shows d line → AppendsFront old new line →
    SoFar start old read rest count → ShowedSome (read ++ piece) start new
one_begun start old new read rest piece d line count taken law is whole shows wrote so =
    let splits = law so.datagrams d rest read (take taken piece) so.splits is whole in
    let parts : read ++ piece ≡ (read ++ take taken piece) ++ drop taken piece =
    ap (λ l. read ++ l) (sym (take-append-drop taken piece)) ∙ sym (append_assoc read (take taken piece) (drop taken piece)) in
    record {
      datagrams = so.datagrams ++ d ∷ [];
      after = drop taken piece;
      each = splits.each;
      frames = parts ∙ ap (λ l. l ++ drop taken piece) (splits.whole ∙ append-nil _);
      wrote = record {
        text = so.wrote.text ++ line;
        shows = shows_more so.datagrams d so.wrote.text line so.wrote.shows shows;
        appended = front_after start old new so.wrote.text line so.wrote.appended wrote;
      };
    }

-- a frame that becomes whole takes an octet at least
pub some_taken : (rest piece d : List ℕ) (taken : ℕ) → ((a b : List (List ℕ)) (r s stream : List ℕ) → Splits a r stream → Splits b s stream → (a ≡ b) × (r ≡ s)) →
    ((ds : List (List ℕ)) (d rest stream piece : List ℕ) → Splits ds rest stream → IsDatagram d → rest ++ piece ≡ frame d → Splits (ds ++ d ∷ []) [] (stream ++ piece)) →
    IsRest rest → IsDatagram d → rest ++ take taken piece ≡ frame d → 0 < taken
some_taken rest piece d (suc taken) one law is datagram whole = omega arith
some_taken rest piece d zero one law is datagram whole =
    let none : Splits [] rest rest = record { each = λ k d h. absurd (omega arith); partial = is; whole = refl } in
    let next : Splits (d ∷ []) [] (rest ++ []) = law [] d rest rest [] none datagram whole in
    let met : Splits (d ∷ []) [] rest = subst (Splits (d ∷ []) []) (append-nil rest) next in
    let same = one [] (d ∷ []) rest [] rest none met in
    cc same.0

-- one piece after another
pub goes_on : (a b e : Option (List ℕ)) (r s t : List ℕ) (k l m : ℕ) (piece : List ℕ) (done taken : ℕ) →
    GoesOn a b r s k l (take done piece) → GoesOn b e s t l m (take taken (drop done piece)) → GoesOn a e r t k m (take (done + taken) piece)
goes_on a b e r s t k l m piece done taken p q = λ start read so.
    let next = q start (read ++ take done piece) (p start read so) in
    subst (λ stream. SoFar start e stream t m)
    (append_assoc read (take done piece) (take taken (drop done piece)) ∙ ap (λ x. read ++ x) (sym (take-add done taken piece))) next

-- a piece that was not shown to its end, behind one that was
pub stops_after : (fault : ShowFault) (a b e : Option (List ℕ)) (r s : List ℕ) (k l : ℕ) (piece : List ℕ) (done : ℕ) →
    GoesOn a b r s k l (take done piece) → StopsWithin fault b e s l (drop done piece) → StopsWithin fault a e r k piece
stops_after fault a b e r s k l piece done p q = λ start read so.
    let next = q start (read ++ take done piece) (p start read so) in
    subst (StopsAt fault start e) (append_assoc read (take done piece) (drop done piece) ∙ ap (λ x. read ++ x) (take-append-drop done piece)) next

-- nothing was read
pub goes_nowhere : (a : Option (List ℕ)) (r : List ℕ) (k : ℕ) (piece : List ℕ) → GoesOn a a r r k k (take 0 piece)
goes_nowhere a r k piece = λ start read so. subst (λ stream. SoFar start a stream r k) (sym (append-nil read)) so

-- ---- all that was read

-- a length that is too long stays so, whatever follows
breaks_on : (ds : List (List ℕ)) (read left : List ℕ) → Breaks ds read → Breaks ds (read ++ left)
breaks_on ds read left b =
    record {
      each = b.each;
      after = b.after ++ left;
      too_long = too_long_on b.after left b.too_long;
      whole = ap (λ x. x ++ left) b.whole ∙ append_assoc (flat_map frame ds) b.after left;
    }
  where
    too_long_on : (after left : List ℕ) → BeginsTooLong after → BeginsTooLong (after ++ left)
    too_long_on [] left h = let counted = h.counted in absurd (omega arith)
    too_long_on (x ∷ []) left h = let counted = h.counted in absurd (omega arith)
    too_long_on (x ∷ y ∷ after) left h = record { counted = omega arith; above = h.above }

-- what was written stays so when it is brought out
pub flushed : (remaining left start old out : Option (List ℕ)) (rest : List ℕ) (count : ℕ) → Keeps old out → ShownOfRead remaining left start old rest count → ShownOfRead remaining left start out rest count
flushed None left start old out rest count kept so = tt
flushed (Some t) None start old out rest count kept so = absurd so
flushed (Some t) (Some l) start old out rest count kept so = (
  so.0,
  so.1,
  record {
    datagrams = so.2.datagrams;
    splits = so.2.splits;
    counts = so.2.counts;
    wrote = record { text = so.2.wrote.text; shows = so.2.wrote.shows; appended = Appends-kept start old out so.2.wrote.text so.2.wrote.appended kept };
  },
)

-- a piece was read, and shown
pub read_on : (remaining middle left start old new : Option (List ℕ)) (rest rest' piece : List ℕ) (count count' : ℕ) → Consumes middle left piece → GoesOn old new rest rest' count count' piece →
    ShownOfRead remaining middle start old rest count → ShownOfRead remaining left start new rest' count'
read_on None middle left start old new rest rest' piece count count' took goes so = tt
read_on (Some t) None left start old new rest rest' piece count count' took goes so = absurd so
read_on (Some t) (Some m) None start old new rest rest' piece count count' took goes so = absurd took
read_on (Some t) (Some m) (Some l) start old new rest rest' piece count count' took goes so =
    (so.0 ++ piece, so.1 ∙ ap (λ x. so.0 ++ x) took ∙ sym (append_assoc so.0 piece l), goes start so.0 so.2)

-- why the showing of a piece stopped is why that of the trace does; what comes after changes nothing
stopped_in : (fault : ShowFault) (trace left read : List ℕ) (start new : Option (List ℕ)) → trace ≡ read ++ left → StopsAt fault start new read → StopsIn fault start new trace left
stopped_in (Frame Truncated number) trace left read start new is stops = absurd stops
stopped_in (Frame FrameTooLong number) trace left read start new is stops =
    record { datagrams = stops.datagrams; breaks = rw is (breaks_on stops.datagrams read left stops.breaks); numbered = stops.numbered; wrote = stops.wrote }
stopped_in Read trace left read start new is stops = absurd stops
stopped_in Write trace left read start new is stops =
    record { read = read; whole = is; datagrams = stops.datagrams; after = stops.after; each = stops.each; frames = stops.frames; wrote = stops.wrote }

-- a piece was read, and not shown to its end
pub read_in_vain : (fault : ShowFault) (remaining middle left start old new : Option (List ℕ)) (rest piece : List ℕ) (count : ℕ) → Consumes middle left piece → StopsWithin fault old new rest count piece →
    ShownOfRead remaining middle start old rest count → IfBoth remaining left (StopsIn fault start new)
read_in_vain fault None middle left start old new rest piece count took stops so = tt
read_in_vain fault (Some t) None left start old new rest piece count took stops so = absurd so
read_in_vain fault (Some t) (Some m) None start old new rest piece count took stops so = absurd took
read_in_vain fault (Some t) (Some m) (Some l) start old new rest piece count took stops so =
    stopped_in fault t l (so.0 ++ piece) start new (so.1 ∙ ap (λ x. so.0 ++ x) took ∙ sym (append_assoc so.0 piece l)) (stops start so.0 so.2)
