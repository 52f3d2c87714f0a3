-- A stream has one reading as frames.
use Rattle.std.proofs.Common.{◌≡◌, ℕ, ◌+◌, ◌≤◌, List, [], ◌∷◌, ◌++◌, length, take, drop, All, arith, refl, sym, ◌∙◌, ap, subst, append_assoc, length-append}
use Rattle.std.proofs.lemmas.List.{take_at, drop_at}
use Rattle.std.proofs.lemmas.List.Elements.{All-head, All-tail}
use Rattle.std.specs.List.{flat_map}
use Rattle.byteorder.specs.Endian.{big_number}
use Rattle.rtpwire.specs.declared.limits.TheConstants.{MAX_DATAGRAM}
use Rattle.rtpwire.specs.Framing.{IsDatagram, frame, IsRest, BeginsTooLong, Splits, Breaks}
use Rattle.rtpwire.proofs.Numbers.{number-again}

-- a whole frame stands at the front
record HasFrame (octets : List ℕ) : Type 0 where
  counted : 2 ≤ length octets
  small : big_number 2 octets ≤ MAX_DATAGRAM
  there : 2 + big_number 2 octets ≤ length octets

-- none does
abbrev HasNone : List ℕ → Type 0
HasNone octets = HasFrame octets → ⊥

rest-none : (rest : List ℕ) → IsRest rest → HasNone rest
rest-none rest is has = let short = is.partial has.counted in let whole = has.there in omega arith

too_long-none : (after : List ℕ) → BeginsTooLong after → HasNone after
too_long-none after is has = let above = is.above in let small = has.small in omega arith

-- the length of a frame is read
frame-length : (datagram rest : List ℕ) → IsDatagram datagram → big_number 2 (frame datagram ++ rest) ≡ length datagram
frame-length datagram rest is = let fits = is.fits in number-again 2 (length datagram) (datagram ++ rest) (omega (arith, fits))

frame-there : (datagram rest octets : List ℕ) → IsDatagram datagram → octets ≡ frame datagram ++ rest → HasFrame octets
frame-there datagram rest octets datagram_is is =
    let fits = datagram_is.fits in
    let size : length octets ≡ 2 + (length datagram + length rest) = ap length is ∙ omega (arith, length-append datagram rest) in
    let read : big_number 2 octets ≡ length datagram = ap (big_number 2) is ∙ frame-length datagram rest datagram_is in
    record { counted = omega arith; small = omega arith; there = omega arith }

-- two readings agree on the first frame
record SameFront (d e x y : List ℕ) : Type 0 where
  front : d ≡ e
  back : x ≡ y

same_front : (d e x y : List ℕ) → IsDatagram d → IsDatagram e → frame d ++ x ≡ frame e ++ y → SameFront d e x y
same_front d e x y small_d small_e is =
    let size : length e ≡ length d = sym (frame-length e y small_e) ∙ ap (big_number 2) (sym is) ∙ frame-length d x small_d in
    let after : d ++ x ≡ e ++ y = ap (drop 2) is in
    record {
      front = sym (take_at d x (length d) refl) ∙ ap (take (length d)) after ∙ take_at e y (length d) size;
      back = sym (drop_at d x (length d) refl) ∙ ap (drop (length d)) after ∙ drop_at e y (length d) size;
    }

abbrev stream_of : List (List ℕ) → List ℕ → List ℕ
stream_of datagrams after = flat_map frame datagrams ++ after

pub record SameReading (a b : List (List ℕ)) (r s : List ℕ) : Type 0 where
  pub datagrams : a ≡ b
  pub after : r ≡ s

one_reading : (a b : List (List ℕ)) (r s : List ℕ) → All IsDatagram a → All IsDatagram b → HasNone r → HasNone s → stream_of a r ≡ stream_of b s → SameReading a b r s
one_reading [] [] r s all_a all_b none_r none_s is = record { datagrams = refl; after = is }
one_reading [] (e ∷ b) r s all_a all_b none_r none_s is =
    absurd (none_r (frame-there e (stream_of b s) r (All-head IsDatagram e b all_b) (is ∙ append_assoc (frame e) (flat_map frame b) s)))
one_reading (d ∷ a) [] r s all_a all_b none_r none_s is =
    absurd (none_s (frame-there d (stream_of a r) s (All-head IsDatagram d a all_a) (sym is ∙ append_assoc (frame d) (flat_map frame a) r)))
one_reading (d ∷ a) (e ∷ b) r s all_a all_b none_r none_s is =
    let same = same_front d e (stream_of a r) (stream_of b s) (All-head IsDatagram d a all_a) (All-head IsDatagram e b all_b)
    (sym (append_assoc (frame d) (flat_map frame a) r) ∙ is ∙ append_assoc (frame e) (flat_map frame b) s) in
    let next = one_reading a b r s (All-tail IsDatagram d a all_a) (All-tail IsDatagram e b all_b) none_r none_s same.back in
    record {
      datagrams = ap (λ (x : List ℕ). x ∷ a) same.front ∙ ap (λ (xs : List (List ℕ)). e ∷ xs) next.datagrams;
      after = next.after;
    }

pub splits_once : (a b : List (List ℕ)) (r s stream : List ℕ) → Splits a r stream → Splits b s stream → SameReading a b r s
splits_once a b r s stream x y =
    one_reading a b r s x.each y.each (rest-none r x.partial) (rest-none s y.partial) (sym x.whole ∙ y.whole)

pub breaks_once : (a b : List (List ℕ)) (stream : List ℕ) (x : Breaks a stream) (y : Breaks b stream) → SameReading a b x.after y.after
breaks_once a b stream x y =
    one_reading a b x.after y.after x.each y.each (too_long-none x.after x.too_long) (too_long-none y.after y.too_long) (sym x.whole ∙ y.whole)

pub splits_or_breaks : (a b : List (List ℕ)) (rest stream : List ℕ) → Splits a rest stream → Breaks b stream → ⊥
splits_or_breaks a b rest stream x y =
    let same = one_reading a b rest y.after x.each y.each (rest-none rest x.partial) (too_long-none y.after y.too_long) (sym x.whole ∙ y.whole) in
    let above : BeginsTooLong rest = subst BeginsTooLong (sym same.after) y.too_long in
    let small = x.partial.short above.counted in
    let big = above.above in
    omega arith
