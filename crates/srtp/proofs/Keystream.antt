-- How a keystream grows.
use Rattle.std.proofs.Common.{◌≡◌, ℕ, zero, suc, ◌+◌, ◌-◌, ◌*◌, ◌/◌, ◌%◌, ◌<◌, ◌≤◌, min, List, [], ◌∷◌, ◌++◌, get_or, length, take, drop, replicate, refl, ap, ◌∙◌, sym, append_assoc, append-nil, length-append, length-drop, inl, inr, arith}
use Rattle.std.proofs.lemmas.List.{take_all, take_at, length-replicate, take-take}
use Rattle.std.proofs.Math.Seq.{take-append-add}
use Rattle.std.proofs.lemmas.Bool.{cases_lt}
use Rattle.std.specs.List.{flat_map}
use Rattle.srtp.specs.Octets.{xor_octets}
use Rattle.srtp.specs.Aes.{aes128, shift_rows, sub_bytes}
use Rattle.srtp.specs.Lanes.{state_in}
use Rattle.srtp.specs.Counter.{keystream, encrypted, counter_block, block_count}
use Rattle.srtp.proofs.Xor.{xor_append, drop-xor, xor_take, length-xor, xor_twice, xor_zeros}

pub length-aes128 : (key block : List ℕ) → length (aes128 key block) ≡ 16
unfolding aes128 shift_rows
length-aes128 key block = length-xor (shift_rows (sub_bytes _)) _

pub length-keystream : (key base : List ℕ) (n : ℕ) → length (keystream key base n) ≡ 16 * n
unfolding keystream
length-keystream key base zero = refl
length-keystream key base (suc n) =
    let e = length-append (keystream key base n) (aes128 key (counter_block base n)) in
    omega (arith, e, length-keystream key base n, length-aes128 key (counter_block base n))

-- A text whose beginning is encrypted, and then the next octets of the stream, of which no more are used than the text
-- has.
next_made : (text stream made : List ℕ) (at len : ℕ) → length stream ≡ at → at ≤ length text
    → len ≡ min (length made) (length text - at)
    → take at (xor_octets text stream) ++ xor_octets (drop at (xor_octets text stream)) (take len made)
    ≡ xor_octets text (stream ++ made)
next_made text stream made at len size fits e =
    let rest : length (drop at text) ≡ length text - at = length-drop at text in
    let used : xor_octets (drop at text) (take len made) ≡ xor_octets (drop at text) made =
    elim (cases_lt len (length made)) [
      | inl short ↦ xor_take (drop at text) made len (omega arith)
      | inr full ↦ ap (xor_octets (drop at text)) (take_all len made (omega arith))
    ] in
    let kept : drop at (xor_octets text stream) ≡ drop at text = rw (← size) (drop-xor text stream) in
    let both : xor_octets text (stream ++ made) ≡ take at (xor_octets text stream) ++ xor_octets (drop at text) made =
    rw (← size) (xor_append text stream made (omega arith)) in
    rw (kept, used, ← both) refl

-- blocks past the end of a text are not used
pub no_longer : (key base text : List ℕ) (n m : ℕ) → length text ≤ 16 * n → n ≤ m
    → xor_octets text (keystream key base m) ≡ xor_octets text (keystream key base n)
unfolding keystream
no_longer key base text n zero enough le =
    let e : n ≡ 0 = omega arith in
    rw e refl
no_longer key base text n (suc m) enough le = elim (cases_lt m n) [
  | inl last ↦
      let e : n ≡ suc m = omega arith in
      rw e refl
  | inr more ↦
      let stream = keystream key base m in
      let size : length stream ≡ 16 * m = length-keystream key base m in
      let unused : xor_octets text (take (length stream) (stream ++ aes128 key (counter_block base m)))
      ≡ xor_octets text (stream ++ aes128 key (counter_block base m)) =
      xor_take text (stream ++ aes128 key (counter_block base m)) (length stream) (omega arith) in
      sym unused ∙ rw (take_at stream (aes128 key (counter_block base m)) (length stream) refl)
      (no_longer key base text n m enough more)
]

-- so many blocks of the keystream, from one on
stream_from : (key base : List ℕ) (n m : ℕ) → List ℕ
stream_from key base n zero = []
stream_from key base n (suc m) = aes128 key (counter_block base n) ++ stream_from key base (suc n) m

stream_grows : (key base : List ℕ) (n m : ℕ)
    → keystream key base n ++ stream_from key base n m ≡ keystream key base (n + m)
unfolding keystream stream_from
stream_grows key base n zero =
    let none : n + 0 ≡ n = omega arith in
    rw (none, append-nil) refl
stream_grows key base n (suc m) =
    let next : n + suc m ≡ suc n + m = omega arith in
    rw (next, ← append_assoc) (stream_grows key base (suc n) m)

length-stream : (key base : List ℕ) (n m : ℕ) → length (stream_from key base n m) ≡ 16 * m
unfolding stream_from
length-stream key base n zero = refl
length-stream key base n (suc m) =
    let e = length-append (aes128 key (counter_block base n)) (stream_from key base (suc n) m) in
    omega (arith, e, length-stream key base (suc n) m, length-aes128 key (counter_block base n))

-- blocks that are the keystream's, joined: what stands behind the first so many is not used
stream_taken : (key base : List ℕ) (made : List (List ℕ)) (n m : ℕ) → m ≤ length made
    → ((i : ℕ) → i < m → get_or made i [] ≡ aes128 key (counter_block base (n + i)))
    → take (16 * m) (flat_map (λ octets. octets) made) ≡ stream_from key base n m
unfolding stream_from
stream_taken key base made n zero le each = refl
stream_taken key base [] n (suc m) le each = absurd (omega arith)
stream_taken key base (block ∷ made) n (suc m) le each =
    let same : n + 0 ≡ n = omega arith in
    let first : block ≡ aes128 key (counter_block base n) =
    each 0 (omega arith) ∙ ap (λ i. aes128 key (counter_block base i)) same in
    let size : length block ≡ 16 = ap length first ∙ length-aes128 key (counter_block base n) in
    let more : 16 * suc m ≡ length block + 16 * m = omega arith in
    let rest : take (16 * m) (flat_map (λ (octets : List ℕ). octets) made) ≡ stream_from key base (suc n) m =
    stream_taken key base made (suc n) m (omega arith) (λ i lt.
    let next : n + suc i ≡ suc n + i = omega arith in
    each (suc i) (omega arith) ∙ ap (λ k. aes128 key (counter_block base k)) next) in
    rw more (take-append-add block (flat_map (λ (octets : List ℕ). octets) made) (16 * m) ∙ (λ i. first i ++ rest i))

-- The blocks of four times four states.
pub chunk_is : (key base : List ℕ) (states ours made : List (List ℕ)) (n : ℕ)
    → ((empty : List ℕ) (j b : ℕ) → j < 4 → b < 4
    → state_in (get_or states j empty) b ≡ counter_block base (n + 4 * j + b))
    → ((empty : List ℕ) (j b : ℕ) → j < 4 → b < 4
    → state_in (get_or ours j empty) b ≡ aes128 key (state_in (get_or states j empty) b))
    → ((none empty : List ℕ) (i : ℕ) → i < 16 → get_or made i none ≡ state_in (get_or ours (i / 4) empty) (i % 4))
    → (i : ℕ) → i < 16 → get_or made i [] ≡ aes128 key (counter_block base (n + i))
chunk_is key base states ours made n counted encrypted laid i lt =
    let place : n + 4 * (i / 4) + i % 4 ≡ n + i = omega arith in
    laid [] [] i lt
    ∙ encrypted [] (i / 4) (i % 4) (omega arith) (omega arith)
    ∙ ap (aes128 key) (counted [] (i / 4) (i % 4) (omega arith) (omega arith) ∙ ap (counter_block base) place)

-- A text whose beginning is encrypted, and then the next chunk of 16 blocks, of which the text may end in any.
pub next_chunk : (key base text now new flat : List ℕ) (made : List (List ℕ)) (j len : ℕ)
    → now ≡ xor_octets text (keystream key base (16 * j))
    → 256 * j ≤ length text → len ≡ min 256 (length now - 256 * j) → length made ≡ 16
    → ((i : ℕ) → i < 16 → get_or made i [] ≡ aes128 key (counter_block base (16 * j + i)))
    → flat ≡ flat_map (λ octets. octets) made
    → new ≡ take (256 * j) now ++ xor_octets (drop (256 * j) now) (take len flat)
    → new ≡ xor_octets text (keystream key base (16 * (j + 1)))
next_chunk key base text now new flat made j len held fits e whole each is put =
    let n = 16 * j in
    let m = block_count len in
    let stream = keystream key base n in
    let more = stream_from key base n m in
    let size : length stream ≡ 256 * j = omega (arith, length-keystream key base n) in
    let longer : length more ≡ 16 * m = length-stream key base n m in
    let same : length now ≡ length text = ap length held ∙ length-xor text stream in
    let used : take len flat ≡ take len more =
    ap (take len) is ∙ sym (take-take len (16 * m) _ (omega arith))
    ∙ ap (take len) (stream_taken key base made n m (omega arith) (λ i lt. each i (omega arith))) in
    put
    ∙ rw (held, used) (next_made text stream more (256 * j) len size fits (omega arith))
    ∙ ap (xor_octets text) (stream_grows key base n m)
    ∙ elim (cases_lt m 16) [
      | inl last ↦ sym (no_longer key base text (n + m) (16 * (j + 1)) (omega arith) (omega arith))
      | inr full ↦
          let next : n + m ≡ 16 * (j + 1) = omega arith in
          ap (λ k. xor_octets text (keystream key base k)) next
    ]

-- what is encrypted twice is as it was
pub encrypted_twice : (key base text : List ℕ) → encrypted key base (encrypted key base text) ≡ text
unfolding encrypted
encrypted_twice key base text =
    let same : length (xor_octets text (keystream key base (block_count (length text)))) ≡ length text =
    length-xor text _ in
    rw same (xor_twice text (keystream key base (block_count (length text))))

pub length-encrypted : (key base text : List ℕ) → length (encrypted key base text) ≡ length text
unfolding encrypted
length-encrypted key base text = length-xor text _

pub encrypted_zeros : (key base : List ℕ) (n : ℕ)
    → encrypted key base (replicate n 0) ≡ take n (keystream key base (block_count n))
unfolding encrypted
encrypted_zeros key base n =
    let size = length-keystream key base (block_count n) in
    rw (length-replicate n) (xor_zeros n _ (omega arith))
