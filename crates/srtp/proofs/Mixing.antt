-- The steps of a round, in lanes.
use Rattle.std.proofs.Common.{◌≡◌, ℕ, zero, suc, ◌+◌, ◌*◌, ◌/◌, ◌%◌, ◌^◌, ◌<◌, ◌==◌, ◌&&◌, nat_lt, Bool, true, List, [], ◌∷◌, get_or, bit_xor, refl, sym, ap, ◌∙◌, arith}
use Rattle.std.proofs.lemmas.Bool.{agree_below, agree_below_at, eqb-true, ltb-true, and_parts}
use Rattle.std.proofs.lemmas.List.FromFn.{get_or-map-range_with_len}
use Rattle.std.proofs.lemmas.Nat.{xor_lt, xor_mod, xor_block, xor_comm}
use Rattle.std.proofs.lemmas.Nat.Bits.{bit_at-lt}
use Rattle.std.specs.Int.{bit_at}
use Rattle.std.specs.Int.Bits.{xor_assoc}
use Rattle.srtp.specs.Octets.{xor_octets}
use Rattle.srtp.specs.Field.{xtime}
use Rattle.srtp.specs.Aes.{state_of, octet_at, shifted, shift_rows, mixed, mix_columns}
use Rattle.srtp.specs.Lanes.{number_of, lane, lane_of, state_in, swapped, row_shifted}
use Rattle.srtp.proofs.LaneBits.{xor_at, lane_bit, lane_lt, lane_from, bits_of, lane_bits}
use Rattle.srtp.proofs.States.{lane_below, same_states}
use Rattle.srtp.proofs.Each.{each_of_8}

-- ---- octets of a lane

-- Words made one by one from those of one list: a bit of theirs that is a bit of the old words.
pub lane_moved : (words : List ℕ) (l m : ℕ) (a b c d e f g h : ℕ)
    → bit_at a l ≡ bit_at (get_or words 0 0) m → bit_at b l ≡ bit_at (get_or words 1 0) m
    → bit_at c l ≡ bit_at (get_or words 2 0) m → bit_at d l ≡ bit_at (get_or words 3 0) m
    → bit_at e l ≡ bit_at (get_or words 4 0) m → bit_at f l ≡ bit_at (get_or words 5 0) m
    → bit_at g l ≡ bit_at (get_or words 6 0) m → bit_at h l ≡ bit_at (get_or words 7 0) m
    → lane (a ∷ b ∷ c ∷ d ∷ e ∷ f ∷ g ∷ h ∷ []) l ≡ lane words m
lane_moved words l m a b c d e f g h pa pb pc pd pe pf pg ph =
    lane_from (a ∷ b ∷ c ∷ d ∷ e ∷ f ∷ g ∷ h ∷ []) l (lane words m) (lane_lt words m) (λ k lt.
    each_of_8 (λ k. bit_at (get_or (a ∷ b ∷ c ∷ d ∷ e ∷ f ∷ g ∷ h ∷ []) k 0) l
    ≡ bit_at (get_or words k 0) m) pa pb pc pd pe pf pg ph k lt
    ∙ sym (lane_bit words m k lt))

-- the words of two lists by exclusive or
abbrev pub word_sums : (x y : List ℕ) → List ℕ
word_sums x y =
    let sum : ℕ → ℕ = λ k. bit_xor (get_or x k 0) (get_or y k 0) in
    sum 0 ∷ sum 1 ∷ sum 2 ∷ sum 3 ∷ sum 4 ∷ sum 5 ∷ sum 6 ∷ sum 7 ∷ []

pub lane_sum : (x y : List ℕ) (l : ℕ) → lane (word_sums x y) l ≡ bit_xor (lane x l) (lane y l)
lane_sum x y l =
    lane_from (word_sums x y) l (bit_xor (lane x l) (lane y l))
    (xor_lt 8 (lane x l) (lane y l) (lane_lt x l) (lane_lt y l))
    (each_of_8 (λ k. bit_at (get_or (word_sums x y) k 0) l ≡ bit_at (bit_xor (lane x l) (lane y l)) k)
    (both 0 (omega arith)) (both 1 (omega arith)) (both 2 (omega arith)) (both 3 (omega arith))
    (both 4 (omega arith)) (both 5 (omega arith)) (both 6 (omega arith)) (both 7 (omega arith)))
  where
    both : (k : ℕ) → k < 8 → bit_at (bit_xor (get_or x k 0) (get_or y k 0)) l ≡ bit_at (bit_xor (lane x l) (lane y l)) k
    both k lt =
        xor_at (get_or x k 0) (get_or y k 0) l
        ∙ (λ i. bit_xor (sym (lane_bit x l k lt) i) (sym (lane_bit y l k lt) i))
        ∙ sym (xor_at (lane x l) (lane y l) k)

-- the product by x, bit by bit
abbrev pub doubled : List ℕ → List ℕ
doubled bits =
    let bit : ℕ → ℕ = λ k. get_or bits k 0 in
    bit 7 ∷ bit_xor (bit 0) (bit 7) ∷ bit 1 ∷ bit_xor (bit 2) (bit 7) ∷ bit_xor (bit 3) (bit 7)
    ∷ bit 4 ∷ bit 5 ∷ bit 6 ∷ []

all_double : agree_below (λ b. number_of (λ k. get_or (doubled (bits_of b)) k 0) 8 == xtime b) (λ b. true) 256 ≡ true
unfolding number_of bits_of
all_double = refl

bits_doubled : (words : List ℕ) (l : ℕ)
    → lane (doubled words) l ≡ number_of (λ k. get_or (doubled (bits_of (lane words l))) k 0) 8
unfolding number_of lane
bits_doubled words l = rw (lane_bits words l) (simp xor_at)

pub lane_doubled : (words : List ℕ) (l : ℕ) → lane (doubled words) l ≡ xtime (lane words l)
lane_doubled words l =
    bits_doubled words l
    ∙ eqb-true _ _
    (agree_below_at (λ b. number_of (λ k. get_or (doubled (bits_of b)) k 0) 8 == xtime b) (λ b. true) 256
    (lane words l) all_double (lane_lt words l))

-- ---- rows

-- two swaps make a shift of all rows
shifts : ℕ → Bool
shifts m =
    let last = swapped 0x000f_00ff_00f0_0000 8 m in
    nat_lt last 64 && (swapped 0x0f0f_0000_0f0f_0000 4 last == row_shifted m)

all_shift : agree_below shifts (λ m. true) 64 ≡ true
unfolding shifts
all_shift = refl

pub shift_at : (word once twice m : ℕ)
    → ((l : ℕ) → l < 64 → bit_at once l ≡ bit_at word (swapped 0x0f0f_0000_0f0f_0000 4 l))
    → ((l : ℕ) → l < 64 → bit_at twice l ≡ bit_at once (swapped 0x000f_00ff_00f0_0000 8 l))
    → m < 64 → bit_at twice m ≡ bit_at word (row_shifted m)
unfolding shifts
shift_at word once twice m first second lt =
    let p = and_parts _ _ (agree_below_at shifts (λ n. true) 64 m all_shift lt) in
    second m lt ∙ first (swapped 0x000f_00ff_00f0_0000 8 m) (ltb-true _ _ p.0) ∙ ap (bit_at word) (eqb-true _ _ p.1)

-- an octet of a state, by row and column
octet_of : (f : ℕ → ℕ) (row column : ℕ) → octet_at (state_of f) row column ≡ f (row % 4 + 4 * (column % 4))
octet_of f row column = get_or-map-range_with_len f 0 16 (row % 4 + 4 * (column % 4)) _ 0 (omega arith) (omega arith)

pub rows_shifted : (words out : List ℕ) → ((l : ℕ) → l < 64 → lane out l ≡ lane words (row_shifted l)) → (b : ℕ) → b < 4
    → state_in out b ≡ shift_rows (state_in words b)
unfolding state_in shift_rows
rows_shifted words out each b four =
    let f : ℕ → ℕ = λ i. lane words (lane_of b i) in
    same_states (λ i. lane out (lane_of b i)) (shifted (state_of f)) (λ i lt.
    let place : row_shifted (lane_of b i) ≡ lane_of b (i % 4 % 4 + 4 * ((i / 4 + i % 4) % 4)) = omega arith in
    each (lane_of b i) (lane_below b i four lt) ∙ ap (lane words) place ∙ sym (octet_of f (i % 4) (i / 4 + i % 4)))

-- ---- columns

-- the product by x of a sum is the sum of the products
bit_times : (x y : ℕ) → x < 2 → y < 2 → bit_xor x y * 0x1b ≡ bit_xor (x * 0x1b) (y * 0x1b)
bit_times zero zero lx ly = refl
bit_times zero (suc zero) lx ly = refl
bit_times (suc zero) zero lx ly = refl
bit_times (suc zero) (suc zero) lx ly = refl
bit_times zero (suc (suc y)) lx ly = absurd (omega arith)
bit_times (suc zero) (suc (suc y)) lx ly = absurd (omega arith)
bit_times (suc (suc x)) y lx ly = absurd (omega arith)

-- sums of two and two
xor_four : (a b c d : ℕ) → bit_xor (bit_xor a b) (bit_xor c d) ≡ bit_xor (bit_xor a c) (bit_xor b d)
xor_four a b c d =
    let inner : bit_xor b (bit_xor c d) ≡ bit_xor c (bit_xor b d) =
    sym (xor_assoc b c d) ∙ ap (λ x. bit_xor x d) (xor_comm b c) ∙ xor_assoc c b d in
    xor_assoc a b (bit_xor c d) ∙ ap (bit_xor a) inner ∙ sym (xor_assoc a c (bit_xor b d))

times_two : (a b : ℕ) → bit_xor a b * 2 ≡ bit_xor (a * 2) (b * 2)
times_two a b =
    let whole : (n : ℕ) → n * 2 ≡ n * 2 ^ 1 + 0 = λ n. omega arith in
    whole (bit_xor a b) ∙ sym (xor_block 1 a b 0 0 (omega arith) (omega arith))
    ∙ (λ i. bit_xor (sym (whole a) i) (sym (whole b) i))

xtime_sum : (a b : ℕ) → xtime (bit_xor a b) ≡ bit_xor (xtime a) (xtime b)
xtime_sum a b =
    let twice : bit_xor a b * 2 ≡ bit_xor (a * 2) (b * 2) = times_two a b in
    let low : bit_xor a b * 2 % 256 ≡ bit_xor (a * 2 % 256) (b * 2 % 256) =
    ap (λ n. n % 256) twice ∙ xor_mod (a * 2) (b * 2) 8 in
    let top : bit_at (bit_xor a b) 7 * 0x1b ≡ bit_xor (bit_at a 7 * 0x1b) (bit_at b 7 * 0x1b) =
    ap (λ n. n * 0x1b) (xor_at a b 7) ∙ bit_times (bit_at a 7) (bit_at b 7) (bit_at-lt a 7) (bit_at-lt b 7) in
    (λ i. bit_xor (low i) (top i)) ∙ xor_four (a * 2 % 256) (b * 2 % 256) (bit_at a 7 * 0x1b) (bit_at b 7 * 0x1b)

mix_sum : (a b c d : ℕ)
    → bit_xor (bit_xor (xtime (bit_xor a b)) b) (bit_xor c d)
    ≡ bit_xor (bit_xor (bit_xor (xtime a) (bit_xor (xtime b) b)) c) d
mix_sum a b c d =
    rw (xtime_sum a b, xor_assoc (xtime a) (xtime b) b) (sym (xor_assoc (bit_xor (xtime a) (bit_xor (xtime b) b)) c d))

-- the lanes of the next row, and of the row after it
abbrev below : ℕ → ℕ
below l = (l + 16) % 64

abbrev across : ℕ → ℕ
across l = (l + 32) % 64

pub columns_mixed : (words next both product near far out : List ℕ)
    → ((l : ℕ) → l < 64 → lane next l ≡ lane words ((l + 16) % 64))
    → ((l : ℕ) → lane both l ≡ bit_xor (lane words l) (lane next l))
    → ((l : ℕ) → lane product l ≡ xtime (lane both l))
    → ((l : ℕ) → lane near l ≡ bit_xor (lane product l) (lane next l))
    → ((l : ℕ) → l < 64 → lane far l ≡ lane both ((l + 32) % 64))
    → ((l : ℕ) → lane out l ≡ bit_xor (lane near l) (lane far l))
    → (b : ℕ) → b < 4 → state_in out b ≡ mix_columns (state_in words b)
unfolding state_in mix_columns
columns_mixed words next both product near far out is_next is_both is_product is_near is_far is_out b four =
    same_states (λ i. lane out (lane_of b i)) (mixed (state_of f))
    (λ i lt. made (lane_of b i) (lane_below b i four lt) ∙ octets i lt)
  where
    f : ℕ → ℕ
    f i = lane words (lane_of b i)

    sums : ℕ → ℕ → ℕ → ℕ → ℕ
    sums w x y z = bit_xor (bit_xor (bit_xor (xtime w) (bit_xor (xtime x) x)) y) z

    made : (l : ℕ) → l < 64
        → lane out l
        ≡ sums (lane words l) (lane words (below l)) (lane words (across l)) (lane words (below (across l)))
    made l lt =
        let there : across l < 64 = omega arith in
        let far_is : lane far l ≡ bit_xor (lane words (across l)) (lane words (below (across l))) =
        is_far l lt ∙ is_both (across l) ∙ ap (bit_xor (lane words (across l))) (is_next (across l) there) in
        rw (is_out l, is_near l, is_product l, far_is, is_both l, is_next l lt)
        (mix_sum (lane words l) (lane words (below l)) (lane words (across l)) (lane words (below (across l))))

    octets : (i : ℕ) → i < 16
        → let l = lane_of b i in
        sums (lane words l) (lane words (below l)) (lane words (across l)) (lane words (below (across l)))
        ≡ mixed (state_of f) i
    octets i lt =
        let l : ℕ = lane_of b i in
        let place : ℕ → ℕ = λ n. lane_of b ((i % 4 + n) % 4 + 4 * (i / 4 % 4)) in
        let here : l ≡ lane_of b (i % 4 % 4 + 4 * (i / 4 % 4)) = omega arith in
        let second : below l ≡ place 1 = omega arith in
        let third : across l ≡ place 2 = omega arith in
        let fourth : below (across l) ≡ place 3 = omega arith in
        let w = ap (lane words) here ∙ sym (octet_of f (i % 4) (i / 4)) in
        let x = ap (lane words) second ∙ sym (octet_of f (i % 4 + 1) (i / 4)) in
        let y = ap (lane words) third ∙ sym (octet_of f (i % 4 + 2) (i / 4)) in
        let z = ap (lane words) fourth ∙ sym (octet_of f (i % 4 + 3) (i / 4)) in
        (λ j. sums (w j) (x j) (y j) (z j))

-- ---- round keys

pub key_added : (words key out : List ℕ) → ((l : ℕ) → lane out l ≡ bit_xor (lane words l) (lane key l))
    → (b : ℕ) → b < 4 → state_in out b ≡ xor_octets (state_in words b) (state_in key b)
unfolding state_in
key_added words key out each b four =
    same_states (λ i. lane out (lane_of b i)) (λ i. bit_xor (lane words (lane_of b i)) (lane key (lane_of b i)))
    (λ i lt. each (lane_of b i))
