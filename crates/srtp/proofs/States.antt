-- The states of four blocks in the lanes of words.
use Rattle.std.proofs.Common.{◌≡◌, ℕ, ◌<◌, List, ◌∙◌, arith}
use Rattle.std.proofs.lemmas.List.FromFn.{fill_by_all, length-map-range_with_len, get_or-map-range_with_len}
use Rattle.srtp.specs.Aes.{state_of, sub_byte, sub_bytes}
use Rattle.srtp.specs.Lanes.{lane, lane_of, state_in}

pub lane_below : (block place : ℕ) → block < 4 → place < 16 → lane_of block place < 64
lane_below block place b p = omega arith

-- the same octets make the same state
pub same_states : (f g : ℕ → ℕ) → ((i : ℕ) → i < 16 → f i ≡ g i) → state_of f ≡ state_of g
same_states f g same =
    fill_by_all g (state_of f) 16 0 (length-map-range_with_len f 0 16)
    (λ i lt. get_or-map-range_with_len f 0 16 i i 0 lt (omega arith) ∙ same i lt)

-- every octet goes through the S-box
pub substituted : (words out : List ℕ) → ((l : ℕ) → l < 64 → lane out l ≡ sub_byte (lane words l)) → (b : ℕ) → b < 4
    → state_in out b ≡ sub_bytes (state_in words b)
unfolding state_in
substituted words out each b lt =
    same_states (λ i. lane out (lane_of b i)) (λ i. sub_byte (lane words (lane_of b i)))
    (λ i p. each (lane_of b i) (lane_below b i lt p))
