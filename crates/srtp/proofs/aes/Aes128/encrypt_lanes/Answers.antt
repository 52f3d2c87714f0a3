use Rattle.std.proofs.Common.{◌≡◌, ◌+◌, ◌-◌, ℕ, suc, List, [], refl, arith}
use Rattle.srtp.specs.Octets.{xor_octets}
use Rattle.srtp.specs.Aes.{rounds, round_key, aes128, shift_rows, sub_bytes, mix_columns}
use Rattle.srtp.proofs.aes.Aes128.encrypt_lanes.Goals as goal

first_is : (key block used given out : List ℕ) → used ≡ given → given ≡ round_key key 0 → out ≡ xor_octets block used
    → out ≡ rounds key block 0
unfolding rounds
first_is key block used given out a b d = rw (d, a, b) refl

-- the state after one round more
round_is : (key block state used given out : List ℕ) (r n : ℕ) → state ≡ rounds key block n → used ≡ given
    → given ≡ round_key key r
    → out ≡ xor_octets (mix_columns (shift_rows (sub_bytes state))) used → r ≡ suc n → out ≡ rounds key block r
unfolding rounds
round_is key block state used given out r n held a b d e = rw (d, held, a, b, e) refl

last_is : (key block state used given out : List ℕ) (n : ℕ) → state ≡ rounds key block n → used ≡ given
    → given ≡ round_key key 10
    → out ≡ xor_octets (shift_rows (sub_bytes state)) used → n ≡ 9 → out ≡ aes128 key block
unfolding aes128
last_is key block state used given out n held a b d e = rw (d, held, a, b, e) refl

pub loop-r-init : goal.loop-r-init
loop-r-init c = λ key empty j b keys lt four.
    first_is key _ _ _ _ (c.args.self.now.in_lanes [] _ 0 b (omega arith) four) (keys [] 0 (omega arith))
    (c.add_first_key.ensures empty j b lt four)

pub loop-r-preserved : goal.loop-r-preserved
loop-r-preserved c = λ key empty j b keys lt four.
    let this : c.loop-r.r + 1 - 1 ≡ c.loop-r.r = omega arith in
    rw this
    (round_is key _ _ _ _ _ c.loop-r.r (c.loop-r.r - 1) (c.loop-r.invariant key empty j b keys lt four)
    (c.args.self.now.in_lanes [] _ c.loop-r.r b (omega arith) four) (keys [] c.loop-r.r (omega arith))
    (c.make_round.ensures empty j b (omega arith) four) (omega arith))

pub returns : goal.returns
returns c = λ key empty j b keys lt four.
    last_is key _ _ _ _ _ (c.loop-r.r - 1) (c.loop-r.invariant key empty j b keys lt four)
    (c.args.self.now.in_lanes [] _ 10 b (omega arith) four) (keys [] 10 (omega arith))
    (c.make_last_round.ensures empty j b (omega arith) four) (omega arith)
