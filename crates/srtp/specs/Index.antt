-- The index of an SRTP packet: 48 bits, of which the packet carries the lowest 16 (RFC 3711, section 3.3.1 and appendix A).
use Rattle.std.specs.Prelude.{ℕ, ◌+◌, ◌-◌, ◌*◌, ◌/◌, ◌%◌, ◌^◌, nat_lt, if◌then◌else◌}

-- the guess v of the rollover counter of a packet with the number SEQ, from ROC and s_l, the highest number; appendix A
abbrev pub guessed_rollover : (rollover highest seq : ℕ) → ℕ
guessed_rollover rollover highest seq =
    if nat_lt highest 32768
    then (if nat_lt 32768 (seq - highest) then (rollover + (2 ^ 32 - 1)) % 2 ^ 32 else rollover)
    else (if nat_lt seq (highest - 32768) then (rollover + 1) % 2 ^ 32 else rollover)

-- the index 2^16 v + SEQ of a packet, from the highest index, which is 2^16 ROC + s_l
abbrev pub guessed_index : (highest seq : ℕ) → ℕ
guessed_index highest seq = 65536 * guessed_rollover (highest / 65536) (highest % 65536) seq + seq
