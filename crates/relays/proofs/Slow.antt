-- A far side whose datagrams lie far apart is not quiet before four of its gaps.
use Rattle.std.proofs.Common.{◌≡◌, ℕ, ◌+◌, ◌-◌, ◌*◌, ◌/◌, ◌≤◌, List, [], ◌∷◌, min, arith}
use Rattle.std.specs.declared.net.socket_addr.SocketAddr.{SocketAddr}
use Rattle.std.proofs.Math.Nat.{mul-add, mul-le-mul_right}
use Rattle.std.proofs.lemmas.Nat.{le-div, mul-le}
use Rattle.relays.specs.Capping.{capped}
use Rattle.relays.specs.FarSide.{AreApart, heard_all, mean_with, quiet_for}

-- a mean of so many stays above it with one gap more that is no shorter
stays : (g span rest mean : ℕ) → g ≤ span → span ≤ 250 → span + rest ≡ 1000 → 1000 * g ≤ mean → 1000 * g ≤ capped (capped (mean * rest) / 1000 + capped (span * span))
stays g span rest mean less short whole enough =
    let wide : 1000 * g * rest ≤ mean * rest = mul-le-mul_right rest enough in
    let few : g * rest ≤ 250 * 1000 = mul-le g rest 250 1000 (omega arith) (omega arith) in
    let turned : g * rest * 1000 ≤ capped (mean * rest) = grind (arith, wide, few) in
    let part : g * rest ≤ capped (mean * rest) / 1000 = le-div (g * rest) (capped (mean * rest)) 1000 (omega arith) turned in
    let square : g * span ≤ span * span = mul-le-mul_right span less in
    let small : span * span ≤ 250 * 250 = mul-le span span 250 250 short short in
    let both : g * (span + rest) ≡ g * span + g * rest = mul-add g span rest in
    let all : 1000 * g ≡ g * span + g * rest = grind (arith, both, whole) in
    grind (arith, part, square, small, all, few)

mean_stays : (g span mean : ℕ) → g ≤ span → span ≤ 250 → 1000 * g ≤ mean → 1000 * g ≤ mean_with span mean
mean_stays g span mean less short enough = stays g span (1000 - span) mean less short (omega arith) enough

means : (at : SocketAddr) (g : ℕ) (moments : List ℕ) → g ≤ 250 → AreApart g moments → 1000 * g ≤ (heard_all at moments).gap
means at g [] short apart = omega arith
means at g (now ∷ []) short apart = omega arith
means at g (now ∷ last ∷ before) short apart =
    let wide = apart.0 in
    mean_stays g (min (now - last) 250) (heard_all at (last ∷ before)).gap (omega arith) (omega arith) (means at g (last ∷ before) short apart.1)

pub waited_for : (at : SocketAddr) (g : ℕ) (moments : List ℕ) → g ≤ 250 → AreApart g moments → 4 * g ≤ quiet_for (heard_all at moments)
waited_for at g moments short apart =
    let mean = means at g moments short apart in
    let four : 4 * g ≤ (heard_all at moments).gap / 250 = le-div (4 * g) (heard_all at moments).gap 250 (omega arith) (omega arith) in
    omega arith
