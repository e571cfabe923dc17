-- A tick is never 0.
use Rattle.std.proofs.Common.{ℕ, zero, suc, ◌/◌, ◌%◌, ◌^◌, ◌<◌, ◌≤◌, [], ◌∷◌, get_or, mod-lt, mul-pos, arith}
use native.Mathlib.Nat.{pow-le-pow_right}
use Rattle.orders.specs.Ticks.{tick_of}

lead_some : (k : ℕ) → k < 3 → 0 < get_or (1 ∷ 2 ∷ 5 ∷ []) k 0
lead_some zero h = omega arith
lead_some (suc zero) h = omega arith
lead_some (suc (suc zero)) h = omega arith
lead_some (suc (suc (suc k))) h = absurd (omega arith)

pub tick_some : (class : ℕ) → 0 < tick_of class
tick_some class =
    let power : 10 ^ 0 ≤ 10 ^ (class / 3) = pow-le-pow_right {n = 10} (omega arith) {i = 0} {j = class / 3} (omega arith) in
    let lead : class % 3 < 3 = mod-lt class {m = 3} (omega arith) in
    mul-pos (lead_some (class % 3) lead) power
