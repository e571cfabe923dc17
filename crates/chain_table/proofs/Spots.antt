-- The number that tells a row or the end.
use Rattle.std.proofs.Common.{◌≡◌, ℕ, suc, ◌<◌, ◌≢◌, min, Option, Some, sym, ap, ◌∙◌, subst, ⊎_elim, arith}
use Rattle.std.proofs.lemmas.Bool.{cases_lt, lt-ltb, le-ltb}
use Rattle.chain_table.specs.Chains.{spot}

-- a row is told by its index, and no other
pub spot_row : (i : ℕ) → i < 256 → spot (Some i) ≡ i
spot_row i h = rw (lt-ltb i 256 h)

far_row : (i : ℕ) → 256 < suc i → spot (Some i) ≡ suc i
far_row i h = rw (le-ltb i 256 (omega arith))

pub off_end : (i : ℕ) → spot (Some i) ≡ 256 → ⊥
off_end i e = ⊎_elim (λ h. omega (arith, spot_row i h)) (λ h. omega (arith, far_row i (omega arith))) (cases_lt i 256)

pub row_of_spot : (i : ℕ) → spot (Some i) < 256 → spot (Some i) ≡ i
row_of_spot i k = ⊎_elim (λ h. spot_row i h) (λ h. absurd (omega (arith, far_row i (omega arith)))) (cases_lt i 256)

pub row_is : (o : Option ℕ) (i : ℕ) → o ≡ Some i → spot o < 256 → spot o ≡ i
row_is o i e k = ap spot e ∙ row_of_spot i (subst (λ x. spot x < 256) e k)

-- where a row or the end is told, a row is there
pub told_row : (o : Option ℕ) (i n : ℕ) → o ≡ Some i → ((spot o ≢ 256) → spot o < min n 256) → (spot o ≡ i) × (i < n) × (i < 256)
told_row o i n e h =
    let k = h (λ z. off_end i (sym (ap spot e) ∙ z)) in
    let same = row_is o i e (omega arith) in
    (same, omega arith, omega arith)
