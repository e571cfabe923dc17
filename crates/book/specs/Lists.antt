-- A book is told by the list of its orders' terms, earliest first.
use Rattle.std.specs.Prelude.{◌≡◌, ℕ, ◌≤◌, Bool, true, cond, not, ◌&&◌, List, [], ◌∷◌, length, Option, ◌==◌}
use Rattle.std.specs.List.{AllByRecursion, find, list_any}
use Rattle.orders.specs.Ranges.{in_range, with_quantity}
use Rattle.orders.specs.declared.terms.Terms.{Terms}

-- some order has the number
abbrev pub held : ℕ → List Terms → Bool
held n = list_any (λ t. t.number == n)

-- the order of the number, or none
abbrev pub found : ℕ → List Terms → Option Terms
found n = find (λ t. t.number == n)

-- the list with the order of the number left out
abbrev pub without : ℕ → List Terms → List Terms
without n [] = []
without n (t ∷ ts) = cond (t.number == n) ts (t ∷ without n ts)

-- the list with the open quantity of the number set
abbrev pub lowered : ℕ → ℕ → List Terms → List Terms
lowered n q [] = []
lowered n q (t ∷ ts) = cond (t.number == n) (with_quantity t q ∷ ts) (t ∷ lowered n q ts)

-- no two orders have the same number
abbrev pub distinct : List Terms → Bool
distinct [] = true
distinct (t ∷ ts) = not (held t.number ts) && distinct ts

-- what the list of every book is
pub record Sound (ts : List Terms) : Type 0 where
  pub few : length ts ≤ 256
  pub apart : distinct ts ≡ true
  pub ranged : AllByRecursion (λ t. in_range t ≡ true) ts
