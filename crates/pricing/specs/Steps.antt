-- What the steps of the code compute: the orders in lists, and the best of the levels so far.
use Rattle.std.specs.Prelude.{ℕ, ◌-◌, ◌≤◌, min, max, cond, ◌&&◌, List, ◌∷◌, length, fold}
use Rattle.std.specs.List.{AllByRecursion}
use Rattle.std.specs.declared.cmp.Ordering.{Ordering}
use Rattle.std.specs.declared.cmp.Ordering.TheVariants.{Less, Equal, Greater}
use Rattle.std.specs.Ordering.{is_lt, is_gt, nat_cmp, ordering_then}
use Rattle.orders.specs.declared.terms.Terms.{Terms}
use Rattle.pricing.specs.Depth.{demand_at, supply_at, limit_levels}
use Rattle.pricing.specs.Price.{midpoint}
use Rattle.pricing.specs.declared.best.Best.{Best}
use Rattle.pricing.specs.declared.quote.Quote.{Quote}

-- so few orders, with so few shares, that their sum fits
pub record Bounded (ts : List Terms) : Type 0 where
  pub few : length ts ≤ 256
  pub small : AllByRecursion (λ t. t.quantity ≤ 1000000) ts

-- the best of one level, by its demand and supply
abbrev pub lone_best : ℕ → ℕ → ℕ → Best
lone_best p d s = record { shares = min d s; difference = max d s - min d s; lowest = p; highest = p; lean = nat_cmp d s }

-- a lean that both have, or none
abbrev pub shared_lean : Ordering → Ordering → Ordering
shared_lean a b = cond (is_gt a && is_gt b) Greater (cond (is_lt a && is_lt b) Less Equal)

-- two bests of the same shares and difference as one
abbrev pub tied_best : Best → Best → Best
tied_best a b = record { shares = a.shares; difference = a.difference; lowest = min a.lowest b.lowest; highest = max a.highest b.highest; lean = shared_lean a.lean b.lean }

-- one of two, or both if neither is before the other
abbrev pub picked : Ordering → Best → Best → Best
picked Less a b = b
picked Equal a b = tied_best a b
picked Greater a b = a

-- the better of two: more shares, then less difference
abbrev pub better_of : Best → Best → Best
better_of a b = picked (ordering_then (nat_cmp a.shares b.shares) (nat_cmp b.difference a.difference)) a b

abbrev pub best_at : Quote → List Terms → ℕ → Best
best_at q ts p = lone_best p (demand_at q ts p) (supply_at q ts p)

-- the best of a best so far and of more levels
abbrev pub best_with : Quote → List Terms → Best → List ℕ → Best
best_with q ts b ps = fold (λ a p. better_of a (best_at q ts p)) b ps

-- the best of all levels
abbrev pub best_of : Quote → List Terms → Best
best_of q ts = best_with q ts (best_at q ts q.bid) (q.ask ∷ limit_levels q ts)

-- the price that a best gives: the highest if demand is above everywhere, the lowest if it is below everywhere, else the midpoint
abbrev pub chosen_price : ℕ → Best → ℕ
chosen_price tick b = cond (is_gt b.lean) b.highest (cond (is_lt b.lean) b.lowest (midpoint tick b.lowest b.highest))
