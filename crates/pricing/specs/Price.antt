-- The price of a list of orders in which no stop triggers any more.
use Rattle.std.specs.Prelude.{ℕ, ◌+◌, ◌*◌, ◌/◌, min, max, Bool, cond, List, [], ◌∷◌, fold, filter, nat_eq, nat_le, nat_lt}
use Rattle.std.specs.List.{list_all}
use Rattle.orders.specs.declared.terms.Terms.{Terms}
use Rattle.pricing.specs.Depth.{demand_at, supply_at, shares_at, difference_at, levels_of}
use Rattle.pricing.specs.declared.quote.Quote.{Quote}

-- those of ps at which f is greatest, and those at which it is least
abbrev pub with_most : (ℕ → ℕ) → List ℕ → List ℕ
with_most f ps = filter (λ p. list_all (λ r. nat_le (f r) (f p)) ps) ps

abbrev pub with_least : (ℕ → ℕ) → List ℕ → List ℕ
with_least f ps = filter (λ p. list_all (λ r. nat_le (f p) (f r)) ps) ps

-- the levels with most shares, and of these the ones with least difference
abbrev pub kept_levels : Quote → List Terms → List ℕ
kept_levels q ts = with_least (difference_at q ts) (with_most (shares_at q ts) (levels_of q ts))

abbrev pub lowest_of : List ℕ → ℕ
lowest_of [] = 0
lowest_of (p ∷ ps) = fold min p ps

abbrev pub highest_of : List ℕ → ℕ
highest_of [] = 0
highest_of (p ∷ ps) = fold max p ps

-- the midpoint of two levels, rounded down to a tick, or the lower one if that is more
abbrev pub midpoint : ℕ → ℕ → ℕ → ℕ
midpoint tick low high = max low ((low + high) / 2 / tick * tick)

-- by demand d and supply s at the kept levels ps: the highest if demand is above everywhere, the lowest if it is below everywhere, else the midpoint
abbrev pub price_among : ℕ → (ℕ → ℕ) → (ℕ → ℕ) → List ℕ → ℕ
price_among tick d s ps =
    cond (list_all (λ p. nat_lt (s p) (d p)) ps) (highest_of ps)
    (cond (list_all (λ p. nat_lt (d p) (s p)) ps) (lowest_of ps)
    (midpoint tick (lowest_of ps) (highest_of ps)))

-- the price where some level trades
abbrev pub price_of : ℕ → Quote → List Terms → ℕ
price_of tick q ts = price_among tick (demand_at q ts) (supply_at q ts) (kept_levels q ts)

-- no level trades a share
abbrev pub none_trades : Quote → List Terms → Bool
none_trades q ts = list_all (λ p. nat_eq (shares_at q ts p) 0) (levels_of q ts)
