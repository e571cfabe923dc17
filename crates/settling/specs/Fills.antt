-- Fills, and the book after them.
use Rattle.std.specs.Prelude.{ℕ, ◌-◌, Bool, cond, ◌||◌, List, [], ◌∷◌, sum_by, ◌==◌}
use Rattle.std.specs.List.{flat_map}
use Rattle.orders.specs.Ranges.{with_quantity}
use Rattle.orders.specs.declared.terms.Terms.{Terms}
use Rattle.settling.specs.declared.fill.Fill.{Fill}

-- the fill is a trade of the order with the number
abbrev pub names : ℕ → Fill → Bool
names n f = f.buyer == n || f.seller == n

-- the shares that a fill trades for a number
abbrev pub shares_for : ℕ → Fill → ℕ
shares_for n f = cond (names n f) f.quantity 0

-- the shares that the fills trade for a number
abbrev pub traded_of : ℕ → List Fill → ℕ
traded_of n fs = sum_by (shares_for n) fs

-- what an order has open after the fills
abbrev pub rest_of : List Fill → Terms → ℕ
rest_of fs t = t.quantity - traded_of t.number fs

-- an order after the fills: a rest stays, and a filled order leaves
abbrev pub remaining : List Fill → Terms → List Terms
remaining fs t = cond (rest_of fs t == 0) [] (with_quantity t (rest_of fs t) ∷ [])

-- the book after the fills: filled orders leave, and a rest keeps its place
abbrev pub after_fills : List Fill → List Terms → List Terms
after_fills fs ts = flat_map (remaining fs) ts
