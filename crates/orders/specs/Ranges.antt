-- The ranges of an order's terms.
use Rattle.std.specs.Prelude.{ℕ, Bool, true, ◌&&◌, nat_le}
use Rattle.orders.specs.declared.terms.Terms.{Terms}
use Rattle.orders.specs.declared.terms.Kind.{Kind}
use Rattle.orders.specs.declared.terms.Kind.TheVariants.{Market, Limit, StopMarket, StopLimit}

-- a price, in ten-thousandths of a euro
abbrev pub is_price : ℕ → Bool
is_price p = nat_le 1 p && nat_le p 1000000000

-- an open quantity, in shares
abbrev pub is_quantity : ℕ → Bool
is_quantity q = nat_le 1 q && nat_le q 1000000

-- each price that the kind has is in range
abbrev pub has_prices : Kind → Bool
has_prices Market = true
has_prices (Limit l) = is_price l
has_prices (StopMarket s) = is_price s
has_prices (StopLimit l s) = is_price l && is_price s

-- number, participant, quantity and prices are all in range
abbrev pub in_range : Terms → Bool
in_range t = nat_le 1 t.number && nat_le 1 t.participant && is_quantity t.quantity && has_prices t.kind

-- the terms with another open quantity
abbrev pub with_quantity : Terms → ℕ → Terms
with_quantity t q = record { number = t.number; participant = t.participant; side = t.side; kind = t.kind; quantity = q }
