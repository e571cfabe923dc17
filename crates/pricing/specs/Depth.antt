-- Demand, supply and shares at a price, and the levels of a list of orders.
use Rattle.std.specs.Prelude.{ℕ, ◌+◌, ◌-◌, min, max, Bool, true, false, cond, ◌&&◌, List, ◌∷◌, Some, None, Option, sum_by, ◌==◌, nat_le}
use Rattle.std.specs.List.{filter_map}
use Rattle.orders.specs.Forms.{side_code}
use Rattle.orders.specs.declared.terms.Kind.{Kind}
use Rattle.orders.specs.declared.terms.Kind.TheVariants.{Market, Limit, StopMarket, StopLimit}
use Rattle.orders.specs.declared.terms.Side.{Side}
use Rattle.orders.specs.declared.terms.Side.TheVariants.{Buy, Sell}
use Rattle.orders.specs.declared.terms.Terms.{Terms}
use Rattle.pricing.specs.declared.quote.Quote.{Quote}

-- a buy limit takes prices at or below it, a sell limit at or above it
abbrev pub limit_takes : Side → ℕ → ℕ → Bool
limit_takes Buy l p = nat_le p l
limit_takes Sell l p = nat_le l p

-- does a kind of a side trade at p? a stop that is not triggered does not
abbrev pub kind_takes : Side → Kind → ℕ → Bool
kind_takes side Market p = true
kind_takes side (Limit l) p = limit_takes side l p
kind_takes side (StopMarket s) p = false
kind_takes side (StopLimit l s) p = false

-- does an order trade on the side at p?
abbrev pub takes_at : Side → ℕ → Terms → Bool
takes_at side p t = side_code t.side == side_code side && kind_takes side t.kind p

-- what an order has open on the side at p
abbrev pub open_at : Side → ℕ → Terms → ℕ
open_at side p t = cond (takes_at side p t) t.quantity 0

-- the quoted volume: that of the bid at the bid, that of the ask at the ask
abbrev pub quoted_at : Quote → Side → ℕ → ℕ
quoted_at q Buy p = cond (p == q.bid) q.bid_volume 0
quoted_at q Sell p = cond (p == q.ask) q.ask_volume 0

-- all that one side would trade at p
abbrev pub depth_at : Quote → List Terms → Side → ℕ → ℕ
depth_at q ts side p = sum_by (open_at side p) ts + quoted_at q side p

abbrev pub demand_at : Quote → List Terms → ℕ → ℕ
demand_at q ts p = depth_at q ts Buy p

abbrev pub supply_at : Quote → List Terms → ℕ → ℕ
supply_at q ts p = depth_at q ts Sell p

abbrev pub shares_at : Quote → List Terms → ℕ → ℕ
shares_at q ts p = min (demand_at q ts p) (supply_at q ts p)

abbrev pub difference_at : Quote → List Terms → ℕ → ℕ
difference_at q ts p = max (demand_at q ts p) (supply_at q ts p) - shares_at q ts p

abbrev pub from_bid_to_ask : Quote → ℕ → Bool
from_bid_to_ask q p = nat_le q.bid p && nat_le p q.ask

-- the level that an order of a kind adds: its limit, if that is from bid to ask
abbrev pub level_of : Quote → Kind → Option ℕ
level_of q Market = None
level_of q (Limit l) = cond (from_bid_to_ask q l) (Some l) None
level_of q (StopMarket s) = None
level_of q (StopLimit l s) = None

abbrev pub limit_levels : Quote → List Terms → List ℕ
limit_levels q ts = filter_map (λ t. level_of q t.kind) ts

-- the levels: the bid, the ask and the limits between
abbrev pub levels_of : Quote → List Terms → List ℕ
levels_of q ts = q.bid ∷ q.ask ∷ limit_levels q ts
