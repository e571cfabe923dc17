-- The form of an order: its side and its type.
use Rattle.std.specs.Prelude.{ℕ, Bool, ◌&&◌, Some, None, Option, ◌==◌}
use Rattle.orders.specs.declared.terms.Kind.{Kind}
use Rattle.orders.specs.declared.terms.Kind.TheVariants as kind
use Rattle.orders.specs.declared.terms.OrderType.{OrderType}
use Rattle.orders.specs.declared.terms.OrderType.TheVariants.{Market, Limit, StopMarket, StopLimit}
use Rattle.orders.specs.declared.terms.Side.{Side}
use Rattle.orders.specs.declared.terms.Side.TheVariants.{Buy, Sell}
use Rattle.orders.specs.declared.terms.Terms.{Terms}

abbrev pub type_of : Kind → OrderType
type_of kind.Market = Market
type_of (kind.Limit l) = Limit
type_of (kind.StopMarket s) = StopMarket
type_of (kind.StopLimit l s) = StopLimit

-- the limit and the stop limit of a kind, if it has one
abbrev pub limit_of : Kind → Option ℕ
limit_of kind.Market = None
limit_of (kind.Limit l) = Some l
limit_of (kind.StopMarket s) = None
limit_of (kind.StopLimit l s) = Some l

abbrev pub stop_of : Kind → Option ℕ
stop_of kind.Market = None
stop_of (kind.Limit l) = None
stop_of (kind.StopMarket s) = Some s
stop_of (kind.StopLimit l s) = Some s

-- the sides and the types, numbered
abbrev pub side_code : Side → ℕ
side_code Buy = 0
side_code Sell = 1

abbrev pub type_code : OrderType → ℕ
type_code Market = 0
type_code Limit = 1
type_code StopMarket = 2
type_code StopLimit = 3

-- two orders have the same side and the same type
abbrev pub same_form : Terms → Terms → Bool
same_form t u = side_code t.side == side_code u.side && type_code (type_of t.kind) == type_code (type_of u.kind)
