-- The stops that a quote triggers.
use Rattle.std.specs.Prelude.{ℕ, Bool, false, cond, not, List, ◌++◌, map, Some, None, count_by, filter, Option, nat_le}
use Rattle.orders.specs.declared.terms.Kind.{Kind}
use Rattle.orders.specs.declared.terms.Kind.TheVariants.{Market, Limit, StopMarket, StopLimit}
use Rattle.orders.specs.declared.terms.Side.{Side}
use Rattle.orders.specs.declared.terms.Side.TheVariants.{Buy, Sell}
use Rattle.orders.specs.declared.terms.Terms.{Terms}
use Rattle.pricing.specs.declared.quote.Quote.{Quote}

-- a stop sell triggers at or above the bid, a stop buy at or below the ask
abbrev pub reached_by : Quote → Side → ℕ → Bool
reached_by q Buy s = nat_le s q.ask
reached_by q Sell s = nat_le q.bid s

abbrev pub triggers_kind : Quote → Side → Kind → Bool
triggers_kind q side Market = false
triggers_kind q side (Limit l) = false
triggers_kind q side (StopMarket s) = reached_by q side s
triggers_kind q side (StopLimit l s) = reached_by q side s

abbrev pub triggered_by : Quote → Terms → Bool
triggered_by q t = triggers_kind q t.side t.kind

-- a triggered stop becomes a market or a limit order
abbrev pub ready_kind : Kind → Kind
ready_kind Market = Market
ready_kind (Limit l) = Limit l
ready_kind (StopMarket s) = Market
ready_kind (StopLimit l s) = Limit l

abbrev pub made_ready : Terms → Terms
made_ready t = record { number = t.number; participant = t.participant; side = t.side; kind = ready_kind t.kind; quantity = t.quantity }

-- what an order becomes if the quote triggers it
abbrev pub triggered_form : Quote → Terms → Option Terms
triggered_form q t = cond (triggered_by q t) (Some (made_ready t)) None

-- the orders that stay in their places, and those that are triggered, made ready
abbrev pub staying_orders : Quote → List Terms → List Terms
staying_orders q ts = filter (λ t. not (triggered_by q t)) ts

abbrev pub triggered_orders : Quote → List Terms → List Terms
triggered_orders q ts = map made_ready (filter (triggered_by q) ts)

-- the list after the stops: what is triggered leaves its place and is appended, in list order
abbrev pub after_stops : Quote → List Terms → List Terms
after_stops q ts = staying_orders q ts ++ triggered_orders q ts

abbrev pub stop_count : Quote → List Terms → ℕ
stop_count q ts = count_by (triggered_by q) ts
