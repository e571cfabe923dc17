-- When a matching quote is taken.
use Rattle.std.specs.Prelude.{ℕ, Bool, cond, ◌&&◌, ◌||◌, Some, None, Option, Result, ◌==◌, nat_lt}
use Rattle.orders.specs.Answers.{answered}
use Rattle.orders.specs.Checks.{on_lot, on_tick}
use Rattle.orders.specs.Ticks.{Grid}
use Rattle.orders.specs.declared.refusal.Refusal.{Refusal}
use Rattle.orders.specs.declared.refusal.Refusal.TheVariants.{QuotePrices, QuoteVolumes}
use Rattle.pricing.specs.declared.quote.Quote.{Quote}

-- both prices are on the tick, and the bid is below the ask
abbrev pub prices_match : Grid → Quote → Bool
prices_match g q = on_tick g q.bid && on_tick g q.ask && nat_lt q.bid q.ask

-- no volume, or a quantity on the lot
abbrev pub is_volume : Grid → ℕ → Bool
is_volume g v = v == 0 || on_lot g v

abbrev pub volumes_match : Grid → Quote → Bool
volumes_match g q = is_volume g q.bid_volume && is_volume g q.ask_volume

-- why a quote is refused
abbrev pub quote_fault : Grid → Quote → Option Refusal
quote_fault g q = cond (prices_match g q) (cond (volumes_match g q) None (Some QuoteVolumes)) (Some QuotePrices)

-- the quote, or the refusal
abbrev pub checked_quote : Grid → Quote → Result Quote Refusal
checked_quote g q = answered (quote_fault g q) q
