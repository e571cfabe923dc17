-- What the trial price answers.
use Rattle.std.specs.Prelude.{ℕ, cond, List, ℤ, pos, ◌-ℤ◌, Result}
use Rattle.orders.specs.Results.{seen}
use Rattle.orders.specs.Ticks.{Grid}
use Rattle.orders.specs.declared.refusal.Refusal.{Refusal}
use Rattle.orders.specs.declared.terms.Terms.{Terms}
use Rattle.pricing.specs.Depth.{demand_at, supply_at, shares_at}
use Rattle.pricing.specs.Price.{none_trades, price_of}
use Rattle.pricing.specs.Quotes.{checked_quote}
use Rattle.pricing.specs.Stops.{after_stops, stop_count}
use Rattle.pricing.specs.declared.quote.Quote.{Quote}
use Rattle.pricing.specs.declared.trial.TrialPrice.{TrialPrice}
use Rattle.pricing.specs.declared.trial.TrialPrice.TheVariants.{Priced, Unpriced}

abbrev pub surplus_at : Quote → List Terms → ℕ → ℤ
surplus_at q ts p = pos (demand_at q ts p) -ℤ pos (supply_at q ts p)

-- a price with its shares, its surplus and the count of stops
abbrev pub priced_at : Quote → List Terms → ℕ → ℕ → TrialPrice
priced_at q ts n p = Priced p (shares_at q ts p) (surplus_at q ts p) n

-- a price, or none where no level trades, after n stops were triggered
abbrev pub auction_of : ℕ → Quote → List Terms → ℕ → TrialPrice
auction_of tick q ts n = cond (none_trades q ts) (Unpriced n) (priced_at q ts n (price_of tick q ts))

abbrev pub trial_of : ℕ → Quote → List Terms → TrialPrice
trial_of tick q ts = auction_of tick q (after_stops q ts) (stop_count q ts)

-- the refusal of the quote, or else the price or none
abbrev pub trial_answer : Grid → Quote → List Terms → Result TrialPrice Refusal
trial_answer g q ts = seen (λ m. trial_of g.tick m ts) (checked_quote g q)
