-- Worked examples, as one list.
use Rattle.std.specs.Prelude.{◌≡◌, ℕ, List, [], ◌∷◌, pos, negsuc, Ok}
use Rattle.std.specs.List.{AllByRecursion}
use Rattle.orders.specs.Ticks.{grid}
use Rattle.orders.specs.declared.terms.Kind.{Kind}
use Rattle.orders.specs.declared.terms.Kind.TheVariants.{Market, Limit, StopMarket}
use Rattle.orders.specs.declared.terms.Side.{Side}
use Rattle.orders.specs.declared.terms.Side.TheVariants.{Buy, Sell}
use Rattle.orders.specs.declared.terms.Terms.{Terms}
use Rattle.pricing.specs.Answers.{trial_answer}
use Rattle.pricing.specs.Stops.{after_stops, stop_count}
use Rattle.pricing.specs.declared.quote.Quote.{Quote}
use Rattle.pricing.specs.declared.trial.TrialPrice.{TrialPrice}
use Rattle.pricing.specs.declared.trial.TrialPrice.TheVariants.{Priced, Unpriced}

abbrev pub an_order : ℕ → Side → Kind → ℕ → Terms
an_order n side kind quantity = record { number = n; participant = 7; side = side; kind = kind; quantity = quantity }

-- 990 to 1030 with these volumes
abbrev pub a_quote : ℕ → ℕ → Quote
a_quote v w = record { bid = 990; ask = 1030; bid_volume = v; ask_volume = w }

-- orders under a tick class and a quote, with their trial price; or orders under a quote, with the count of triggered stops and the list after them
pub data Example : Type 0 where
  priced_as : ℕ → Quote → List Terms → TrialPrice → Example
  stopped_as : Quote → List Terms → ℕ → List Terms → Example

-- the lot is 1
abbrev pub Holds : Example → Type 0
Holds (priced_as class q ts answer) = trial_answer (grid 1 class) q ts ≡ Ok answer
Holds (stopped_as q ts n after) = (stop_count q ts ≡ n) × (after_stops q ts ≡ after)

abbrev pub examples : List Example
examples =
    priced_as 0 (a_quote 0 0) (an_order 1 Buy (Limit 1020) 60 ∷ an_order 2 Sell (Limit 1000) 100 ∷ []) (Priced 1000 60 (negsuc 39) 0)
    ∷ priced_as 0 (a_quote 0 0) (an_order 1 Buy (Limit 1020) 100 ∷ an_order 2 Sell (Limit 1000) 100 ∷ []) (Priced 1010 100 (pos 0) 0)
    ∷ priced_as 3 (a_quote 0 0) (an_order 1 Buy (Limit 1010) 100 ∷ an_order 2 Sell (Limit 1000) 100 ∷ []) (Priced 1000 100 (pos 0) 0)
    ∷ priced_as 0 (a_quote 0 0) (an_order 1 Buy (Limit 1000) 50 ∷ an_order 2 Buy (Limit 1020) 100 ∷ an_order 3 Sell (Limit 1000) 100 ∷ an_order 4 Sell (Limit 1020) 50 ∷ []) (Priced 1010 100 (pos 0) 0)
    ∷ priced_as 0 (a_quote 0 9) (an_order 1 Buy Market 10 ∷ []) (Priced 1030 9 (pos 1) 0)
    ∷ priced_as 0 (a_quote 0 0) (an_order 1 Buy Market 10 ∷ []) (Unpriced 0)
    ∷ priced_as 0 (a_quote 0 0) (an_order 1 Buy (Limit 1040) 5 ∷ an_order 2 Sell (Limit 1035) 5 ∷ []) (Unpriced 0)
    ∷ stopped_as (a_quote 0 0) (an_order 1 Sell (StopMarket 990) 5 ∷ an_order 2 Sell (StopMarket 989) 5 ∷ []) 1 (an_order 2 Sell (StopMarket 989) 5 ∷ an_order 1 Sell Market 5 ∷ [])
    ∷ priced_as 0 (a_quote 4 0) (an_order 1 Sell Market 10 ∷ an_order 2 Buy (Limit 980) 5 ∷ []) (Priced 990 4 (negsuc 5) 0)
    ∷ []

abbrev pub ExamplesHold : Type 0
ExamplesHold = AllByRecursion Holds examples
