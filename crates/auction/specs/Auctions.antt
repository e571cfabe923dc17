-- One auction.
use Rattle.std.specs.Prelude.{ℕ, List, [], length}
use Rattle.orders.specs.declared.terms.Terms.{Terms}
use Rattle.pricing.specs.Answers.{trial_of}
use Rattle.pricing.specs.Stops.{after_stops, triggered_orders}
use Rattle.pricing.specs.declared.quote.Quote.{Quote}
use Rattle.pricing.specs.declared.trial.TrialPrice.{TrialPrice}
use Rattle.pricing.specs.declared.trial.TrialPrice.TheVariants.{Priced, Unpriced}
use Rattle.settling.specs.Fills.{after_fills}
use Rattle.settling.specs.declared.fill.Fill.{Fill}
use Rattle.pairing.specs.Pairs.{fills_at}
use Rattle.auction.specs.declared.auctioned.Auctioned.{Auctioned}

-- what an auction yields: a price or none, the orders that were triggered, the fills, and the book after it
pub record Auction : Type 0 where
  pub found : TrialPrice
  pub triggered : List Terms
  pub fills : List Fill
  pub book : List Terms

-- the fills of the orders at the price that was found
abbrev pub fills_found : Quote → List Terms → TrialPrice → List Fill
fills_found q ts (Priced p n z stops) = fills_at q ts p
fills_found q ts (Unpriced stops) = []

-- the auction of a book under a quote: stops are triggered, the price is found, orders are filled
abbrev pub auction_under : ℕ → Quote → List Terms → Auction
auction_under tick q ts =
    record {
      found = trial_of tick q ts;
      triggered = triggered_orders q ts;
      fills = fills_found q (after_stops q ts) (trial_of tick q ts);
      book = after_fills (fills_found q (after_stops q ts) (trial_of tick q ts)) (after_stops q ts);
    }

-- an auction as it is answered
abbrev pub answer_of : Auction → Auctioned
answer_of a = record { found = a.found; fills = length a.fills }
