-- What holds of every auction.
use Rattle.std.specs.Prelude.{◌≡◌, ℕ, ◌+◌, ◌≤◌, List, length, sum_by}
use Rattle.orders.specs.declared.terms.Terms.{Terms}
use Rattle.book.specs.Figures.{open_of}
use Rattle.pricing.specs.Law.{Fair}
use Rattle.pricing.specs.Stops.{after_stops}
use Rattle.pricing.specs.declared.quote.Quote.{Quote}
use Rattle.pricing.specs.declared.trial.TrialPrice.{TrialPrice}
use Rattle.pricing.specs.declared.trial.TrialPrice.TheVariants.{Priced, Unpriced}
use Rattle.settling.specs.Fills.{traded_of}
use Rattle.pairing.specs.Laws.{shares_of}
use Rattle.auction.specs.Auctions.{Auction}

-- the shares that were found, none where there is no price
abbrev pub shares_found : TrialPrice → ℕ
shares_found (Priced p n z stops) = n
shares_found (Unpriced stops) = 0

-- the price is fair, the fills have its shares in all and are no more than the orders, and of each order open before is traded and open after
pub record LawfulAuction (q : Quote) (ts : List Terms) (a : Auction) : Type 0 where
  pub fair : Fair q (after_stops q ts) a.found
  pub shares : sum_by shares_of a.fills ≡ shares_found a.found
  pub few : length a.fills ≤ length ts
  pub each : (n : ℕ) → 1 ≤ n → open_of n ts ≡ traded_of n a.fills + open_of n a.book
