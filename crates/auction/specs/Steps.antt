-- What the steps of the code give.
use Rattle.std.specs.Prelude.{◌≡◌, ℕ, List, length}
use Rattle.orders.specs.declared.terms.Terms.{Terms}
use Rattle.pricing.specs.declared.quote.Quote.{Quote}
use Rattle.pricing.specs.declared.trial.TrialPrice.{TrialPrice}
use Rattle.settling.specs.declared.fill.Fill.{Fill}
use Rattle.pairing.specs.Answers.{in_front}
use Rattle.auction.specs.Auctions.{fills_found, auction_under, answer_of}
use Rattle.auction.specs.Laws.{LawfulAuction}
use Rattle.auction.specs.declared.auctioned.Auctioned.{Auctioned}

-- the fills at the price that was found stand in front of the entries
pub record FilledAt (q : Quote) (ts : List Terms) (found : TrialPrice) (entries : List Fill) (count : ℕ) (entries_after : List Fill) : Type 0 where
  pub value : count ≡ length (fills_found q ts found)
  pub fills : entries_after ≡ in_front (fills_found q ts found) entries

-- the auction is held
pub record Ran (tick : ℕ) (q : Quote) (room : ℕ) (ts : List Terms) (entries : List Fill) (answer : Auctioned) (room_after : ℕ) (ts_after : List Terms) (entries_after : List Fill) : Type 0 where
  pub value : answer ≡ answer_of (auction_under tick q ts)
  pub book : ts_after ≡ (auction_under tick q ts).book
  pub fills : entries_after ≡ in_front (auction_under tick q ts).fills entries
  pub same : room_after ≡ room
  pub lawful : LawfulAuction q ts (auction_under tick q ts)
