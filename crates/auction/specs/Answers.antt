-- What holding an auction answers and leaves.
use Rattle.std.specs.Prelude.{◌≡◌, ℕ, List, None, Result}
use Rattle.orders.specs.Answers.{answered, left}
use Rattle.orders.specs.declared.refusal.Refusal.{Refusal}
use Rattle.orders.specs.declared.terms.Terms.{Terms}
use Rattle.pricing.specs.declared.quote.Quote.{Quote}
use Rattle.settling.specs.declared.fill.Fill.{Fill}
use Rattle.pairing.specs.Answers.{fill_fault, in_front}
use Rattle.auction.specs.Auctions.{auction_under, answer_of}
use Rattle.auction.specs.Laws.{LawfulAuction}
use Rattle.auction.specs.declared.auctioned.Auctioned.{Auctioned}

-- the auction is held, and its fills stand in front of the entries; with fewer entries than orders nothing is done
pub record AuctionHeld (tick : ℕ) (q : Quote) (room : ℕ) (ts : List Terms) (entries : List Fill) (answer : Result Auctioned Refusal) (room_after : ℕ) (ts_after : List Terms) (entries_after : List Fill) : Type 0 where
  pub value : answer ≡ answered (fill_fault ts entries) (answer_of (auction_under tick q ts))
  pub book : ts_after ≡ left (fill_fault ts entries) ts (auction_under tick q ts).book
  pub fills : entries_after ≡ left (fill_fault ts entries) entries (in_front (auction_under tick q ts).fills entries)
  pub same : room_after ≡ room
  pub lawful : fill_fault ts entries ≡ None → LawfulAuction q ts (auction_under tick q ts)
