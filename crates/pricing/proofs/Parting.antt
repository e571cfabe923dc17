-- The orders of a book, parted in a loop, and put together again.
use Rattle.std.proofs.Common.{◌≡◌, ◌+◌, ◌++◌, List, length}
use Rattle.orders.specs.declared.terms.Terms.{Terms}
use Rattle.pricing.specs.Stops.{staying_orders, triggered_orders}
use Rattle.pricing.specs.declared.gather.Parted.{Parted}
use Rattle.pricing.specs.declared.quote.Quote.{Quote}

-- the orders before those left are parted
pub record Parting (q : Quote) (ts left : List Terms) (p : Parted) : Type 0 where
  pub staying : p.staying.items ++ staying_orders q left ≡ staying_orders q ts
  pub triggered : p.triggered.items ++ triggered_orders q left ≡ triggered_orders q ts
  pub len : length p.staying.items + length p.triggered.items + length left ≡ length ts
