-- No share is lost or invented: what was open is still open, or was traded.
use Rattle.std.specs.Prelude.{◌≡◌, ℕ, ◌+◌, ◌≤◌, List}
use Rattle.orders.specs.declared.terms.Terms.{Terms}
use Rattle.book.specs.Figures.{open_of}
use Rattle.settling.specs.Fills.{traded_of}
use Rattle.settling.specs.declared.fill.Fill.{Fill}

-- every number has as much open as before
pub record OpenAsBefore (before after : List Terms) : Type 0 where
  pub each : (n : ℕ) → open_of n after ≡ open_of n before

-- of every number, what was open is at most what is traded and what is still open, and just that where no more is traded than was open
pub record TradedOrOpen (fs : List Fill) (before after : List Terms) : Type 0 where
  pub covered : (n : ℕ) → open_of n before ≤ traded_of n fs + open_of n after
  pub equal : (n : ℕ) → traded_of n fs ≤ open_of n before → open_of n before ≡ traded_of n fs + open_of n after
