-- What is open in a book.
use Rattle.std.specs.Prelude.{ℕ, List, length, Some, None, sum_by, Option}
use Rattle.orders.specs.declared.terms.Terms.{Terms}
use Rattle.book.specs.Lists.{found}
use Rattle.book.specs.declared.open.OpenFigure.{OpenFigure}

abbrev pub quantity_of : Terms → ℕ
quantity_of t = t.quantity

-- how many shares the orders have open in all
abbrev pub open_shares : List Terms → ℕ
open_shares ts = sum_by quantity_of ts

-- how many orders are open, and how many shares
abbrev pub open_figure : List Terms → OpenFigure
open_figure ts = record { orders = length ts; shares = open_shares ts }

-- what an order that was looked for has open, 0 for none
abbrev pub open_in : Option Terms → ℕ
open_in None = 0
open_in (Some t) = t.quantity

-- the open quantity of a number, 0 where it is not held
abbrev pub open_of : ℕ → List Terms → ℕ
open_of n ts = open_in (found n ts)
