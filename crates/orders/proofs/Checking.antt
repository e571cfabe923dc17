-- A ticket that passes its checks has terms that are in range.
use Rattle.std.proofs.Common.{◌≡◌, ℕ, true, Some, arith}
use Rattle.std.proofs.lemmas.Bool.Decides.{nat_tests}
use Rattle.orders.specs.Checks.{identified, on_lot, kind_named, terms_under}
use Rattle.orders.specs.Ticks.{Grid}
use Rattle.orders.specs.Ranges.{in_range, has_prices}
use Rattle.orders.specs.declared.terms.Kind.{Kind}
use Rattle.orders.specs.declared.terms.OrderType.{OrderType}
use Rattle.orders.specs.declared.terms.OrderType.TheVariants.{Market, Limit, StopMarket, StopLimit}
use Rattle.orders.specs.declared.ticket.Ticket.{Ticket}

named_prices : (g : Grid) (o : OrderType) (l t : ℕ) (k : Kind) → kind_named g o l t ≡ Some k → has_prices k ≡ true
named_prices g Market l t k e = grind (arith, nat_tests)
named_prices g Limit l t k e = grind (arith, nat_tests)
named_prices g StopMarket l t k e = grind (arith, nat_tests)
named_prices g StopLimit l t k e = grind (arith, nat_tests)

pub checked_in_range : (g : Grid) (t : Ticket) (k : Kind) → identified t.number t.participant ≡ true → on_lot g t.quantity ≡ true → kind_named g t.order_type t.limit t.stop ≡ Some k → in_range (terms_under t k) ≡ true
checked_in_range g t k i l e = let p = named_prices g t.order_type t.limit t.stop k e in grind (arith, nat_tests)
