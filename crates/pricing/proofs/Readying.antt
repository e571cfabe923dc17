-- A stop that is made ready stays in range.
use Rattle.std.proofs.Common.{◌≡◌, true, refl, arith}
use Rattle.std.proofs.lemmas.Bool.{and_parts}
use Rattle.std.proofs.lemmas.Bool.Decides.{nat_tests}
use Rattle.orders.specs.Ranges.{is_price, has_prices, in_range}
use Rattle.orders.specs.declared.terms.Kind.{Kind}
use Rattle.orders.specs.declared.terms.Kind.TheVariants.{Market, Limit, StopMarket, StopLimit}
use Rattle.orders.specs.declared.terms.Terms.{Terms}
use Rattle.pricing.specs.Stops.{ready_kind, made_ready}

ready_prices : (k : Kind) → has_prices k ≡ true → has_prices (ready_kind k) ≡ true
ready_prices Market h = refl
ready_prices (Limit l) h = h
ready_prices (StopMarket s) h = refl
ready_prices (StopLimit l s) h = (and_parts (is_price l) (is_price s) h).0

prices : (t : Terms) → in_range t ≡ true → has_prices t.kind ≡ true
prices t h = grind (arith, nat_tests)

pub ready_in_range : (t : Terms) → in_range t ≡ true → in_range (made_ready t) ≡ true
ready_in_range t h = let p = ready_prices t.kind (prices t h) in grind (arith, nat_tests)
