-- The orders of a book after the stops are as many, and their volume fits.
use Rattle.std.proofs.Common.{◌≡◌, ℕ, ◌+◌, ◌≤◌, Bool, true, false, cond, not, List, length, sum_by, filter, refl, ◌∙◌, arith}
use Rattle.std.proofs.ByRecursion.{All-weaker, All-append, all_kept_by, All-map, sum_by_le}
use Rattle.std.proofs.lemmas.List.Filters.{length-filter_both}
use Rattle.std.proofs.lemmas.List.{length-append, length-map}
use Rattle.std.proofs.lemmas.List.Sums.{length-filter}
use Rattle.std.proofs.lemmas.Bool.Decides.{nat_tests}
use Rattle.orders.specs.Ranges.{in_range}
use Rattle.orders.specs.declared.terms.Side.{Side}
use Rattle.orders.specs.declared.terms.Terms.{Terms}
use Rattle.book.specs.Lists.{Sound}
use Rattle.pricing.specs.Depth.{takes_at, open_at}
use Rattle.pricing.specs.Steps.{Bounded}
use Rattle.pricing.specs.Stops.{triggered_by, made_ready, staying_orders, triggered_orders, after_stops, stop_count}
use Rattle.pricing.specs.declared.quote.Quote.{Quote}

open_le : (b : Bool) (n m : ℕ) → n ≤ m → cond b n 0 ≤ m
open_le true n m h = h
open_le false n m h = omega arith

pub volume_most : (side : Side) (p : ℕ) (ts : List Terms) → Bounded ts → sum_by (open_at side p) ts ≤ 256000000
volume_most side p ts b = omega (arith, sum_by_le (open_at side p) 1000000 ts (All-weaker _ _ (λ t h. open_le (takes_at side p t) t.quantity 1000000 h) ts b.small), b.few)

pub triggered_length : (q : Quote) (ts : List Terms) → length (triggered_orders q ts) ≡ stop_count q ts
triggered_length q ts = length-map (filter (triggered_by q) ts) made_ready ∙ length-filter (triggered_by q) ts

pub parts_length : (q : Quote) (ts : List Terms) → length (staying_orders q ts) + length (triggered_orders q ts) ≡ length ts
parts_length q ts =
    omega (arith, length-map (filter (triggered_by q) ts) made_ready, length-filter_both (triggered_by q) (λ t. not (triggered_by q t)) (λ _. refl) ts)

pub after_length : (q : Quote) (ts : List Terms) → length (after_stops q ts) ≡ length ts
after_length q ts = length-append (staying_orders q ts) (triggered_orders q ts) ∙ parts_length q ts

small : (t : Terms) → in_range t ≡ true → t.quantity ≤ 1000000
small t h = grind (arith, nat_tests)

pub after_bounded : (q : Quote) (ts : List Terms) → Sound ts → Bounded (after_stops q ts)
after_bounded q ts s =
    let each = All-weaker (λ t. in_range t ≡ true) (λ t. t.quantity ≤ 1000000) small ts s.ranged in
    record {
      few = omega (arith, after_length q ts, s.few);
      small = All-append (λ t. t.quantity ≤ 1000000) (staying_orders q ts) (triggered_orders q ts) (all_kept_by (λ t. not (triggered_by q t)) _ ts each) (All-map (λ t. t.quantity ≤ 1000000) made_ready (filter (triggered_by q) ts) (all_kept_by (triggered_by q) _ ts each));
    }
