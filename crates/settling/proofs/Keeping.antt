-- What stops and fills keep: sound lists, lengths and open quantities.
use Rattle.std.proofs.Common.{◌≡◌, ℕ, ◌-◌, ◌≤◌, true, not, List, length, filter, arith}
use Rattle.std.proofs.ByRecursion.{All-weaker, All-append, all_kept_by, All-map}
use Rattle.orders.specs.Ranges.{in_range}
use Rattle.orders.specs.declared.terms.Terms.{Terms}
use Rattle.book.specs.Figures.{open_of}
use Rattle.book.specs.Lists.{distinct, Sound}
use Rattle.pricing.proofs.Bounding.{after_length}
use Rattle.pricing.proofs.Readying.{ready_in_range}
use Rattle.pricing.specs.Stops.{triggered_by, made_ready, staying_orders, triggered_orders, after_stops}
use Rattle.pricing.specs.declared.quote.Quote.{Quote}
use Rattle.settling.proofs.Remaining.{fills_length, distinct_after, fills_sound, fills_open}
use Rattle.settling.proofs.Moving.{stops_distinct, stops_open}
use Rattle.settling.specs.Conservation.{OpenAsBefore, TradedOrOpen}
use Rattle.settling.specs.Fills.{traded_of, after_fills}
use Rattle.settling.specs.declared.fill.Fill.{Fill}

module _ (q : Quote) (ts : List Terms) where
  pub length_after_stops : length (after_stops q ts) ≡ length ts
  length_after_stops = after_length q ts

  pub open_after_stops : (n : ℕ) → distinct ts ≡ true → open_of n (after_stops q ts) ≡ open_of n ts
  open_after_stops n d = stops_open q n ts d

  pub distinct_after_stops : distinct ts ≡ true → distinct (after_stops q ts) ≡ true
  distinct_after_stops d = stops_distinct q ts d

  pub stops_conserve : distinct ts ≡ true → OpenAsBefore ts (after_stops q ts)
  stops_conserve d = record { each = λ n. open_after_stops n d }

  pub sound_after_stops : Sound ts → Sound (after_stops q ts)
  sound_after_stops s =
      record {
        few = omega (arith, length_after_stops, s.few);
        apart = stops_distinct q ts s.apart;
        ranged =
            All-append (λ t. in_range t ≡ true) (staying_orders q ts) (triggered_orders q ts)
            (all_kept_by (λ t. not (triggered_by q t)) _ ts s.ranged)
            (All-map (λ t. in_range t ≡ true) made_ready (filter (triggered_by q) ts) (All-weaker _ _ ready_in_range _ (all_kept_by (triggered_by q) (λ t. in_range t ≡ true) ts s.ranged)));
      }

module _ (fs : List Fill) (ts : List Terms) where
  pub length_after_fills : length (after_fills fs ts) ≤ length ts
  length_after_fills = fills_length fs ts

  pub open_after_fills : (n : ℕ) → distinct ts ≡ true → open_of n (after_fills fs ts) ≡ open_of n ts - traded_of n fs
  open_after_fills n d = fills_open fs n ts d

  pub distinct_after_fills : distinct ts ≡ true → distinct (after_fills fs ts) ≡ true
  distinct_after_fills d = distinct_after fs ts d

  pub fills_conserve : distinct ts ≡ true → TradedOrOpen fs ts (after_fills fs ts)
  fills_conserve d =
      record { covered = λ n. omega (arith, open_after_fills n d); equal = λ n h. omega (arith, open_after_fills n d, h) }

  pub sound_after_fills : Sound ts → Sound (after_fills fs ts)
  sound_after_fills s = fills_sound fs ts s
