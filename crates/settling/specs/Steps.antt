-- What the steps of the code leave.
use Rattle.std.specs.Prelude.{ℕ, List, [], ◌∷◌, ◌++◌, map, Some, None, filter, Option}
use Rattle.std.specs.Option.{option_map, option_flatten}
use Rattle.orders.specs.declared.terms.Terms.{Terms}
use Rattle.book.specs.Lists.{found, without}
use Rattle.pricing.specs.Stops.{triggered_by, triggered_form}
use Rattle.pricing.specs.declared.quote.Quote.{Quote}
use Rattle.settling.specs.declared.fill.Fill.{Fill}

-- the numbers of the stops that a quote triggers, in list order
abbrev pub stop_numbers : Quote → List Terms → List ℕ
stop_numbers q ts = map (λ t. t.number) (filter (triggered_by q) ts)

-- what the order of a number becomes if the quote triggers it
abbrev pub stop_at : Quote → ℕ → List Terms → Option Terms
stop_at q n ts = option_flatten (option_map (triggered_form q) (found n ts))

-- the order of the number leaves its place, and what it becomes stands last
abbrev pub moved_as : Option Terms → ℕ → List Terms → List Terms
moved_as None n ts = ts
moved_as (Some t) n ts = without n ts ++ t ∷ []

abbrev pub stop_moved : Quote → List Terms → ℕ → List Terms
stop_moved q ts n = moved_as (stop_at q n ts) n ts

-- the shares that one number trades, as a fill with itself
abbrev pub lone_fill : ℕ → ℕ → Fill
lone_fill n q = record { buyer = n; seller = n; price = 0; quantity = q }
