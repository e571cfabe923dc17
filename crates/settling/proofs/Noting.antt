-- The numbers of the stops that a quote triggers.
use Rattle.std.proofs.Common.{◌≡◌, ℕ, List, ◌∷◌, length, Some, filter, ◌∙◌, ⊎_elim}
use Rattle.std.proofs.lemmas.List.{length-map}
use Rattle.std.proofs.lemmas.List.Sums.{length-filter}
use Rattle.std.proofs.lemmas.Bool.{cases_Bool}
use Rattle.std.specs.Option.{option_map}
use Rattle.orders.specs.declared.terms.Terms.{Terms}
use Rattle.pricing.specs.Stops.{triggered_by, triggered_form, stop_count}
use Rattle.pricing.specs.declared.quote.Quote.{Quote}
use Rattle.settling.specs.Steps.{stop_numbers}

module _ (q : Quote) where
  -- the first order is triggered
  pub first_noted : (t : Terms) (ts : List Terms) (n : ℕ) → Some n ≡ option_map (λ u. u.number) (triggered_form q t) → stop_numbers q (t ∷ ts) ≡ n ∷ stop_numbers q ts
  first_noted t ts n e = ⊎_elim (λ b. let k = rw b at e in rw b cc) (λ b. let k = rw b at e in cc) (cases_Bool (triggered_by q t))

  pub as_many : (ts : List Terms) → length (stop_numbers q ts) ≡ stop_count q ts
  as_many ts = length-map (filter (triggered_by q) ts) (λ t. t.number) ∙ length-filter (triggered_by q) ts
