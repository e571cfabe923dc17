-- The stops, triggered twice, are as triggered once.
use Rattle.std.proofs.Common.{◌≡◌, false, not, List, ◌++◌, map, filter, refl, ap, ◌∙◌}
use Rattle.std.proofs.ByRecursion.{All-weaker, All-append, All-map, kept_by_passes}
use Rattle.std.proofs.lemmas.List.{append-nil}
use Rattle.std.proofs.lemmas.Bool.{not-true, not_from_false}
use Rattle.std.specs.List.{AllByRecursion}
use Rattle.orders.specs.declared.terms.Kind.{Kind}
use Rattle.orders.specs.declared.terms.Kind.TheVariants.{Market, Limit, StopMarket, StopLimit}
use Rattle.orders.specs.declared.terms.Side.{Side}
use Rattle.orders.specs.declared.terms.Terms.{Terms}
use Rattle.pricing.proofs.Filters.{kept_none, kept_all, all_every}
use Rattle.pricing.specs.Stops.{triggers_kind, triggered_by, ready_kind, made_ready, staying_orders, triggered_orders, after_stops}
use Rattle.pricing.specs.declared.quote.Quote.{Quote}

ready_quiet : (q : Quote) (side : Side) (k : Kind) → triggers_kind q side (ready_kind k) ≡ false
ready_quiet q side Market = refl
ready_quiet q side (Limit l) = refl
ready_quiet q side (StopMarket s) = refl
ready_quiet q side (StopLimit l s) = refl

-- after the stops no order triggers
pub quiet : (q : Quote) (ts : List Terms) → AllByRecursion (λ t. triggered_by q t ≡ false) (after_stops q ts)
quiet q ts =
    All-append (λ t. triggered_by q t ≡ false) (staying_orders q ts) (triggered_orders q ts)
    (All-weaker _ _ (λ t e. not-true (triggered_by q t) e) (staying_orders q ts) (kept_by_passes (λ t. not (triggered_by q t)) ts))
    (All-map (λ t. triggered_by q t ≡ false) made_ready (filter (triggered_by q) ts) (all_every _ (λ t. ready_quiet q t.side t.kind) (filter (triggered_by q) ts)))

pub settled : (q : Quote) (ts : List Terms) → after_stops q (after_stops q ts) ≡ after_stops q ts
settled q ts =
    let us = after_stops q ts in
    ap (λ l. l ++ triggered_orders q us) (kept_all (λ t. not (triggered_by q t)) us (All-weaker _ _ (λ t e. not_from_false (triggered_by q t) e) us (quiet q ts)))
    ∙ ap (λ l. us ++ map made_ready l) (kept_none (triggered_by q) us (quiet q ts))
    ∙ append-nil us
